-- What serving says if the bytes of the source and the sink are known.
use Rattle.std.proofs.Common.{◌≡◌, ◌≤◌, None, length, length-append, arith, ℕ, List, [], ◌++◌, Option, Some, Result}
use Rattle.std.proofs.Common.{refl, sym, ap, ◌∙◌, subst}
use Rattle.std.proofs.lemmas.List.{append-nil, append_cancel_right, append_cancel_left}
use Rattle.std.specs.Io.KnownBytes.{Appends, Consumes}
use Rattle.cv_frame.specs.Message.{Message}
use Rattle.cv_frame.specs.Cut.{messages_of}
use Rattle.cv_machine.specs.Machine.{Turn, IsSomeAnswer, Progress, NoneLacks, BeginsAnswer}
use Rattle.cv_machine.proofs.Isolation.{headline, none_only}
use Rattle.cv_machine.proofs.Begun.{begins_answer}
use Rattle.cv_loop.specs.Serving.{Serving, Gave, Took, Ending, ending_of, IsUnbroken, IsAll, AnswersEach, ServesEach}
use Rattle.cv_loop.specs.Serving.{IsHeadline}
use Rattle.cv_loop.specs.declared.serving.Served.{Served}
use Rattle.cv_loop.specs.declared.fault.ServeFault.{ServeFault}

same_given : (left left' : Option (List ℕ)) (g g' : List ℕ) → Gave left left' g → Consumes left left' g' → g ≡ g'
same_given left left' g g' p q =
    let a : Consumes (Some (g ++ p.0)) left' g' = subst (λ (o : Option (List ℕ)). Consumes o left' g') p.1 q in
    let b : Consumes (Some (g ++ p.0)) (Some p.0) g' =
    subst (λ (o : Option (List ℕ)). Consumes (Some (g ++ p.0)) o g') p.2 a in
    append_cancel_right g g' p.0 b

-- A sink whose bytes are known took only one byte string.
pub same_written : (held held' : Option (List ℕ)) (w w' : List ℕ) → Took held held' w → Appends held held' w' → w ≡ w'
same_written held held' w w' p q =
    let a : Appends (Some p.0) held' w' = subst (λ (o : Option (List ℕ)). Appends o held' w') p.1 q in
    let b : Appends (Some p.0) (Some (p.0 ++ w)) w' = subst (λ (o : Option (List ℕ)). Appends (Some p.0) o w') p.2 a in
    append_cancel_left p.0 w w' b

module _ {Table : Type 0} {turn : Turn Table} where
  all_answered : (old new : ℕ → Table) (given written : List ℕ) (later : List Message) (unwritten : List ℕ)
      → IsAll given later unwritten
      → Progress turn old (messages_of given) later written unwritten new → AnswersEach turn old given written
  all_answered old new given written later unwritten w p =
      let a : Progress turn old (messages_of given) [] written unwritten new =
      subst (λ (ms : List Message). Progress turn old (messages_of given) ms written unwritten new) w.ran p in
      let b : Progress turn old (messages_of given) [] written [] new =
      subst (λ (x : List ℕ). Progress turn old (messages_of given) [] written x new) w.wrote a in
      let h = headline turn old new given written w.fits b in
      record { all = h.0; each = h.1 }

  answered : (result : Result Served ServeFault) (old new : ℕ → Table) (left left' held held' : Option (List ℕ))
      (pulls max : ℕ) → Serving turn result old new left left' held held' pulls max → (given written : List ℕ) → Gave
      left left' given → Took held held' written → IsUnbroken (ending_of result) → AnswersEach turn old given written
  answered result old new left left' held held' pulls max s given written gave took unbroken =
      let g : given ≡ s.given = same_given left left' given s.given gave s.gave in
      let w : written ≡ s.written = same_written held held' written s.written took s.took in
      let h = all_answered old new s.given s.written s.later s.unwritten (s.all unbroken) s.ran in
      subst (λ (x : List ℕ). AnswersEach turn old x written) (sym g)
      (subst (λ (x : List ℕ). AnswersEach turn old s.given x) (sym w) h)

  -- if no reply says that an allocation failed
  all_served : (old : ℕ → Table) (given written : List ℕ) → AnswersEach turn old given written
      → NoneLacks (messages_of written) → ServesEach turn old given written
  all_served old given written p none =
      record { all = (p.all, none); each = λ c. (p.each c, none_only turn old c given written p.all none) }

  begun : IsSomeAnswer turn → (result : Result Served ServeFault) (old new : ℕ → Table)
      (left left' held held' : Option (List ℕ)) (pulls max : ℕ)
      → Serving turn result old new left left' held held' pulls max → (given written : List ℕ) → Gave left left' given
      → Took held held' written → BeginsAnswer turn old given written
  begun law result old new left left' held held' pulls max s given written gave took =
      let g : given ≡ s.given = same_given left left' given s.given gave s.gave in
      let w : written ≡ s.written = same_written held held' written s.written took s.took in
      subst (λ (x : List ℕ). BeginsAnswer turn old x written) (sym g) (subst (λ (x : List ℕ). BeginsAnswer turn old
      s.given x) (sym w) (begins_answer turn law old new s.given s.later s.written s.unwritten s.ran))

  -- What serving did is what the headline says.
  pub is_headline : IsSomeAnswer turn → (result : Result Served ServeFault) (old new : ℕ → Table)
      (left left' held held' : Option (List ℕ)) (pulls max : ℕ)
      → Serving turn result old new left left' held held' pulls max → (given written : List ℕ) → Gave left left' given
      → Took held held' written → IsHeadline turn (ending_of result) old given written
  is_headline law result old new left left' held held' pulls max s given written gave took = record {
    answered = answered result old new left left' held held' pulls max s given written gave took;
    served = λ unbroken none. all_served old given written
        (answered result old new left left' held held' pulls max s given written gave took unbroken) none;
    begun = begun law result old new left left' held held' pulls max s given written gave took;
  }

  -- The headline holds for another ending too, if this one is unbroken whenever the other is.
  pub other_ending : (e f : Ending) (tables : ℕ → Table) (given written : List ℕ) → (IsUnbroken f → IsUnbroken e)
      → IsHeadline turn e tables given written → IsHeadline turn f tables given written
  other_ending e f tables given written unbroken h = record {
    answered = λ u. h.answered (unbroken u);
    served = λ u none. h.served (unbroken u) none;
    begun = h.begun;
  }

-- A source that has no bytes left gave all that it had.
pub all_gave : (left : Option (List ℕ)) (bytes rest : List ℕ) → left ≡ Some bytes → rest ≡ []
    → Gave left (Some rest) bytes
all_gave left bytes rest is end =
    (rest, is ∙ ap Some (sym (append-nil bytes) ∙ ap (λ (x : List ℕ). bytes ++ x) (sym end)), refl)

-- What a source gave and what it has left are what it had.
pub gave_front : (left : Option (List ℕ)) (bytes rest given : List ℕ) → left ≡ Some bytes
    → Consumes left (Some rest) given → bytes ≡ given ++ rest
gave_front None bytes rest given is p = absurd cc
gave_front (Some b) bytes rest given is p = let q : b ≡ given ++ rest = p in cc

-- A source gives no more than it had.
pub gave_few : (left left' : Option (List ℕ)) (bytes given : List ℕ) → left ≡ Some bytes → Consumes left left' given
    → length given ≤ length bytes
gave_few None left' bytes given is p = absurd cc
gave_few (Some b) None bytes given is p = absurd p
gave_few (Some b) (Some rest) bytes given is p =
    let same : b ≡ bytes = cc in
    omega (arith, ap length p, ap length same, length-append given rest)

-- A sink that was empty at first took all that it holds.
pub all_took : (began held : Option (List ℕ)) (bytes : List ℕ) → began ≡ Some [] → Some bytes ≡ held
    → Took began held bytes
all_took began held bytes none is = ([], none, sym is)
