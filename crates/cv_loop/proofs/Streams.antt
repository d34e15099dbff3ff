-- What holds between two reads, and what is left at each end.
use Rattle.std.proofs.Common.{◌≡◌, ◌≢◌, ℕ, ◌+◌, ◌<◌, ◌≤◌, true, false, Bool, List, [], ◌++◌, length, drop, Option}
use Rattle.std.proofs.Common.{Result, Ok, Err, refl, sym, ap, subst, ◌∙◌, append_assoc, arith, length-append}
use Rattle.std.specs.List.{AllByRecursion}
use Rattle.std.proofs.lemmas.List.{append-nil}
use Rattle.std.proofs.KnownBytes.{Consumes-nil, Consumes-trans}
use Rattle.std.specs.Io.KnownBytes.{Consumes}
use Rattle.cv_frame.specs.Message.{Message, joined, FitsFrame}
use Rattle.cv_frame.specs.Cut.{front_of, Cut, messages_of, rest_of, IsRest}
use Rattle.cv_frame.specs.declared.reading.Frame.TheVariants as at_front
use Rattle.cv_machine.specs.Machine.{Turn, Progress}
use Rattle.cv_machine.proofs.Runs.{Progress-later, all-append}
use Rattle.cv_frame.proofs.Cuts.{cut_only, cut-joined, front_short}
use Rattle.cv_loop.specs.Serving.{Serving, EndsWhere, IsAll, saturated, ending_of, met_the_end, read_failed}
use Rattle.cv_loop.specs.Serving.{write_failed}
use Rattle.cv_loop.specs.Private.Draining.{Broken, Answered, Drained, Stopped, ReadsMore}
use Rattle.cv_loop.specs.declared.serving.Served.{Served}
use Rattle.cv_loop.specs.declared.fault.ServeFault.{ServeFault}
use Rattle.cv_loop.specs.declared.fault.ServeFault.TheVariants as fault
use Rattle.cv_loop.proofs.Flows.{Answered-none, Answered-then, Broken-then, joined-append}

-- All whole frames of what was given so far were answered, and less than a frame is held.
pub record Standing {Table : Type 0} (turn : Turn Table) (s t : ℕ → Table) (left left' sunk sunk' : Option (List ℕ))
    (held : List ℕ) (served written reads : ℕ) : Type 0 where
  pub given : List ℕ
  pub asked : List Message
  pub gave : Consumes left left' given
  pub fits : AllByRecursion FitsFrame asked
  pub front : given ≡ joined asked ++ held
  pub answered : Answered turn s sunk sunk' asked t 0 written
  pub counts : served ≡ saturated (length asked)
  pub few : reads ≤ length given
  pub partial : front_of held ≡ at_front.Partial

module _ {Table : Type 0} {turn : Turn Table} where
  pub Standing-none : (s : ℕ → Table) (left sunk : Option (List ℕ)) → Standing turn s s left left sunk sunk [] 0 0 0
  Standing-none s left sunk = record {
    given = [];
    asked = [];
    gave = Consumes-nil left;
    fits = tt;
    front = refl;
    answered = Answered-none s sunk 0 (omega arith);
    counts = refl;
    few = omega arith;
    partial = front_short [] (omega arith);
  }

front_on : (given held held' bytes rest : List ℕ) (asked more : List Message) → given ≡ joined asked ++ held
    → held' ≡ held ++ bytes → held' ≡ joined more ++ rest → given ++ bytes ≡ joined (asked ++ more) ++ rest
front_on given held held' bytes rest asked more p q r = ap (λ (x : List ℕ). x ++ bytes) p
    ∙ append_assoc (joined asked) held bytes ∙ ap (λ (x : List ℕ). joined asked ++ x) (sym q ∙ r) ∙ sym
    (append_assoc (joined asked) (joined more) rest) ∙ ap (λ (x : List ℕ). x ++ rest) (sym (joined-append asked more))

module _ {Table : Type 0} {turn : Turn Table} where
  -- one more read, after which all whole frames were answered
  pub Standing-more : (s t u : ℕ → Table) (left left' left'' sunk sunk' sunk'' : Option (List ℕ))
      (held held' bytes : List ℕ) (used : ℕ) (k l a b r : ℕ)
      → Standing turn s t left left' sunk sunk' held k a r → Consumes left' left'' bytes → held' ≡ held ++ bytes → 0
      < length bytes → Drained turn t sunk' sunk'' held' used u a b k l → front_of (drop used held') ≡ at_front.Partial
      → Standing turn s u left left'' sunk sunk'' (drop used held') l b (r + 1)
  Standing-more s t u left left' left'' sunk sunk' sunk'' held held' bytes used k l a b r p gave more some q partial =
      record {
        given = p.given ++ bytes;
        asked = p.asked ++ q.asked;
        gave = Consumes-trans left left' left'' p.given bytes p.gave gave;
        fits = all-append p.asked q.asked p.fits q.fits;
        front = front_on p.given held held' bytes (drop used held') p.asked q.asked p.front more q.front;
        answered = Answered-then s t u sunk sunk' sunk'' p.asked q.asked 0 a b p.answered q.answered;
        counts = q.counts ∙ ap (λ (n : ℕ). saturated (n + length q.asked)) p.counts
            ∙ omega (arith, length-append p.asked q.asked);
        few = omega (arith, p.few, some, length-append p.given bytes);
        partial = partial;
      }

rest_partial : (rest : List ℕ) → front_of rest ≡ at_front.Partial → IsRest rest
rest_partial rest e m n h = absurd cc

rest_bad : (rest : List ℕ) (l : ℕ) → front_of rest ≡ at_front.Bad l → IsRest rest
rest_bad rest l e m n h = absurd cc

-- a count that began at 0 is that of what was added
from_none : (n w : ℕ) → n ≡ saturated (0 + w) → n ≡ saturated w
from_none n w e = omega (arith, e)

-- what was given is these frames, which were all answered, and this rest
record Whole {Table : Type 0} (turn : Turn Table) (s t : ℕ → Table) (given rest : List ℕ) (asked : List Message)
    (written : List ℕ) : Type 0 where
  pub ran : Progress turn s (messages_of given) [] written [] t
  pub same_rest : rest_of given ≡ rest
  pub frames : messages_of given ≡ asked
  pub all : IsAll given [] []

module _ {Table : Type 0} {turn : Turn Table} where
  whole : (s t : ℕ → Table) (sunk sunk' : Option (List ℕ)) (given rest : List ℕ) (asked : List Message) (a b : ℕ)
      → given ≡ joined asked ++ rest → AllByRecursion FitsFrame asked → IsRest rest
      → (p : Answered turn s sunk sunk' asked t a b) → Whole turn s t given rest asked p.written
  whole s t sunk sunk' given rest asked a b front fits ends p =
      let cut = cut_only given asked rest (record { whole = front; fits = fits; ends = ends }) in
      record {
        ran = subst (λ (ms : List Message). Progress turn s ms [] p.written [] t) (sym cut.0) p.wrote.ran;
        same_rest = cut.1;
        frames = cut.0;
        all = record { ran = refl; wrote = refl; fits = subst (AllByRecursion FitsFrame) (sym cut.0) fits };
      }

  -- Serving ends after a read that brought nothing, and all whole frames were answered.
  ends_standing : (result : Result Served ServeFault) (s t : ℕ → Table) (left left' left'' sunk sunk' : Option (List ℕ))
      (held bytes : List ℕ) (k a r pulls max : ℕ)
      → Standing turn s t left left' sunk sunk' held k a r → Consumes left' left'' bytes → bytes ≡ []
      → ((frames : List Message) (written : List ℕ) → k ≡ saturated (length frames) → front_of held ≡ at_front.Partial
      → EndsWhere result frames held written pulls max) → (result ≡ Err fault.TooManyReads → max ≤ r)
      → Serving turn result s t left left'' sunk sunk' pulls max
  ends_standing result s t left left' left'' sunk sunk' held bytes k a r pulls max p gave none ends enough =
      let w = whole s t sunk sunk' p.given held p.asked 0 a p.front p.fits (rest_partial held p.partial) p.answered in
      let same : p.given ++ bytes ≡ p.given = ap (λ (x : List ℕ). p.given ++ x) none ∙ append-nil p.given in
      record {
        given = p.given;
        gave = subst (λ (x : List ℕ). Consumes left left'' x) same
            (Consumes-trans left left' left'' p.given bytes p.gave gave);
        written = p.answered.written;
        took = p.answered.wrote.took;
        later = [];
        unwritten = [];
        ran = w.ran;
        all = λ u. w.all;
        ends = subst (λ (rest : List ℕ). EndsWhere result (messages_of p.given) rest p.answered.written pulls max)
            (sym w.same_rest) (ends (messages_of p.given) p.answered.written
            (p.counts ∙ ap (λ (ms : List Message). saturated (length ms)) (sym w.frames)) p.partial);
        enough = λ e. omega (arith, enough e, p.few);
      }

  pub Serving-ok : (served : Served) (s t : ℕ → Table) (left left' left'' sunk sunk' : Option (List ℕ))
      (held bytes : List ℕ) (k a r pulls max : ℕ)
      → Standing turn s t left left' sunk sunk' held k a r → Consumes left' left'' bytes → bytes ≡ [] → held ≡ []
      → served.requests ≡ k → Serving turn (Ok served) s t left left'' sunk sunk' pulls max
  Serving-ok served s t left left' left'' sunk sunk' held bytes k a r pulls max p gave none empty count =
      ends_standing (Ok served) s t left left' left'' sunk sunk' held bytes k a r pulls max p gave none
      (λ frames written counts partial. (empty, count ∙ counts)) (λ e. absurd cc)

  pub Serving-truncated : (s t : ℕ → Table) (left left' left'' sunk sunk' : Option (List ℕ)) (held bytes : List ℕ)
      (k a r pulls max : ℕ) → Standing turn s t left left' sunk sunk' held k a r → Consumes left' left'' bytes
      → bytes ≡ [] → held ≢ [] → Serving turn (Err fault.TruncatedFrame) s t left left'' sunk sunk' pulls max
  Serving-truncated s t left left' left'' sunk sunk' held bytes k a r pulls max p gave none some =
      ends_standing (Err fault.TruncatedFrame) s t left left' left'' sunk sunk' held bytes k a r pulls max p gave none
      (λ frames written counts partial. (some, partial)) (λ e. absurd cc)

  pub Serving-reads : (s t : ℕ → Table) (left left' sunk sunk' : Option (List ℕ)) (held : List ℕ) (k a r pulls max : ℕ)
      → Standing turn s t left left' sunk sunk' held k a r → pulls ≡ max → max ≡ r
      → Serving turn (Err fault.TooManyReads) s t left left' sunk sunk' pulls max
  Serving-reads s t left left' sunk sunk' held k a r pulls max p enough all =
      ends_standing (Err fault.TooManyReads) s t left left' left' sunk sunk' held [] k a r pulls max p
      (Consumes-nil left') refl (λ frames written counts partial. (partial, enough)) (λ e. omega (arith, all))

  -- a read failed, or an allocation for its bytes did
  pub Serving-unread : (f : ServeFault) (s t : ℕ → Table) (left left' left'' sunk sunk' : Option (List ℕ))
      (held held' bytes : List ℕ) (k a r : ℕ) (end failed : Bool) (pulls max : ℕ)
      → Standing turn s t left left' sunk sunk' held k a r → Consumes left' left'' bytes
      → ReadsMore (Err f) held held' bytes end failed → Serving turn (Err f) s t left left'' sunk sunk' pulls max
  Serving-unread fault.Read s t left left' left'' sunk sunk' held held' bytes k a r end failed pulls max p gave why =
      ends_standing (Err fault.Read) s t left left' left'' sunk sunk' held bytes k a r pulls max p gave why.0
      (λ frames written counts partial. partial) (λ e. absurd cc)
  Serving-unread fault.Memory s t left left' left'' sunk sunk' held held' bytes k a r end failed pulls max p gave why =
      let e = cut-joined p.asked (held ++ bytes) p.fits in
      let front : p.given ++ bytes ≡ joined p.asked ++ (held ++ bytes) = ap (λ (x : List ℕ). x ++ bytes) p.front
      ∙ append_assoc (joined p.asked) held bytes in
      let all : messages_of (p.given ++ bytes) ≡ p.asked ++ messages_of (held ++ bytes) = ap messages_of front
      ∙ ap (λ (c : Cut). c.messages) e in
      record {
        given = p.given ++ bytes;
        gave = Consumes-trans left left' left'' p.given bytes p.gave gave;
        written = p.answered.written;
        took = p.answered.wrote.took;
        later = messages_of (held ++ bytes);
        unwritten = [];
        ran = subst (λ (ms : List Message). Progress turn s ms (messages_of (held ++ bytes)) p.answered.written [] t)
            (sym all) (Progress-later turn s t p.asked []
            (messages_of (held ++ bytes)) p.answered.written [] p.answered.wrote.ran);
        all = λ u. absurd u;
        ends = tt;
        enough = λ e. absurd cc;
      }
  Serving-unread fault.TruncatedFrame s t left left' left'' sunk sunk' held held' bytes k a r end failed pulls max p
      gave why = absurd why
  Serving-unread (fault.BadLength n) s t left left' left'' sunk sunk' held held' bytes k a r end failed pulls max p gave
      why = absurd why
  Serving-unread (fault.Write n) s t left left' left'' sunk sunk' held held' bytes k a r end failed pulls max p gave
      why = absurd why
  Serving-unread fault.TooManyReads s t left left' left'' sunk sunk' held held' bytes k a r end failed pulls max p gave
      why = absurd why

  -- a run broke off within the bytes that were held
  broken_off : (s u : ℕ → Table) (sunk sunk' : Option (List ℕ)) (given rest : List ℕ) (asked : List Message) (a : ℕ)
      (f : ServeFault) (failed : Bool) → given ≡ joined asked ++ rest → AllByRecursion FitsFrame asked
      → (b : Broken turn s sunk sunk' asked u a f failed)
      → Progress turn s (messages_of given) (b.later ++ messages_of rest) b.written b.unwritten u
  broken_off s u sunk sunk' given rest asked a f failed front fits b =
      let all : messages_of given ≡ asked ++ messages_of rest = ap messages_of front
      ∙ ap (λ (c : Cut). c.messages) (cut-joined asked rest fits) in
      subst (λ (ms : List Message). Progress turn s ms (b.later ++ messages_of rest) b.written b.unwritten u) (sym all)
      (Progress-later turn s u asked b.later (messages_of rest) b.written b.unwritten b.wrote.ran)

  pub Serving-stops : (f : ServeFault) (s t u : ℕ → Table) (left left' left'' sunk sunk' sunk'' : Option (List ℕ))
      (held held' bytes : List ℕ) (k a r : ℕ) (failed : Bool) (pulls max : ℕ)
      → Standing turn s t left left' sunk sunk' held k a r → Consumes left' left'' bytes → held' ≡ held ++ bytes
      → Stopped turn f t sunk' sunk'' held' u a failed → Serving turn (Err f) s u left left'' sunk sunk'' pulls max
  Serving-stops (fault.BadLength n) s t u left left' left'' sunk sunk' sunk'' held held' bytes k a r failed pulls max p
      gave more q =
      let front = front_on p.given held held' bytes q.rest p.asked q.asked p.front more q.front in
      let answered = Answered-then s t u sunk sunk' sunk'' p.asked q.asked 0 a q.stops.0 p.answered q.stops.1 in
      let w = whole s u sunk sunk'' (p.given ++ bytes) q.rest (p.asked ++ q.asked) 0 q.stops.0 front
      (all-append p.asked q.asked p.fits q.fits) (rest_bad q.rest n q.stops.2) answered in
      record {
        given = p.given ++ bytes;
        gave = Consumes-trans left left' left'' p.given bytes p.gave gave;
        written = answered.written;
        took = answered.wrote.took;
        later = [];
        unwritten = [];
        ran = w.ran;
        all = λ u. w.all;
        ends = ap front_of w.same_rest ∙ q.stops.2;
        enough = λ e. absurd cc;
      }
  Serving-stops
      (fault.Write n) s t u left left' left'' sunk sunk' sunk'' held held' bytes k a r failed pulls max p gave more q =
      let front = front_on p.given held held' bytes q.rest p.asked q.asked p.front more q.front in
      let b = Broken-then s t u sunk sunk' sunk'' p.asked q.asked 0 a (fault.Write n) failed p.answered q.stops in
      record {
        given = p.given ++ bytes;
        gave = Consumes-trans left left' left'' p.given bytes p.gave gave;
        written = b.written;
        took = b.wrote.took;
        later = b.later ++ messages_of q.rest;
        unwritten = b.unwritten;
        ran = broken_off s u sunk sunk'' (p.given ++ bytes) q.rest (p.asked ++ q.asked) 0 (fault.Write n) failed front
            (all-append p.asked q.asked p.fits q.fits) b;
        all = λ u. absurd u;
        ends = from_none n (length b.written) b.why.0;
        enough = λ e. absurd cc;
      }
  Serving-stops fault.Memory s t u left left' left'' sunk sunk' sunk'' held held' bytes k a r failed pulls max p gave
      more q =
      let front = front_on p.given held held' bytes q.rest p.asked q.asked p.front more q.front in
      let b = Broken-then s t u sunk sunk' sunk'' p.asked q.asked 0 a fault.Memory failed p.answered q.stops in
      record {
        given = p.given ++ bytes;
        gave = Consumes-trans left left' left'' p.given bytes p.gave gave;
        written = b.written;
        took = b.wrote.took;
        later = b.later ++ messages_of q.rest;
        unwritten = b.unwritten;
        ran = broken_off s u sunk sunk'' (p.given ++ bytes) q.rest (p.asked ++ q.asked) 0 fault.Memory failed front
            (all-append p.asked q.asked p.fits q.fits) b;
        all = λ u. absurd u;
        ends = tt;
        enough = λ e. absurd cc;
      }
  Serving-stops fault.TruncatedFrame s t u left left' left'' sunk sunk' sunk'' held held' bytes k a r failed pulls max p
      gave more q = absurd q.stops
  Serving-stops fault.Read s t u left left' left'' sunk sunk' sunk'' held held' bytes k a r failed pulls max p gave more
      q = absurd q.stops
  Serving-stops fault.TooManyReads s t u left left' left'' sunk sunk' sunk'' held held' bytes k a r failed pulls max p
      gave more q = absurd q.stops

-- what a read at the end brings, and what the source says after it
pub at_the_end : (more : Bool) (old new bytes : List ℕ) (end failed : Bool) → more ≡ false
    → ReadsMore (Ok more) old new bytes end failed → (bytes ≡ []) × (new ≡ old) × (end ≡ true) × (failed ≡ false)
at_the_end true old new bytes end failed e r = absurd cc
at_the_end false old new bytes end failed e r =
    let none = r.1 refl in
    (none, r.0 ∙ ap (λ (x : List ℕ). old ++ x) none ∙ append-nil old, r.3, r.4)

-- a read that brought bytes did not reach the end
pub before_the_end : (more : Bool) (old new bytes : List ℕ) (end failed : Bool) → more ≡ true → ReadsMore
    (Ok more) old new bytes end failed → (new ≡ old ++ bytes) × (end ≡ false) × (failed ≡ false) × (0 < length bytes)
before_the_end true old new bytes end failed e r = (r.0, r.3, r.4, r.2 refl)
before_the_end false old new bytes end failed e r = absurd cc

-- what the source and the sink say after a read that broke serving off
pub unread_says : (f : ServeFault) (old new bytes : List ℕ) (end failed broken : Bool) → broken ≡ false
    → ReadsMore (Err f) old new bytes end failed → (end ≡ met_the_end (ending_of (Err f))) × (failed ≡ read_failed
    (ending_of (Err f))) × (broken ≡ write_failed (ending_of (Err f))) × (met_the_end (ending_of (Err f)) ≡ false)
unread_says fault.Read old new bytes end failed broken w why = (why.1, why.2, w, refl)
unread_says fault.Memory old new bytes end failed broken w why = (why.0, why.1, w, refl)
unread_says fault.TruncatedFrame old new bytes end failed broken w why = absurd why
unread_says (fault.BadLength n) old new bytes end failed broken w why = absurd why
unread_says (fault.Write n) old new bytes end failed broken w why = absurd why
unread_says fault.TooManyReads old new bytes end failed broken w why = absurd why

module _ {Table : Type 0} {turn : Turn Table} where
  -- what they say after a batch that broke serving off
  pub stopped_says : (f : ServeFault) (s t : ℕ → Table) (sunk sunk' : Option (List ℕ)) (bytes : List ℕ) (a : ℕ)
      (end failed broken : Bool) → end ≡ false → failed ≡ false
      → Stopped turn f s sunk sunk' bytes t a broken → (end ≡ met_the_end (ending_of (Err f))) × (failed ≡ read_failed
      (ending_of (Err f))) × (broken ≡ write_failed (ending_of (Err f))) × (met_the_end (ending_of (Err f)) ≡ false)
  stopped_says (fault.BadLength n) s t sunk sunk' bytes a end failed broken e r q = (e, r, q.stops.3, refl)
  stopped_says (fault.Write n) s t sunk sunk' bytes a end failed broken e r q = (e, r, q.stops.why.1, refl)
  stopped_says fault.Memory s t sunk sunk' bytes a end failed broken e r q = (e, r, q.stops.why, refl)
  stopped_says fault.TruncatedFrame s t sunk sunk' bytes a end failed broken e r q = absurd q.stops
  stopped_says fault.Read s t sunk sunk' bytes a end failed broken e r q = absurd q.stops
  stopped_says fault.TooManyReads s t sunk sunk' bytes a end failed broken e r q = absurd q.stops
