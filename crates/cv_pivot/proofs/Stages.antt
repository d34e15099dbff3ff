-- A conversion in two stages: of a prefix of a text, or into less room, and then of the rest.
use Rattle.std.proofs.Common.{◌≡◌, ◌≢◌, ℕ, ◌+◌, ◌≤◌, inl, inr, List, [], ◌∷◌, ◌++◌, length, drop, refl, sym, ◌∙◌}
use Rattle.std.proofs.Common.{ap, subst, arith, length-append, length-drop}
use Rattle.std.proofs.lemmas.Bool.{cases_lt}
use Rattle.std.proofs.lemmas.List.{drop-drop}
use Rattle.cv_base.specs.Items.{Taken, ItemRelation, Begins, NoneStands}
use Rattle.cv_base.specs.Codecs.{Writing, IsReadable}
use Rattle.cv_base.specs.Chains.{IsChain, used_bytes, read_state, Output, followed, output_of}
use Rattle.cv_base.specs.Policies.{Allows}
use Rattle.cv_base.specs.declared.policy.Policy.{Policy}
use Rattle.cv_base.specs.declared.policy.Policy.TheVariants.{Substitute, Strict}
use Rattle.cv_base.specs.declared.state.ReadState.{ReadState}
use Rattle.cv_base.specs.declared.state.WriteState.{WriteState}
use Rattle.cv_base.proofs.ChainLaws.{used_bytes-append, read_state-append, output_of-append, IsChain-append}
use Rattle.cv_base.proofs.Front.{Begins-length, stands_within}
use Rattle.cv_pivot.specs.Conversions.{StopsAt, IsLongest, Converted, IsConverted}
use Rattle.cv_pivot.specs.declared.outcome.States.{States}
use Rattle.cv_pivot.specs.declared.outcome.Stop.{Stop}
use Rattle.cv_pivot.specs.declared.outcome.Stop.TheVariants.{Done, TooBig, Ill, Incomplete, Lacking}
use Rattle.cv_pivot.proofs.Allowed.{followed_allowed}
use Rattle.cv_pivot.proofs.CutLaws.{IsChain-more, not_longer, not_past}
use Rattle.cv_pivot.proofs.LongestChains.{Longer, longer}

-- the result of a first conversion and then of one of the rest
abbrev pub joined : Converted → Converted → Converted
joined c d =
    record { left = d.left; count = c.count + d.count; stop = d.stop; output = c.output ++ d.output; states = d.states }

-- the items of a chain after its first ones
behind : (reads : ItemRelation) (s : ReadState) (text : List ℕ) (a b : List Taken) → IsChain reads s text (a ++ b)
    → IsChain reads (read_state s a) (drop (used_bytes a) text) b
behind reads s text [] b p = p
behind reads s text (i ∷ a) b p = subst (λ (x : List ℕ). IsChain reads (read_state i.next a) x b)
    (drop-drop (used_bytes a) i.used text) (behind reads i.next (drop i.used text) a b p.1)

last_allowed : (policy : Policy) (a b : Output) → Allows policy (followed a b) → Allows policy b
last_allowed Substitute a b p = tt
last_allowed Strict a b p = omega (arith, p)

module _ (reads : ItemRelation) (writes : Writing) (policy : Policy) (r : IsReadable reads) where
  -- The longest chain of a text begins with that of a prefix of the text, or of less room, and continues with that of
  -- the rest.
  join_longest : (from mid : States) (text : List ℕ) (room : ℕ) (a b : List Taken) → IsChain reads from.reading text a
      → Allows policy (output_of writes from.writing a)
      → mid.reading ≡ read_state from.reading a → mid.writing ≡ (output_of writes from.writing a).next
      → IsLongest reads writes policy mid.reading mid.writing (drop (used_bytes a) text) room b → IsLongest reads writes
      policy from.reading from.writing text (length (output_of writes from.writing a).bytes + room) (a ++ b)
  join_longest from mid text room a b is_chain ok reading writing q =
      let o : Output = output_of writes from.writing a in
      let v : Output = output_of writes o.next b in
      let e = output_of-append writes from.writing a b in
      let same : output_of writes mid.writing b ≡ v = ap (λ (t : WriteState). output_of writes t b) writing in
      let short : length v.bytes ≤ room = subst (λ (x : Output). length x.bytes ≤ room) same q.fits in
      let rest_ok : Allows policy v = subst (λ (x : Output). Allows policy x) same q.allowed in
      record {
        is_chain = IsChain-append reads from.reading text a b is_chain
            (subst (λ (s : ReadState). IsChain reads s (drop (used_bytes a) text) b) reading q.is_chain);
        fits = omega (arith, ap (λ (x : Output). length x.bytes) e, length-append o.bytes v.bytes, short);
        allowed = subst (λ (x : Output). Allows policy x) (sym e) (followed_allowed policy o v ok rest_ok);
        longest = λ other p fits allowed. elim (cases_lt (length a) (length other)) [
          | inl l ↦
              let more : Longer reads from.reading text a other =
              longer reads r from.reading text a other is_chain p l in
              let tail : List Taken = more.item ∷ more.items in
              let w : Output = output_of writes o.next tail in
              let is : output_of writes from.writing other ≡ followed o w = ap (output_of writes from.writing) more.is
              ∙ output_of-append writes from.writing a tail in
              let back : output_of writes mid.writing tail ≡ w =
              ap (λ (t : WriteState). output_of writes t tail) writing in
              let chain : IsChain reads (read_state from.reading a) (drop (used_bytes a) text) tail = behind reads
              from.reading text a tail (subst (λ (x : List Taken). IsChain reads from.reading text x) more.is p) in
              let long : length w.bytes ≤ room =
              omega (arith, fits, ap (λ (x : Output). length x.bytes) is, length-append o.bytes w.bytes) in
              let fine : Allows policy w =
              last_allowed policy o w (subst (λ (x : Output). Allows policy x) is allowed) in
              let most = q.longest tail (subst (λ (s : ReadState). IsChain reads s (drop (used_bytes a) text) tail)
              (sym reading) chain) (subst (λ (x : Output). length x.bytes ≤ room) (sym back) long)
              (subst (λ (x : Output). Allows policy x) (sym back) fine) in
              omega (arith, most, ap length more.is, length-append a tail, length-append a b)
          | inr l ↦ omega (arith, l, length-append a b)
        ];
      }

  -- A conversion of a prefix of a text, or into less room, and then of the rest, is a conversion of the text.
  pub join_stages : (from : States) (text input : List ℕ) (part room used : ℕ) (c d : Converted) → Begins input text
      → used + c.left ≡ length input → IsConverted reads writes policy from input part c
      → IsConverted reads writes policy c.states (drop used text) room d
      → IsConverted reads writes policy from text (length c.output + room) (joined c d)
  join_stages from text input part room used c d front uses p q =
      let a = p.chain in
      let b = q.chain in
      let u : used ≡ used_bytes a = omega (arith, p.left, uses) in
      let o : Output = output_of writes from.writing a in
      let v : Output = output_of writes o.next b in
      let e = output_of-append writes from.writing a b in
      let same : output_of writes c.states.writing b ≡ v = ap (λ (t : WriteState). output_of writes t b) p.writing in
      let first : IsChain reads from.reading text a =
      IsChain-more reads from.reading input text a front p.longest.is_chain in
      let rest : IsLongest reads writes policy c.states.reading c.states.writing (drop (used_bytes a) text) room b =
      subst
      (λ (n : ℕ). IsLongest reads writes policy c.states.reading c.states.writing (drop n text) room b) u q.longest in
      let long = join_longest from c.states text room a b first p.longest.allowed p.reading p.writing rest in
      record {
        chain = a ++ b;
        longest = subst (λ (x : List ℕ). IsLongest reads writes policy from.reading from.writing text (length x + room)
            (a ++ b)) (sym p.output) long;
        left = omega
            (arith, used_bytes-append a b, q.left, length-drop used text, u, Begins-length input text front, uses);
        stop = subst (λ (x : List ℕ). StopsAt reads writes policy d.states x d.stop) (drop-drop (used_bytes b) used text
            ∙ ap (λ (n : ℕ). drop n text) (omega (arith, u, used_bytes-append a b))) q.stop;
        count = ap (λ (n : ℕ). n + d.count) p.count ∙ ap (λ (n : ℕ). o.count + n)
            (q.count ∙ ap (λ (x : Output). x.count) same) ∙ sym (ap (λ (x : Output). x.count) e);
        output = ap (λ (x : List ℕ). x ++ d.output) p.output ∙ ap (λ (x : List ℕ). o.bytes ++ x)
            (q.output ∙ ap (λ (x : Output). x.bytes) same) ∙ sym (ap (λ (x : Output). x.bytes) e);
        reading = q.reading ∙ ap (λ (s : ReadState). read_state s b) p.reading
            ∙ sym (read_state-append from.reading a b);
        writing = q.writing ∙ ap (λ (x : Output). x.next) same ∙ sym (ap (λ (x : Output). x.next) e);
      }

  -- If a conversion stops for another reason than the room, no chain goes further.
  none_further : (from end : States) (text : List ℕ) (used : ℕ) (a b : List Taken) (stop : Stop)
      → stop ≢ TooBig → IsChain reads from.reading text a → IsChain reads from.reading text b
      → Allows policy (output_of writes from.writing b)
      → end.reading ≡ read_state from.reading a → end.writing ≡ (output_of writes from.writing a).next
      → used ≡ used_bytes a → StopsAt reads writes policy end (drop used text) stop → length b ≤ length a
  none_further from end text used a b Done fits p q ok reading writing u at =
      let none : NoneStands reads end.reading (drop used text) =
      (λ item stands. omega (arith, stands_within reads r end.reading (drop used text) item stands, ap length at)) in
      not_longer reads r from.reading text a b end.reading used p q reading u none
  none_further from end text used a b TooBig fits p q ok reading writing u at = absurd (fits refl)
  none_further from end text used a b Ill fits p q ok reading writing u at =
      not_longer reads r from.reading text a b end.reading used p q reading u at.1
  none_further from end text used a b Incomplete fits p q ok reading writing u at =
      not_longer reads r from.reading text a b end.reading used p q reading u at.1
  none_further from end text used a b Lacking fits p q ok reading writing u at =
      not_past reads writes policy r from end text used a b p q ok reading writing u at

  -- A conversion that stops for another reason than the room is the same in more room.
  pub more_room : (from : States) (text : List ℕ) (part room : ℕ) (c : Converted) → part ≤ room → c.stop ≢ TooBig
      → IsConverted reads writes policy from text part c → IsConverted reads writes policy from text room c
  more_room from text part room c within roomy p = record {
    chain = p.chain;
    longest = record {
      is_chain = p.longest.is_chain;
      fits = omega (arith, p.longest.fits, within);
      allowed = p.longest.allowed;
      longest = λ other is_chain fits allowed. none_further from c.states text (used_bytes p.chain) p.chain other c.stop
          roomy p.longest.is_chain is_chain allowed p.reading p.writing refl p.stop;
    };
    left = p.left;
    stop = p.stop;
    count = p.count;
    output = p.output;
    reading = p.reading;
    writing = p.writing;
  }
