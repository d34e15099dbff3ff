-- Copying text that stays unchanged is a step.
use Rattle.std.proofs.Common.{◌≡◌, ℕ, ◌<◌, ◌+◌, ◌≤◌, List, ◌++◌, length, take, drop, sym, ◌∙◌, ap, arith, length-take}
use Rattle.std.proofs.lemmas.List.{take-take}
use Rattle.cv_base.specs.Items.{ItemRelation}
use Rattle.cv_base.specs.Codecs.{Writing}
use Rattle.cv_base.specs.Chains.{Output, output, output_of}
use Rattle.cv_base.specs.Blocks.{IsUnchanged}
use Rattle.cv_base.specs.declared.policy.Policy.{Policy}
use Rattle.cv_base.proofs.Front.{Begins-take}
use Rattle.cv_pivot.specs.declared.outcome.States.{States}
use Rattle.cv_pivot.specs.Private.Steps.{TakesSome}
use Rattle.cv_base.proofs.AllWritten.{none_allowed}
use Rattle.cv_pivot.proofs.CutLaws.{IsChain-more}

-- bytes at the start of a prefix of the rest that were copied
pub unchanged_takes : (reads : ItemRelation) (writes : Writing) (policy : Policy) (from : States) (rest before : List ℕ)
    (at most n : ℕ) (after : List ℕ) → IsUnchanged reads writes from.reading from.writing (take most rest) n → 0 < n
    → at + n ≤ length before → after ≡ take at before ++ take n rest ++ drop (at + n) before
    → TakesSome reads writes policy from rest before at (record { read = n; written = n; replaced = 0 }) from after
unchanged_takes reads writes policy from rest before at most n after p some fits put =
    let few : n ≤ most = omega (arith, p.within, length-take most rest) in
    let within : n ≤ length rest = omega (arith, p.within, length-take most rest) in
    let o : output_of writes from.writing p.chain ≡ output (take n rest) 0 from.writing = p.output
    ∙ ap (λ (x : List ℕ). output x 0 from.writing) (take-take n most rest few) in
    let l : length (take n rest) ≡ n = omega (arith, length-take n rest) in
    record {
      some = some;
      takes = record {
        chain = p.chain;
        is_chain = IsChain-more reads from.reading (take most rest) rest p.chain (Begins-take most rest) p.is_chain;
        allowed = none_allowed policy (output_of writes from.writing p.chain) (ap (λ x. x.count) o);
        uses = p.uses;
        reading = sym p.stays;
        counts = sym (ap (λ x. x.count) o);
        writing = sym (ap (λ x. x.next) o);
        writes_bytes = sym (ap (λ x. length x.bytes) o ∙ l);
        fits = fits;
        out = put ∙ ap (λ (x : Output). take at before ++ x.bytes ++ drop (at + n) before) (sym o);
      };
    }
