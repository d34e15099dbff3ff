use Rattle.std.proofs.Common.{arith, refl, ◌/◌, inl, inr}
use Rattle.std.proofs.lemmas.Bool.{false≢true, cases_lt}
use Rattle.cv_utf7.proofs.LoneSequences.{lone_is}
use Rattle.cv_utf7.proofs.read.sequences.lone.Goals as goal

pub known-requires : goal.known-requires
known-requires c = (
  omega (arith, c.in_ok-number.ensures.small),
  λ s. elim (cases_lt (c.in_ok-number.number / 4) 0xE000) [
    | inl m ↦ absurd (false≢true (c.if-is_surrogate.ensures.1 (s, m)))
    | inr m ↦ m
  ],
)

pub returns : goal.returns
returns c = lone_is c.args.input.now c.args.at c.in_ok-number.number c.known.result c.in_ok-number.ensures c.requires
    c.if-input-at-ne43.false c.if-number-ne0.false c.known.ensures (λ p. false≢true (c.if-is_surrogate.ensures.1 p))
    (c.if-not-ends_sequence.ensures.0 refl)
