use Rattle.std.proofs.Common.{◌≡◌, arith, inl, inr}
use Rattle.cv_utf8.proofs.Utf8PutLanes.{threes_scalar}
use Rattle.cv_utf8.proofs.Utf8Threes.{threes_read}
use Rattle.cv_utf8.proofs.read.three_byte.three_byte_lanes.Goals as goal
use Rattle.cv_utf8.proofs.read.three_byte.three_byte_lanes.Goals.{then-firsts-eq-EIGHT, else-firsts-eq-EIGHT}

pub returns-clause-read : goal.returns-clause-read
returns-clause-read c =
    let text = c.args.text.now in
    let at = c.args.at in
    let first = c.eight_of-first in
    let second = c.eight_of-second in
    let firsts = c.before_none-firsts.ensures in
    elim c.if-firsts-eq-EIGHT.branch [
      | then-firsts-eq-EIGHT w ↦ (let seconds = w.before_none-seconds in
          let is : c.if-firsts-eq-EIGHT.seconds ≡ seconds.result = w.seconds-is in
          threes_read text at first.result second.result _ c.if-firsts-eq-EIGHT.seconds
          c.requires first.ensures.long second.ensures.long first.ensures.numbers second.ensures.numbers firsts.many
          (omega (arith, is, seconds.ensures.many)) firsts.some (λ k h. seconds.ensures.some k (omega (arith, is, h)))
          (inl (omega (arith, w.if-firsts-eq-EIGHT.true))))
      | else-firsts-eq-EIGHT w ↦ (let is : c.if-firsts-eq-EIGHT.seconds ≡ 0 = w.seconds-is in
          threes_read text at first.result second.result _ c.if-firsts-eq-EIGHT.seconds c.requires first.ensures.long
          second.ensures.long first.ensures.numbers second.ensures.numbers firsts.many (omega (arith, is))
          firsts.some (λ k h. absurd (omega (arith, is, h))) (inr is))
    ]

pub returns-clause-scalars : goal.returns-clause-scalars
returns-clause-scalars c = record {
  first = threes_scalar _ _ _ c.eight_of-first.ensures.numbers;
  second = threes_scalar _ _ _ c.eight_of-second.ensures.numbers;
}
