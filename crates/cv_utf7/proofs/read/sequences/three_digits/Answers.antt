use Rattle.std.proofs.Common.{arith, ◌<◌, bit_or}
use Rattle.std.proofs.lemmas.Nat.{le_or_l, le_or_r}
use Rattle.cv_utf7.proofs.read.sequences.three_digits.Goals as goal

pub returns : goal.returns
returns c =
    let first = c.value_or_more-first.result in
    let second = c.value_or_more-second.result in
    let third = c.value_or_more-third.result in
    let two = bit_or first second in
    let all = c.if-first-second-ge64.false in
    let a : first < 64 = omega (arith, le_or_l first second, le_or_l two third, all) in
    let b : second < 64 = omega (arith, le_or_r first second, le_or_l two third, all) in
    let d : third < 64 = omega (arith, le_or_r two third, all) in
    let one = c.value_or_more-first.ensures.digit a in
    let other = c.value_or_more-second.ensures.digit b in
    let last = c.value_or_more-third.ensures.digit d in
    record {
      small = omega (arith, a, b, d);
      first = one.0;
      second = other.0;
      third = last.0;
      spell = omega (arith, one.1, other.1, last.1);
    }
