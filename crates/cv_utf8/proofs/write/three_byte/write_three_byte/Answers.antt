use Rattle.std.proofs.Common.{arith, refl, ◌≡◌, length, take, drop}
use Rattle.cv_block.proofs.Slack.{put_both}
use Rattle.cv_utf8.specs.Utf8.{utf8_bytes}
use Rattle.cv_utf8.specs.Private.TwoByte.{has_two}
use Rattle.cv_utf8.specs.Private.ThreeByte.{has_three}
use Rattle.cv_utf8.proofs.Utf8Sizes.{first_mask, last_mask}
use Rattle.cv_utf8.proofs.Utf8Quads.{first_are_split, last_are_split}
use Rattle.cv_utf8.proofs.write.three_byte.write_three_byte.Goals as goal

pub returns-clause-put : goal.returns-clause-put
returns-clause-put c =
    let units = c.args.units in
    let two = c.two_byte_mask-two_or_more.ensures.bits in
    let three = c.three_byte_mask-three.ensures.bits in
    let long : length units ≡ 16 = omega arith in
    let first = c.first_bytes-first_two.ensures in
    let third = c.third_bytes-third.ensures in
    let low = first_are_split units _ _ _ _ long c.requires.middle first third c.first_eight.ensures
    c.first_eight-2.ensures in
    let high = last_are_split units _ _ _ _ long c.requires.middle first third c.last_eight.ensures
    c.last_eight-2.ensures in
    put_both utf8_bytes units (take 8 units) (drop 8 units) c.args.out.now 8 c.args.at _ _ _ _ refl refl
    (c.write_quads-n.ensures.put (take 8 units) low (first_mask has_two units _ _ long two refl)
    (first_mask has_three units _ _ long three refl))
    (c.write_quads.ensures.put (drop 8 units) high (last_mask has_two units _ _ long two refl)
    (last_mask has_three units _ _ long three refl))
