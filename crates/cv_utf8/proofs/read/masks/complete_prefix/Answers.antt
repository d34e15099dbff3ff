use Rattle.std.proofs.Common.{arith, ◌*◌, ◌^◌, ◌%◌, ◌-◌}
use Rattle.std.proofs.lemmas.Nat.{and_le_l, or_lt}
use Rattle.cv_utf8.proofs.Utf8Covered.{firsts, pow_positive, whole_of_marks}
use Rattle.cv_utf8.proofs.Utf8Marks.{one_marks}
use Rattle.cv_utf8.proofs.Utf8WindowLanes.{whole_beginning_at, lowest}
use Rattle.cv_utf8.proofs.read.masks.complete_prefix.Goals as goal

pub overflow_shl-starts_mask : goal.overflow_shl-starts_mask
overflow_shl-starts_mask c =
    let one = one_marks c.args.input.now c.args.at c.among-one.result c.requires c.type_inv.input c.among-one.ensures in
    let most = (whole_of_marks c.args.input.now c.args.at c.among-one.result c.two_byte_mask-two.result
    c.three_byte_mask-three.result c.trailing_ones-used.result c.type_inv.input one c.two_byte_mask-two.ensures
    c.three_byte_mask-three.ensures c.trailing_ones-used.ensures).most in
    omega arith

pub overflow_sub-starts_mask : goal.overflow_sub-starts_mask
overflow_sub-starts_mask c =
    let one = one_marks c.args.input.now c.args.at c.among-one.result c.requires c.type_inv.input c.among-one.ensures in
    let most = (whole_of_marks c.args.input.now c.args.at c.among-one.result c.two_byte_mask-two.result
    c.three_byte_mask-three.result c.trailing_ones-used.result c.type_inv.input one c.two_byte_mask-two.ensures
    c.three_byte_mask-three.ensures c.trailing_ones-used.ensures).most in
    rw (lowest c.trailing_ones-used.result most) (pow_positive c.trailing_ones-used.result)

pub returns-clause-complete_prefix : goal.returns-clause-complete_prefix
returns-clause-complete_prefix c =
    let one = one_marks c.args.input.now c.args.at c.among-one.result c.requires c.type_inv.input c.among-one.ensures in
    whole_of_marks c.args.input.now c.args.at c.among-one.result c.two_byte_mask-two.result
    c.three_byte_mask-three.result c.trailing_ones-used.result c.type_inv.input one c.two_byte_mask-two.ensures
    c.three_byte_mask-three.ensures c.trailing_ones-used.ensures

pub returns-clause-few : goal.returns-clause-few
returns-clause-few c =
    let one = one_marks c.args.input.now c.args.at c.among-one.result c.requires c.type_inv.input c.among-one.ensures in
    let starts_mask = firsts c.among-one.result c.two_byte_mask-two.result c.three_byte_mask-three.result in
    omega (
      arith,
      and_le_l starts_mask ((1 * 2 ^ c.trailing_ones-used.result) % 2 ^ 64 - 1),
      or_lt 16 _ _ (or_lt 16 _ _ one.0 c.two_byte_mask-two.ensures.0) c.three_byte_mask-three.ensures.0,
    )

pub returns-clause-bits : goal.returns-clause-bits
returns-clause-bits c k h =
    let one = one_marks c.args.input.now c.args.at c.among-one.result c.requires c.type_inv.input c.among-one.ensures in
    let most = (whole_of_marks c.args.input.now c.args.at c.among-one.result c.two_byte_mask-two.result
    c.three_byte_mask-three.result c.trailing_ones-used.result c.type_inv.input one c.two_byte_mask-two.ensures
    c.three_byte_mask-three.ensures c.trailing_ones-used.ensures).most in
    rw (lowest c.trailing_ones-used.result most) (whole_beginning_at c.args.input.now c.args.at c.among-one.result
    c.two_byte_mask-two.result c.three_byte_mask-three.result c.trailing_ones-used.result k c.type_inv.input one
    c.two_byte_mask-two.ensures c.three_byte_mask-three.ensures c.trailing_ones-used.ensures)
