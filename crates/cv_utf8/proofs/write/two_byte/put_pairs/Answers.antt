use Rattle.std.proofs.Common.{arith, refl, ◌≡◌, ◌≤◌, ◌+◌, ◌%◌, ◌/◌, length, take, drop, length-take, length-drop}
use Rattle.std.specs.Prelude.{count_ones}
use Rattle.std.specs.Simd.Lanes.{put_chunk}
use Rattle.std.proofs.lemmas.Simd.{length-put_chunk}
use Rattle.cv_simd.proofs.TableRows.{few_ones}
use Rattle.cv_block.proofs.Slack.{put_both, put_front}
use Rattle.cv_utf8.specs.Utf8.{utf8_bytes}
use Rattle.cv_utf8.specs.Private.TwoByte.{has_two}
use Rattle.cv_utf8.proofs.Utf8Pairs.{kept_put}
use Rattle.cv_utf8.proofs.Utf8Sizes.{first_mask, last_mask}
use Rattle.cv_utf8.proofs.write.two_byte.put_pairs.Goals as goal

pub returns-clause-put : goal.returns-clause-put
returns-clause-put c units long is first second =
    let n = 8 + count_ones (c.args.mask % 256) in
    let m = 8 + count_ones (c.args.mask / 256) in
    let n_few : n ≤ 16 = omega (arith, few_ones (c.args.mask % 256) (omega arith)) in
    let m_few : m ≤ 16 = omega (arith, few_ones (c.args.mask / 256) (omega (arith, c.requires.mask))) in
    let n_many : 16 ≤ n + 16 = omega arith in
    let m_many : 16 ≤ m + 16 = omega arith in
    let eight : length (take 8 units) ≡ 8 = omega (arith, length-take 8 units) in
    let others : length (drop 8 units) ≡ 8 = omega (arith, length-drop 8 units, long) in
    let mid = put_chunk c.args.at c.args.out.now c.compress_pairs.result in
    let room : c.args.at + 16 ≤ length c.args.out.now = omega (arith, c.requires.room) in
    let left : c.args.at + n + 16 ≤ length mid = omega (
      arith,
      c.requires.room,
      n_few,
      length-put_chunk c.args.at c.args.out.now c.compress_pairs.result,
    ) in
    let low_long : length c.compress_pairs.result ≡ 16 = omega arith in
    let high_long : length c.compress_pairs-2.result ≡ 16 = omega arith in
    let low = kept_put (take 8 units) c.args.first c.args.out.now _ c.args.at n _ eight
    (first_mask has_two units (take 8 units) _ long is refl) first
    (put_front _ _ c.args.out.now c.args.at n 16 low_long room n_few n_many c.compress_pairs.ensures) in
    let high = kept_put (drop 8 units) c.args.second mid _ (c.args.at + n) m _ others
    (last_mask has_two units (drop 8 units) _ long is refl) second
    (put_front _ _ mid (c.args.at + n) m 16 high_long left m_few m_many c.compress_pairs-2.ensures) in
    put_both utf8_bytes units (take 8 units) (drop 8 units) c.args.out.now 8 c.args.at _ _ _ _ refl refl low high
