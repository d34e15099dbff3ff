use Rattle.std.proofs.Common.{refl, take, drop}
use Rattle.cv_block.proofs.Slack.{put_both}
use Rattle.cv_utf8.specs.Utf8.{utf8_bytes}
use Rattle.cv_utf8.proofs.Utf8Sizes.{low_long, high_long, low_three_byte, high_three_byte, low_bits, high_bits}
use Rattle.cv_utf8.proofs.Utf8Quads.{low_bytes, high_bytes}
use Rattle.cv_utf8.proofs.write.three_byte.write_quads.Goals as goal

pub returns-clause-put : goal.returns-clause-put
returns-clause-put c units are two three =
    let long = are.0 in
    let low = c.put_quads-n.ensures.put (take 4 units) (low_long units long) (low_three_byte units long are.1)
    (low_bytes _ _ units are) (low_bits units c.args.two_or_more c.args.three long two three) in
    let high = c.put_quads.ensures.put (drop 4 units) (high_long units long) (high_three_byte units long are.1)
    (high_bytes _ _ units are) (high_bits units c.args.two_or_more c.args.three long two three) in
    put_both utf8_bytes units (take 4 units) (drop 4 units) c.args.out.now 4 c.args.at _ _ _ _ refl refl low high
