use Rattle.std.proofs.Common.{arith}
use Rattle.cv_simd.proofs.TableRows.{few_ones}
use Rattle.cv_block.proofs.Slack.{put_front}
use Rattle.cv_utf8.proofs.Utf8Fours.{begin_packed}
use Rattle.cv_utf8.proofs.write.three_byte.put_quads.Goals as goal

pub returns-clause-few : goal.returns-clause-few
returns-clause-few c = omega (arith, few_ones c.args.sizes c.requires.sizes)

pub returns-clause-put : goal.returns-clause-put
returns-clause-put c units long three is bits =
    let packed = c.compress_triples-bytes in
    let bytes = begin_packed units c.args.quads packed.result c.args.sizes long three is bits packed.ensures in
    put_front _ packed.result c.args.out.now c.args.at _ 16 (omega arith) c.requires.room
    (omega (arith, few_ones c.args.sizes c.requires.sizes)) (omega arith) bytes
