use Rattle.std.proofs.Common.{◌+◌, ◌<◌, length, arith}
use Rattle.std.proofs.lemmas.List.{get_or_read}
use Rattle.cv_block.proofs.FormRuns.{written_few, written_one_more}
use Rattle.cv_block.proofs.form_writing.write_some.Goals as goal

pub write_at-requires : goal.write_at-requires
write_at-requires g c =
    let i = c.loop-some.invariant in
    omega (arith, written_few _ c.assert_short.ensures.short _ c.args.n _ c.args.at _ _ i, i.size)

pub loop-some-preserved : goal.loop-some-preserved
loop-some-preserved g c =
    let i = c.loop-some.invariant in
    let some = c.loop-some.some in
    let character = c.index-characters-n in
    let within : c.args.n + some.n < length c.args.characters.now = omega arith in
    written_one_more _ _ c.args.n _ c.args.at some.n some.used _ character.result _ _ i within
    (get_or_read c.args.characters.now _ character.result within character.is 0) c.write_at.ensures.bytes
    c.write_at.ensures.stand c.write_at.ensures.size
