use Rattle.std.proofs.Common.{arith}
use Rattle.cv_base.specs.declared.state.WriteState.TheVariants as write
use Rattle.cv_utf7.proofs.Groups.{writes_begun, writes_nothing}
use Rattle.cv_utf7.proofs.write.groups.begin_groups.Goals as goal

pub returns-then-reached-n : goal.returns-then-reached-n
returns-then-reached-n c = rw (c.write_groups-reached.ensures.none c.if-reached-n.true)
    (writes_nothing c.args.characters.now write.Start c.args.n c.args.at c.args.out.now _ c.requires.some (omega arith))

pub returns : goal.returns
returns c = (
  writes_begun c.args.characters.now c.args.n c.args.at c.args.out.now c.write_groups-reached.result _ c.requires.some
      c.requires.long (omega arith) c.write_groups-reached.ensures.more c.if-reached-n.false,
  omega (arith, c.write_groups-reached.ensures.more.counts, c.if-reached-n.false),
)
