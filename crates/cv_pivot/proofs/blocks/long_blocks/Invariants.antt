use Rattle.std.proofs.Common.{◌-◌}
use Rattle.cv_pivot.specs.Private.Steps.{Takes}
use Rattle.cv_pivot.proofs.blocks.long_blocks.Given as goal

abbrev pub invariant-loop-blocks : goal.invariant-loop-blocks
invariant-loop-blocks g l =
    Takes (g.F.Codec.reads l.pair.from.now) (g.T.Codec.writes l.pair.to.now) l.pair.policy l.fn.states l.rest l.fn.out
    l.at l.progress l.states l.out

abbrev pub decreases-loop-blocks : goal.decreases-loop-blocks
decreases-loop-blocks g l = 4 - l.blocks
