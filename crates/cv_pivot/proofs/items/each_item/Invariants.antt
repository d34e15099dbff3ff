use Rattle.std.proofs.Common.{◌-◌, length}
use Rattle.cv_pivot.proofs.SeveralSteps.{Reached}
use Rattle.cv_pivot.proofs.items.each_item.Given as goal

abbrev pub invariant-items : goal.invariant-items
invariant-items g l =
    Reached (g.F.Codec.reads l.pair.from.now) (g.T.Codec.writes l.pair.to.now) l.pair.policy l.input l.fn.states
    l.fn.start l.fn.out l.states l.progress l.out

abbrev pub decreases-items : goal.decreases-items
decreases-items g l = length l.input - l.progress.read
