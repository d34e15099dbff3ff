use Rattle.std.proofs.Common.{◌+◌, ◌≤◌, length, length-take, arith}
use Rattle.cv_pivot.proofs.UnchangedSteps.{unchanged_takes}
use Rattle.cv_pivot.proofs.copying.copy_unchanged.Goals as goal

pub returns : goal.returns
returns g c policy =
    let n = c.unchanged-n.result in
    let most = c.min-most.result in
    let fits : c.args.at + n ≤ length c.args.out.now =
    omega (arith, c.unchanged-n.ensures.within, length-take most c.args.rest.now, c.min-most.ensures) in
    unchanged_takes _ _ policy c.args.states c.args.rest.now c.args.out.now c.args.at most n _ c.unchanged-n.ensures
    (omega (arith, c.if-n-eq0.false)) fits c.copy_front.ensures
