use Rattle.std.proofs.Common.{arith, sym}
use Rattle.cv_frame.proofs.Cuts.{front_size}
use Rattle.cv_metrics.proofs.scan.Scan.next.Goals as goal

pub returns-in-Whole-clause-within : goal.returns-in-Whole-clause-within
returns-in-Whole-clause-within c =
    let s = front_size c.args.bytes.now _ _ (sym c.in-Whole.ensures) in
    (omega (arith, s.0), s.1)
