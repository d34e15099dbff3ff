use Rattle.cv_simd.proofs.StopBits.{run_within, run_clear, run_ends}
use Rattle.cv_simd.proofs.byte_class.run_at.Goals as goal

pub returns-clause-within : goal.returns-clause-within
returns-clause-within c = run_within c.args.stops c.args.index c.ranges.stops.fits c.requires.index c.requires.end

pub returns-clause-clear : goal.returns-clause-clear
returns-clause-clear c = run_clear c.args.stops c.args.index c.ranges.stops.fits c.requires.index c.requires.end

pub returns-clause-set : goal.returns-clause-set
returns-clause-set c = run_ends c.args.stops c.args.index c.ranges.stops.fits c.requires.index c.requires.end
