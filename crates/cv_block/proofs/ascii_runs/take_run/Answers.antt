use Rattle.cv_block.proofs.AsciiRuns.{put_none}
use Rattle.cv_block.proofs.ascii_runs.take_run.Goals as goal

pub returns-then-not-form_may_run-clause-out : goal.returns-then-not-form_may_run-clause-out
returns-then-not-form_may_run-clause-out g c =
    put_none c.args.form c.args.target c.args.rest.now c.args.out.now c.args.at
