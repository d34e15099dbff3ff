use Rattle.cv_transcode.proofs.Joined.{nothing_used}
use Rattle.cv_transcode.proofs.from_utf8.utf8_to_utf16.Goals as goal

pub returns-then-run-eq0-clause-run : goal.returns-then-run-eq0-clause-run
returns-then-run-eq0-clause-run g c = nothing_used _ c.args.text.now c.args.out.now c.args.at
    c.convert_some-run.result.used _ _ c.if-run-eq0.true c.convert_some-run.ensures
