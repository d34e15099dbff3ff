use Rattle.std.proofs.Common.{arith, ◌∙◌}
use Rattle.std.proofs.lemmas.List.{take_all}
use Rattle.cv_transcode.proofs.Ordered.{bytes_are}
use Rattle.cv_block.proofs.Slack.{put_front}
use Rattle.cv_transcode.proofs.utf16.Utf16WindowWindowWriter.write_window.Goals as goal

pub returns-clause-put : goal.returns-clause-put
returns-clause-put g c =
    let is = bytes_are _ 16 c.args.units c.ordered-bytes.result (omega arith) c.requires.middle c.ordered-bytes.ensures
    in
    put_front _ _ c.args.out.now c.args.at 32 32 (omega arith) (omega (arith, c.requires.room)) (omega arith)
    (omega arith) (take_all 32 _ (omega arith) ∙ is)
