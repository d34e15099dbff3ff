use Rattle.std.proofs.Common.{arith}
use Rattle.cv_block.proofs.Slack.{put_copied}
use Rattle.cv_transcode.proofs.window_writer.write_last.Goals as goal

pub returns-clause-put : goal.returns-clause-put
returns-clause-put g c =
    let n = c.write_window-n.result in
    let put = c.write_window-n.ensures in
    put_copied _ _ c.write_window-n.new.out c.args.out.now c.args.at n 16 _ put.put
    (omega (arith, c.requires.room, put.few)) c.copy_prefix.ensures
