use Rattle.std.proofs.Common.{arith}
use Rattle.cv_transcode.proofs.LastWindow.{lanes_of_copy}
use Rattle.cv_transcode.proofs.room_end_utf16.first_lanes.Goals as goal

pub returns : goal.returns
returns c = lanes_of_copy c.args.text.now c.copy_from_slice.new.self _ c.min-n.result c.read_utf16_lanes-units.result
    c.copy_from_slice.ensures.after (omega (arith, c.min-n.ensures, c.requires))
    (omega (arith, c.if-units-n.false)) c.read_utf16_lanes-units.ensures
