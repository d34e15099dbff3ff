use Rattle.std.proofs.Common.{arith}
use Rattle.cv_transcode.proofs.LastWindow.{lanes_copied}
use Rattle.cv_transcode.proofs.room_end_utf16.convert_fitting.Goals as goal

pub returns : goal.returns
returns g c = lanes_copied _ c.args.text.now _ c.write_units-wrote.new.out c.args.out.now c.args.at
    c.fitting_lanes-units.result c.write_units-wrote.result c.copy_prefix.new.out c.fitting_lanes-units.ensures
    c.write_units-wrote.ensures.put (omega (arith, c.if-wrote-room.false)) c.copy_prefix.ensures
