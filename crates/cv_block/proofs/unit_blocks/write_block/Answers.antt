use Rattle.std.proofs.Common.{◌≡◌, ◌∙◌, length, ap}
use Rattle.cv_block.proofs.AsciiRuns.{sixteen_are, length-characters}
use Rattle.cv_block.proofs.unit_blocks.write_block.Goals as goal

pub returns : goal.returns
returns g c =
    let is = c.low_bytes-low.ensures in
    let long : length c.low_bytes-low.result ≡ 16 = ap length is
    ∙ length-characters g.From.Unit.form c.args.units.now 16 in
    rw (sixteen_are c.low_bytes-low.result long, is) at c.write_units.ensures
