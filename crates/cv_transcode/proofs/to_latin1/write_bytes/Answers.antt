use Rattle.std.proofs.Common.{◌+◌, arith, refl}
use Rattle.cv_transcode.proofs.ToLatin1.{bytes_put}
use Rattle.cv_transcode.proofs.UnitsPut.{put_back}
use Rattle.cv_transcode.proofs.to_latin1.write_bytes.Goals as goal

pub returns : goal.returns
returns c =
    let units = c.args.units.now in
    put_back _ c.args.out.now _ c.args.at (units.firsts + units.seconds) c.put_eight-2.new.out _
    (bytes_put units c.args.out.now c.args.at _ _ c.put_eight.ensures c.put_eight-2.ensures)
    (omega (arith, c.requires.room, c.requires.few, c.requires.others)) refl refl
