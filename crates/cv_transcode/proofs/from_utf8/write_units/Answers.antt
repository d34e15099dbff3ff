use Rattle.std.proofs.Common.{◌+◌, ◌*◌, arith, refl}
use Rattle.cv_transcode.proofs.UnitsPut.{parts_put, put_back, put_within}
use Rattle.cv_transcode.proofs.from_utf8.write_units.Goals as goal

pub returns-clause-put : goal.returns-clause-put
returns-clause-put g c =
    let units = c.args.units.now in
    let n = 2 * (units.firsts + units.seconds) in
    let put = parts_put _ units c.args.out.now c.args.at _ _ (c.put_eight.ensures 16 (omega arith))
    (c.put_eight-2.ensures 16 (omega arith)) in
    put_back _ c.args.out.now _ c.args.at n c.put_eight-2.new.out _ put
    (omega (arith, c.requires.room, c.requires.few, c.requires.others)) refl refl

pub returns-clause-within : goal.returns-clause-within
returns-clause-within g c = put_within _ _ _ _ _ (returns-clause-put g c)
