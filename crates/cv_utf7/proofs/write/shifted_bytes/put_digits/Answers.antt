use Rattle.std.proofs.Common.{refl}
use Rattle.cv_utf7.proofs.Cuts.{spell_6}
use Rattle.cv_utf7.proofs.write.shifted_bytes.put_digits.Goals as goal

pub returns : goal.returns
returns c =
    let s = spell_6 c.args.cut c.requires.count c.if-cut-eq2.false c.if-cut-eq3.false c.if-cut-eq5.false in
    (rw (s.1, s.0) (rw (c.last_five.ensures, c.digit-2.ensures) at c.write_slice-2.ensures), refl)
