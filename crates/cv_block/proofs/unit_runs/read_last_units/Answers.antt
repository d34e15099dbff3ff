use Rattle.std.proofs.Common.{arith, refl, ap, drop, length, length-drop, length-take}
use Rattle.std.proofs.lemmas.List.{take_rest}
use Rattle.cv_base.proofs.Front.{Begins-take}
use Rattle.cv_block.proofs.LastForms.{last_read}
use Rattle.cv_block.proofs.unit_runs.read_last_units.Goals as goal

pub returns-clause-read : goal.returns-clause-read
returns-clause-read g c = λ bytes_of spells.
    let copied = c.copy_from_slice.ensures.after in
    let rest = take_rest c.args.input.now c.args.at in
    last_read bytes_of g.U.Unit.form spells c.args.input.now c.args.at c.args.buffer.now c.args.n _ _
    c.copy_from_slice.new.self _ c.numbers_of-numbers.result _ c.numbers_of-numbers.ensures.long
    (grind (arith, c.requires.few, c.size.ensures, length-take, length-drop))
    (rw (c.size.ensures, c.size-2.ensures) refl)
    (grind (arith, ap length copied, length-take, length-drop, c.size.ensures, c.size-2.ensures))
    (rw (copied, rest) (Begins-take _ (drop c.args.at c.args.input.now)))
    c.numbers_of-numbers.ensures.units (rw c.if-not-are_scalars.false at c.are_scalars.ensures refl) c.requires.room
    c.put_characters.ensures.stand c.put_characters.ensures.size
