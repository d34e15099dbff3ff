use Rattle.std.proofs.Common.{arith}
use Rattle.cv_base.specs.declared.state.ReadState.TheVariants as read
use Rattle.cv_utf7.specs.Private.ReadSteps.{read_to}
use Rattle.cv_utf7.proofs.ReadSteps.{reads_none, reads_more, character_more, shift_more}
use Rattle.cv_utf7.proofs.read.sequences.read_sequence.Goals as goal

pub returns-in-Shifted-clause-more : goal.returns-in-Shifted-clause-more
returns-in-Shifted-clause-more c =
    let start = reads_none c.args.input.now
    (read_to read.Start c.args.used c.args.n) c.args.buffer.now c.requires.within (omega arith) in
    let shift = rw c.in-Shifted.is at (shift_more start _ _ c.in-Shift.ensures) in
    reads_more shift (rw (c.read_lone-characters.ensures.none (omega arith)) at c.read_inside.ensures)

pub returns-in-Char-clause-more : goal.returns-in-Char-clause-more
returns-in-Char-clause-more c =
    let start = reads_none c.args.input.now
    (read_to read.Start c.args.used c.args.n) c.args.buffer.now c.requires.within (omega arith) in
    rw (c.read_lone-characters.ensures.none (omega arith)) (character_more start (omega arith) _ _ _ c.in-Char.ensures)
