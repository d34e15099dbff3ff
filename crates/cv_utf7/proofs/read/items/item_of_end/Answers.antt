use Rattle.cv_utf7.proofs.FewDigits.{stop_ill}
use Rattle.cv_utf7.proofs.read.items.item_of_end.Goals as goal

pub returns-then-pending-ne0 : goal.returns-then-pending-ne0
returns-then-pending-ne0 c =
    stop_ill c.args.pending c.args.input.now c.requires.some c.requires.none c.if-pending-ne0.true
