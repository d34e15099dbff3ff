use Rattle.cv_utf7.proofs.StartItems.{next_big, next_little}
use Rattle.cv_utf7.proofs.utf7.Utf7Codec.item.Goals as goal

pub returns-in-Shifted : goal.returns-in-Shifted
returns-in-Shifted c = rw c.in-Shifted.is c.item_in_shift.ensures

pub returns-in-Start : goal.returns-in-Start
returns-in-Start c = rw c.in-Start.is c.item_at_start.ensures

pub returns-in-Big : goal.returns-in-Big
returns-in-Big c =
    rw c.in-Big.is (next_big c.args.input.now c.item_at_start-in-Big.result c.item_at_start-in-Big.ensures)

pub returns-in-Little : goal.returns-in-Little
returns-in-Little c =
    rw c.in-Little.is (next_little c.args.input.now c.item_at_start-in-Little.result c.item_at_start-in-Little.ensures)
