use Rattle.cv_utf16.proofs.ItemsInOrder.{in_be, in_le, in_big, in_little, in_start, in_shifted}
use Rattle.cv_utf16.proofs.in_order.item_in.Goals as goal

pub returns-in-Be-default : goal.returns-in-Be-default
returns-in-Be-default g c = in_be g.F.WideForm.form _ _ _ _ _ c.in-Be-default.is-0 c.item.ensures

pub returns-in-Le-default : goal.returns-in-Le-default
returns-in-Le-default g c = in_le g.F.WideForm.form _ _ _ _ _ c.in-Le-default.is-0 c.item-in-Le-default.ensures

pub returns-in-Marked-Big : goal.returns-in-Marked-Big
returns-in-Marked-Big g c =
    in_big g.F.WideForm.form _ _ _ _ _ c.in-Marked-Big.is-0 c.in-Marked-Big.is-1 c.item-in-Marked-Big.ensures

pub returns-in-Marked-Little : goal.returns-in-Marked-Little
returns-in-Marked-Little g c = in_little g.F.WideForm.form _ _ _ _ _ c.in-Marked-Little.is-0 c.in-Marked-Little.is-1
    c.item-in-Marked-Little.ensures

pub returns-in-Marked-Start : goal.returns-in-Marked-Start
returns-in-Marked-Start g c =
    in_start g.F.WideForm.form _ _ _ _ c.in-Marked-Start.is-0 c.in-Marked-Start.is-1 c.first_item.ensures

pub returns-in-Marked-Shifted : goal.returns-in-Marked-Shifted
returns-in-Marked-Shifted g c = in_shifted g.F.WideForm.form _ _ _ _ _ c.in-Marked-Shifted.is-0 c.in-Marked-Shifted.is-1
    c.first_item-in-Marked-Shifted.ensures
