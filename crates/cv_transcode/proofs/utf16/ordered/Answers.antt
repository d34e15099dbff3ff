use Rattle.std.proofs.Common.{◌∙◌, sym, ap, map}
use Rattle.cv_transcode.specs.Private.Windows.{in_order}
use Rattle.cv_transcode.proofs.Ordered.{little_are}
use Rattle.cv_transcode.proofs.utf16.ordered.Goals as goal

pub returns-in-Big : goal.returns-in-Big
returns-in-Big g c = c.swapped.ensures ∙ ap (λ e. map (in_order e) c.args.units) (sym c.in-Big.is ∙ c.order.ensures)

pub returns-in-Little : goal.returns-in-Little
returns-in-Little g c = little_are c.args.units ∙ ap (λ e. map (in_order e) c.args.units) (sym c.in-Little.is
    ∙ c.order.ensures)
