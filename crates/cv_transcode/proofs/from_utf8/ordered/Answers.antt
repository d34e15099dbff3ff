use Rattle.std.proofs.Common.{arith, ◌∙◌, sym, ap, map}
use Rattle.cv_transcode.specs.Private.Windows.{in_order}
use Rattle.cv_transcode.proofs.Ordered.{big_are, little_are, eight_few}
use Rattle.cv_transcode.proofs.from_utf8.ordered.Goals as goal

pub returns-in-Big : goal.returns-in-Big
returns-in-Big g c = big_are 8 c.args.units (omega arith) (eight_few c.args.units c.fits-units.1)
    ∙ ap (λ e. map (in_order e) c.args.units) (sym c.in-Big.is ∙ c.order.ensures)

pub returns-in-Little : goal.returns-in-Little
returns-in-Little g c = little_are c.args.units ∙ ap (λ e. map (in_order e) c.args.units) (sym c.in-Little.is
    ∙ c.order.ensures)
