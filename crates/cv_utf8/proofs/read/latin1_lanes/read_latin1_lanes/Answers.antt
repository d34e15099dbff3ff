use Rattle.std.proofs.Common.{◌∙◌, refl, sym}
use Rattle.cv_utf8.proofs.Utf8Short.{all_used, short_starting}
use Rattle.cv_utf8.proofs.read.latin1_lanes.read_latin1_lanes.Goals as goal

pub returns-clause-read : goal.returns-clause-read
returns-clause-read c = c.starting_lanes.ensures.read c.args.input.now c.args.at (short_starting c.args.input.now
    c.args.at _ c.latin1_values-values.result c.lead_mask.result c.requires c.type_inv.input
    (sym c.is_continuation.ensures ∙ c.if-is_continuation.false) (all_used c.args.input.now c.args.at
    c.is_continuation-2.result c.is_continuation-2.ensures) (c.if-not-are_latin1.ensures.short refl)
    c.latin1_values-values.ensures.values c.lead_mask.ensures.bits)
