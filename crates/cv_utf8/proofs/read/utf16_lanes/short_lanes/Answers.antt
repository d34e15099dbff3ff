use Rattle.std.proofs.Common.{◌+◌}
use Rattle.cv_utf8.proofs.Utf8PutLanes.{short_value_scalar}
use Rattle.cv_utf8.proofs.Utf8Short.{all_used, short_starting}
use Rattle.cv_utf8.proofs.read.utf16_lanes.short_lanes.Goals as goal

pub returns-clause-read : goal.returns-clause-read
returns-clause-read c = c.starting_lanes.ensures.read c.args.input.now c.args.at (short_starting c.args.input.now
    c.args.at _ c.short_values.result c.lead_mask.result c.requires.within c.type_inv.input c.requires.begins
    (all_used c.args.input.now c.args.at c.is_continuation.result c.is_continuation.ensures) c.requires.short
    c.short_values.ensures c.lead_mask.ensures.bits)

pub returns-clause-scalars : goal.returns-clause-scalars
returns-clause-scalars c = c.starting_lanes.ensures.scalars (λ k h.
    rw (c.short_values.ensures k h) (short_value_scalar c.args.input.now (c.args.at + k) c.type_inv.input))
