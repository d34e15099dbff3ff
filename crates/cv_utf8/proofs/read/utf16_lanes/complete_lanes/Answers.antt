use Rattle.std.proofs.Common.{◌+◌}
use Rattle.cv_utf8.proofs.Utf8PutLanes.{whole_value_scalar}
use Rattle.cv_utf8.proofs.Utf8Starting.{complete_starting}
use Rattle.cv_utf8.proofs.read.utf16_lanes.complete_lanes.Goals as goal

pub returns-clause-read : goal.returns-clause-read
returns-clause-read c = c.starting_lanes.ensures.read c.args.input.now c.args.at
    (complete_starting c.args.input.now c.args.at c.complete_prefix-used.result.used c.whole_values.result
    c.complete_prefix-used.result.starts_mask c.requires c.type_inv.input c.complete_prefix-used.ensures.complete_prefix
    c.whole_values.ensures c.complete_prefix-used.ensures.bits)

pub returns-clause-scalars : goal.returns-clause-scalars
returns-clause-scalars c = c.starting_lanes.ensures.scalars (λ k h.
    rw (c.whole_values.ensures k h) (whole_value_scalar c.args.input.now (c.args.at + k) c.type_inv.input))
