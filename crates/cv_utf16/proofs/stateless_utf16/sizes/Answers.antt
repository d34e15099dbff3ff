use Rattle.std.proofs.Common.{arith, ◌∙◌, get_or}
use Rattle.cv_utf16.proofs.Utf16Lanes.{sizes_at, lane_size_is}
use Rattle.cv_utf16.proofs.stateless_utf16.sizes.Goals as goal

pub returns : goal.returns
returns c endian k h = sizes_at 16 c.args.values k (omega arith) h ∙ lane_size_is endian (get_or c.args.values k 0)
