use Rattle.std.proofs.Common.{arith, ◌∙◌, get_or}
use Rattle.cv_utf8.proofs.Utf8Lanes.{sizes_at, size_is}
use Rattle.cv_utf8.proofs.stateless_utf8.sizes.Goals as goal

pub returns : goal.returns
returns c k h = sizes_at 16 c.args.values k (omega arith) h ∙ size_is (get_or c.args.values k 0)
