use Rattle.cv_simd.proofs.SplitStarts.{marked_by}
use Rattle.cv_simd.proofs.double_bytes.lead_mask.Goals as goal

pub returns : goal.returns
returns c = marked_by c.args.text.now c.args.at c.requires
