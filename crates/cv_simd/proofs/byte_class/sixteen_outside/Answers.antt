use Rattle.std.proofs.Common.{◌∙◌}
use Rattle.cv_simd.proofs.ClassLanes.{in_set}
use Rattle.cv_simd.proofs.StopBits.{one_behind, others_stay}
use Rattle.cv_simd.proofs.byte_class.sixteen_outside.Goals as goal

pub returns-clause-outside : goal.returns-clause-outside
returns-clause-outside c i l = others_stay _ i l
    ∙ in_set c.args.class c.args.bytes _ _ c.fits-bytes.0 c.by_lower_half.ensures c.by_higher_half.ensures i l

pub returns-clause-end : goal.returns-clause-end
returns-clause-end c = one_behind _
