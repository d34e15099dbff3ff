use Rattle.std.proofs.Common.{arith, ap, get_or, sym, ℕ, ◌≡◌, ◌+◌, ◌∙◌}
use Rattle.cv_simd.specs.ByteClasses.{is_in}
use Rattle.cv_utf7.specs.declared.direct_bytes.TheConstants.{STANDS}
use Rattle.cv_utf7.proofs.DirectBytes.{stands_in}
use Rattle.cv_utf7.proofs.direct_bytes.written_run.Goals as goal

pub returns-clause-direct : goal.returns-clause-direct
returns-clause-direct c i l =
    let there : i ≡ 0 + i = omega arith in
    sym (stands_in _ (c.type_inv.bytes i).fits) ∙ ap (λ (j : ℕ). is_in STANDS (get_or c.args.bytes.now j 0)) there
    ∙ c.run_in.ensures.members i l
