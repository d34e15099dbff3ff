-- Tables of which only one caller's may have changed.
use Rattle.std.proofs.Common.{◌≡◌, ℕ, Bool, true, false, eqb, refl, ap}
use Rattle.std.proofs.Math.Path.{fun_ext}
use Rattle.std.proofs.lemmas.Bool.{eqb-true}
use Rattle.cv_machine.specs.Machine.{with_table}
use Rattle.cv_caller.specs.Tables.{Table}

changes_at : (s t : ℕ → Table) (c : ℕ) → ((q : ℕ) → eqb q c ≡ false → t q ≡ s q) → (q : ℕ)
    → t q ≡ with_table s c (t c) q
changes_at s t c h q =
    (elim (eqb q c) as (λ (b : Bool). eqb q c ≡ b → t q ≡ with_table s c (t c) q) [
      | true ↦ λ (e : eqb q c ≡ true). rw e (ap t (eqb-true q c e))
      | false ↦ λ (e : eqb q c ≡ false). rw e (h q e)
    ]) refl

-- only this caller's table changed
pub changes_only : (s t : ℕ → Table) (c : ℕ) → ((q : ℕ) → eqb q c ≡ false → t q ≡ s q) → t ≡ with_table s c (t c)
changes_only s t c h = fun_ext (changes_at s t c h)
