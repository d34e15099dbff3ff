-- Outcomes of requests.
use Rattle.std.proofs.Common.{◌≡◌, refl}
use Rattle.cv_machine.specs.Machine.{Outcome}

module _ {Table : Type 0} where
  -- outcomes whose parts are the same are the same
  pub same_outcome : (a b : Outcome Table) → a.next ≡ b.next → a.code ≡ b.code → a.body ≡ b.body → a ≡ b
  same_outcome a b n c e = rw (n, c, e) refl
