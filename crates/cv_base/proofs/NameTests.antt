-- A test on names that is true exactly when they are the same is the test of the definition.
use Rattle.std.proofs.Common.{◌≡◌, ℕ, Bool, List, map}
use Rattle.std.specs.Prelude.{IsTrue, ◌↔◌}
use Rattle.std.specs.Char.{to_ascii_lowercase}
use Rattle.std.proofs.lemmas.Bool.Decides.{same_from_decides}
use Rattle.std.proofs.lemmas.Slice.Eq.{bytes_eq-Decides}
use Rattle.cv_base.specs.Names.{is_same_name}

-- a test that is true exactly when two names are the same in lower case is the test of the definition
pub test_is : (r : Bool) (a b : List ℕ) → (IsTrue r ↔ (map to_ascii_lowercase a ≡ map to_ascii_lowercase b))
    → r ≡ is_same_name a b
test_is r a b h = same_from_decides r _ h (bytes_eq-Decides (map to_ascii_lowercase a) (map to_ascii_lowercase b))
