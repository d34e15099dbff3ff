-- What UTF-16 and UTF-32 have in common.
use Rattle.std.specs.Prelude.{◌≡◌, ℕ, ◌<◌, ◌≤◌, List, length}
use Rattle.cv_base.specs.Scalars.{IsScalar}
use Rattle.cv_base.specs.Items.{Begins}
use Rattle.cv_base.specs.declared.endian.Endian.{Endian}
use Rattle.cv_base.specs.declared.endian.Endian.TheVariants.{Big, Little}
use Rattle.cv_utf16.specs.Orders.{OrderedForm, mark}

-- Two scalars whose bytes begin one text are the same; each has some bytes, and four at most.
pub record IsUnique (bytes_of : ℕ → List ℕ) : Type 0 where
  pub one : (text : List ℕ) (c d : ℕ) → IsScalar c → IsScalar d → Begins (bytes_of c) text → Begins (bytes_of d) text
      → c ≡ d
  pub some : (c : ℕ) → 0 < length (bytes_of c)
  pub few : (c : ℕ) → length (bytes_of c) ≤ 4

-- In each order the scalars are unique. The little-endian mark does not begin a text with the big-endian one, nor with
-- another big-endian character.
pub record IsForm (form : OrderedForm) : Type 0 where
  pub unique : (endian : Endian) → IsUnique (form endian)
  pub marks : (text : List ℕ) → Begins (form Big mark) text → Begins (form Little mark) text → ⊥
  pub little_alone : (text : List ℕ) (c : ℕ) → IsScalar c → Begins (form Big c) text → Begins (form Little mark) text
      → form Big c ≡ form Little mark
