-- Prefixes of one list.
use Rattle.std.proofs.Common.{◌≡◌, ℕ, ◌<◌, ◌+◌, List, [], ◌∷◌, ◌++◌, length, get_or, zero, suc, arith, length-append}
use Rattle.cv_base.specs.Items.{Begins}

-- a prefix with the next byte is a prefix
pub Begins-more : (u w : List ℕ) (d b : ℕ) → Begins u w → length u ≡ d → d < length w → b ≡ get_or w d 0
    → Begins (u ++ b ∷ []) w
Begins-more [] [] d b p e l is = absurd (omega arith)
Begins-more [] (y ∷ w) zero b p e l is = (is, tt)
Begins-more [] (y ∷ w) (suc d) b p e l is = absurd (omega arith)
Begins-more (x ∷ u) [] d b p e l is = absurd p
Begins-more (x ∷ u) (y ∷ w) zero b p e l is = absurd (omega arith)
Begins-more (x ∷ u) (y ∷ w) (suc d) b p e l is = (p.0, Begins-more u w d b p.1 (omega arith) (omega arith) is)

-- one more byte makes a list longer by one
pub longer_by_one : (u : List ℕ) (b : ℕ) → length (u ++ b ∷ []) ≡ length u + 1
longer_by_one u b = length-append u (b ∷ [])
