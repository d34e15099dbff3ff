-- Bytes that are characters by themselves.
use Rattle.std.specs.Prelude.{◌≡◌, ◌==◌, ◌&&◌, ℕ, ◌<◌, Bool, true, List, [], ◌∷◌, get_or}
use Rattle.std.specs.Set.{is_member}
use Rattle.std.specs.Str.{bytes_eq}
use Rattle.cv_base.specs.Scalars.{IsScalar}
use Rattle.cv_charmap.specs.Entries.{Pair}

-- the number for no character
abbrev pub no_character : ℕ
no_character = 0x200000

-- whether two pairs are the same
abbrev pub is_same : Pair → Pair → Bool
is_same p q = bytes_eq p.0 q.0 && p.1 == q.1

-- Bytes are this character. A test says so, since a type keeps only facts that have one proof, and a list may have a
-- pair at several indices.
abbrev pub HasPair : List Pair → List ℕ → ℕ → Type 0
HasPair pairs bytes character = IsScalar character × (is_member is_same pairs (bytes, character) ≡ true)

-- The number of each of the first `n` bytes is the character that the byte is by itself, unless it is that for no
-- character or above.
abbrev pub AreOnes : List Pair → List ℕ → ℕ → Type 0
AreOnes pairs ones n = (b : ℕ) → b < n → get_or ones b 0 < no_character → HasPair pairs (b ∷ []) (get_or ones b 0)
