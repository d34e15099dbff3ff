-- Sets of bytes, by the two halves of each byte.
use Rattle.std.specs.Prelude.{ℕ, ◌/◌, Bool, not, List, [], ◌∷◌, get_or, nat_eq, bit_and}

-- the bit of each higher half
abbrev pub half_bits : List ℕ
half_bits = 1 ∷ 2 ∷ 4 ∷ 8 ∷ 16 ∷ 32 ∷ 64 ∷ 128 ∷ 0 ∷ 0 ∷ 0 ∷ 0 ∷ 0 ∷ 0 ∷ 0 ∷ 0 ∷ []

-- A byte is in a set if its lower half's entry has its higher half's bit.
unfoldable pub is_in : List ℕ → ℕ → Bool
is_in set b = not (nat_eq (bit_and (get_or set (bit_and b 15) 0) (get_or half_bits (b / 16) 0)) 0)
