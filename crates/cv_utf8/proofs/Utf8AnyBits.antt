-- The bitwise OR of several characters.
use Rattle.std.proofs.Common.{◌≡◌, ℕ, ◌+◌, ◌<◌, ◌≤◌, List, length, get_or, arith, bit_or, inl, inr}
use Rattle.std.proofs.lemmas.Bool.{cases_lt}
use Rattle.std.proofs.lemmas.List.{get_or_read}
use Rattle.std.proofs.lemmas.Nat.{le_or_l, le_or_r}

-- none of some characters is above the bitwise OR of all of them
pub joined_more : (characters : List ℕ) (n m any_bits c d : ℕ) → n + m < length characters
    → ((k : ℕ) → k < m → get_or characters (n + k) 0 ≤ any_bits) → c ≡ get_or characters (n + m) c → d ≡ c → (k : ℕ)
    → k < m + 1 → get_or characters (n + k) 0 ≤ bit_or any_bits d
joined_more characters n m any_bits c d low p is same k h = elim (cases_lt k m) [
  | inl lower ↦ omega (arith, p k lower, le_or_l any_bits d)
  | inr upper ↦ (
      let last : k ≡ m = omega arith in
      let here : c ≡ get_or characters (n + m) 0 = get_or_read characters (n + m) c low is 0 in
      rw last (omega (arith, here, same, le_or_r any_bits d)))
]
