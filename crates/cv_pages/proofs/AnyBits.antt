-- The bits of several numbers, joined by OR.
use Rattle.std.proofs.Common.{ℕ, ◌+◌, ◌<◌, ◌≤◌, arith, bit_or, below_more}
use Rattle.std.proofs.lemmas.Nat.{le_or_l, le_or_r}

-- no number is above the joined bits of several numbers with it
pub any_bits_more : (f : ℕ → ℕ) (m bits : ℕ) → ((k : ℕ) → k < m → f k ≤ bits) → (k : ℕ) → k < m + 1
    → f k ≤ bit_or bits (f m)
any_bits_more f m bits p = below_more (λ (k : ℕ). f k ≤ bit_or bits (f m)) m
    (λ k h. omega (arith, p k h, le_or_l bits (f m))) (le_or_r bits (f m))
