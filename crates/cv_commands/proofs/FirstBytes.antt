-- The first of some bytes that passes a test, by blocks.
use Rattle.std.proofs.Common.{◌≡◌, ℕ, ◌+◌, ◌<◌, ◌≤◌, Bool, false, get_or, List, length, take, drop, sym, arith, inl}
use Rattle.std.proofs.Common.{inr}
use Rattle.std.specs.List.{position_or_len}
use Rattle.std.proofs.lemmas.Bool.{cases_lt}
use Rattle.std.proofs.lemmas.List.Sums.{position_or_len_is}
use Rattle.std.proofs.lemmas.Simd.{run_in_chunk_le, run_in_chunk_fails, run_in_chunk_stops}

-- None of the first n bytes passes.
abbrev pub NonePasses : (ℕ → Bool) → List ℕ → ℕ → Type 0
NonePasses p text n = (k : ℕ) → k < n → p (get_or text k 0) ≡ false

-- no byte before a block passes, and none of the block before its first that does
pub none_more : (p : ℕ → Bool) (text : List ℕ) (n few : ℕ) → n + 16 ≤ length text
    → few ≡ position_or_len p (take 16 (drop n text)) → NonePasses p text n → NonePasses p text (n + few)
none_more p text n few room is none k lt = elim (cases_lt k n) [
  | inl before ↦ none k before
  | inr past ↦ run_in_chunk_fails p text n 16 few 0 room is k past lt
]

-- at most 16 bytes of a block precede its first that passes
pub few_of_block : (p : ℕ → Bool) (text : List ℕ) (n few : ℕ) → n + 16 ≤ length text
    → few ≡ position_or_len p (take 16 (drop n text)) → few ≤ 16
few_of_block p text n few room is = run_in_chunk_le p text n 16 few 0 room is

-- the first byte of a block that passes is the first of all
pub first_in_block : (p : ℕ → Bool) (text : List ℕ) (n few : ℕ) → n + 16 ≤ length text → few
    ≡ position_or_len p (take 16 (drop n text)) → NonePasses p text n → few < 16 → n + few ≡ position_or_len p text
first_in_block p text n few room is none lt = sym (position_or_len_is p text (n + few) 0 (omega arith)
    (none_more p text n few room is none) (λ within. run_in_chunk_stops p text n 16 few 0 room is lt))

-- no byte of the long blocks passes either
pub none_past : (p : ℕ → Bool) (text : List ℕ) (n m : ℕ) → NonePasses p text n
    → ((k : ℕ) → n ≤ k → k < m → p (get_or text k 0) ≡ false) → NonePasses p text m
none_past p text n m none more k lt = elim (cases_lt k n) [
  | inl before ↦ none k before
  | inr past ↦ more k past lt
]
