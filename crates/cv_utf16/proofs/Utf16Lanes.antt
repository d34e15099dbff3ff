-- Sixteen characters that are spelled at once in UTF-16, as vectors compute it.
use Rattle.std.proofs.Common.{◌≡◌, ℕ, ◌+◌, ◌*◌, ◌/◌, ◌%◌, ◌^◌, ◌<◌, List, [], ◌∷◌, length, get_or, refl, arith, zero}
use Rattle.std.proofs.Common.{suc}
use Rattle.std.specs.Prelude.{replicate}
use Rattle.std.specs.Int.{to_le_bytes, w32}
use Rattle.cv_base.specs.Scalars.{IsScalar}
use Rattle.cv_base.specs.Items.{Begins}
use Rattle.cv_base.specs.declared.endian.Endian.{Endian}
use Rattle.cv_base.specs.declared.endian.Endian.TheVariants.{Big, Little}
use Rattle.cv_utf16.specs.Utf16.{utf16}
use Rattle.cv_block.proofs.Lanes.{below, div_all, rem_all, mul_all, sum_all, below_all}

-- the first unit of a lane
abbrev first : ℕ → ℕ
first v = below 0x10000 v v ((v / 0x400 + 0xd7c0) % 2 ^ 32)

abbrev second : ℕ → ℕ
second v = (v % 0x400 + 0xdc00) % 2 ^ 32

abbrev turned : ℕ → ℕ
turned u = (u / 0x100 + ((u % 0x100) * 0x100) % 2 ^ 32) % 2 ^ 32

-- the word of a lane with the low byte of each unit first
abbrev pub lane_little : ℕ → ℕ
lane_little v = (first v + (second v * 0x10000) % 2 ^ 32) % 2 ^ 32

-- the word of a lane with the high byte of each unit first
abbrev pub lane_big : ℕ → ℕ
lane_big v = (turned (first v) + (turned (second v) * 0x10000) % 2 ^ 32) % 2 ^ 32

-- how many bytes a lane has
abbrev pub lane_size : ℕ → ℕ
lane_size v = (2 + below 0x10000 v 0 2) % 2 ^ 32

-- the word begins with the bytes of the character, the low one of each unit first
pub little_begins : (v : ℕ) → IsScalar v → Begins (utf16 Little v) (to_le_bytes w32 (lane_little v))
little_begins v s = grind arith

-- the word begins with the bytes of the character, the high one of each unit first
pub big_begins : (v : ℕ) → IsScalar v → Begins (utf16 Big v) (to_le_bytes w32 (lane_big v))
big_begins v s = grind arith

-- a lane has as many bytes as its character
pub lane_size_is : (e : Endian) (v : ℕ) → lane_size v ≡ length (utf16 e v)
lane_size_is Big v = grind arith
lane_size_is Little v = grind arith

-- the first units of all lanes
abbrev firsts : ℕ → List ℕ → List ℕ
firsts n vs = below_all n 0x10000 vs vs (sum_all (div_all n 0x400 vs) (replicate n 0xd7c0))

abbrev seconds : ℕ → List ℕ → List ℕ
seconds n vs = sum_all (rem_all n 0x400 vs) (replicate n 0xdc00)

abbrev turned_all : ℕ → List ℕ → List ℕ
turned_all n us = sum_all (div_all n 0x100 us) (mul_all n 0x100 (rem_all n 0x100 us))

-- the words with the low byte of each unit first
abbrev pub little_all : ℕ → List ℕ → List ℕ
little_all n vs = sum_all (firsts n vs) (mul_all n 0x10000 (seconds n vs))

-- the words with the high byte of each unit first
abbrev pub big_all : ℕ → List ℕ → List ℕ
big_all n vs = sum_all (turned_all n (firsts n vs)) (mul_all n 0x10000 (turned_all n (seconds n vs)))

-- the sizes of all lanes
abbrev pub sizes_all : ℕ → List ℕ → List ℕ
sizes_all n vs = sum_all (replicate n 2) (below_all n 0x10000 vs (replicate n 0) (replicate n 2))

-- each word with the low bytes first is that of its lane
pub little_at : (n : ℕ) (vs : List ℕ) (k : ℕ) → length vs ≡ n → k < n
    → get_or (little_all n vs) k 0 ≡ lane_little (get_or vs k 0)
little_at zero vs k e h = absurd (omega arith)
little_at (suc n) [] k e h = cc
little_at (suc n) (v ∷ vs) zero e h = refl
little_at (suc n) (v ∷ vs) (suc k) e h = little_at n vs k (omega arith) (omega arith)

-- each word with the high bytes first is that of its lane
pub big_at : (n : ℕ) (vs : List ℕ) (k : ℕ) → length vs ≡ n → k < n
    → get_or (big_all n vs) k 0 ≡ lane_big (get_or vs k 0)
big_at zero vs k e h = absurd (omega arith)
big_at (suc n) [] k e h = cc
big_at (suc n) (v ∷ vs) zero e h = refl
big_at (suc n) (v ∷ vs) (suc k) e h = big_at n vs k (omega arith) (omega arith)

-- each size is that of its lane
pub sizes_at : (n : ℕ) (vs : List ℕ) (k : ℕ) → length vs ≡ n → k < n
    → get_or (sizes_all n vs) k 0 ≡ lane_size (get_or vs k 0)
sizes_at zero vs k e h = absurd (omega arith)
sizes_at (suc n) [] k e h = cc
sizes_at (suc n) (v ∷ vs) zero e h = refl
sizes_at (suc n) (v ∷ vs) (suc k) e h = sizes_at n vs k (omega arith) (omega arith)
