-- The bytes of sixteen characters at once, as vectors compute them.
use Rattle.std.proofs.Common.{◌≡◌, ℕ, ◌+◌, ◌*◌, ◌/◌, ◌%◌, ◌^◌, ◌<◌, cond, List, [], ◌∷◌, length, get_or, map, refl}
use Rattle.std.proofs.Common.{arith, zero, suc}
use Rattle.std.specs.Prelude.{replicate}
use Rattle.std.specs.Int.{to_le_bytes, w32}
use Rattle.std.specs.Simd.Lanes.{top, zip2, sel_l}
use Rattle.std.proofs.Math.Dec.{leb}
use Rattle.cv_base.specs.Scalars.{IsScalar}
use Rattle.cv_base.specs.Items.{Begins}
use Rattle.cv_block.proofs.Lanes.{below, div_all, rem_all, mul_all, sum_all, below_all}
use Rattle.cv_utf8.specs.Utf8.{utf8_bytes}

-- one lane
abbrev spread : ℕ → ℕ
spread v = (((v / 262144 + ((v / 4096 % 64) * 0x100) % 2 ^ 32) % 2 ^ 32 + ((v / 64 % 64) * 0x10000) % 2 ^ 32) % 2 ^ 32
    + ((v % 64) * 0x1000000) % 2 ^ 32) % 2 ^ 32

-- the word of a lane
abbrev pub lane_word : ℕ → ℕ
lane_word v = below 0x10000 v (below 0x800 v (below 0x80 v v ((spread v / 0x10000 + 0x80c0) % 2 ^ 32))
    ((spread v / 0x100 + 0x8080e0) % 2 ^ 32)) ((spread v + 0x808080f0) % 2 ^ 32)

-- the word begins with the bytes of the character
pub word_begins : (v : ℕ) → IsScalar v → Begins (utf8_bytes v) (to_le_bytes w32 (lane_word v))
word_begins v s = grind arith

abbrev spread_all : ℕ → List ℕ → List ℕ
spread_all n vs = sum_all (sum_all (sum_all (div_all n 262144 vs) (mul_all n 0x100 (rem_all n 64 (div_all n 4096 vs))))
    (mul_all n 0x10000 (rem_all n 64 (div_all n 64 vs)))) (mul_all n 0x1000000 (rem_all n 64 vs))

abbrev words_all : ℕ → List ℕ → List ℕ
words_all n vs = below_all n 0x10000 vs (below_all n 0x800 vs
    (below_all n 0x80 vs vs (sum_all (div_all n 0x10000 (spread_all n vs)) (replicate n 0x80c0))) (sum_all
    (div_all n 0x100 (spread_all n vs)) (replicate n 0x8080e0))) (sum_all (spread_all n vs) (replicate n 0x808080f0))

-- each word is that of its lane
pub words_at : (n : ℕ) (vs : List ℕ) (k : ℕ) → length vs ≡ n → k < n
    → get_or (words_all n vs) k 0 ≡ lane_word (get_or vs k 0)
words_at zero vs k e h = absurd (omega arith)
words_at (suc n) [] k e h = cc
words_at (suc n) (v ∷ vs) zero e h = refl
words_at (suc n) (v ∷ vs) (suc k) e h = words_at n vs k (omega arith) (omega arith)

-- 1 if a number is at least a limit, and 0 otherwise
abbrev pub above : ℕ → ℕ → ℕ
above k v = cond (top 31 (cond (leb k v) 0xffffffff 0)) 1 0

-- how many bytes a lane has
abbrev pub lane_size : ℕ → ℕ
lane_size v = (((1 + above 0x80 v) % 2 ^ 32 + above 0x800 v) % 2 ^ 32 + above 0x10000 v) % 2 ^ 32

-- a lane has as many bytes as its character
pub size_is : (v : ℕ) → lane_size v ≡ length (utf8_bytes v)
size_is v = grind arith

-- 1 in each lane whose number is at least a limit, and 0 in the others
abbrev pub above_all : ℕ → ℕ → List ℕ → List ℕ
above_all n k vs =
    sel_l (map (top 31) (zip2 (λ a b. cond (leb a b) 0xffffffff 0) (replicate n k) vs)) (replicate n 1) (replicate n 0)

abbrev sizes_all : ℕ → List ℕ → List ℕ
sizes_all n vs =
    sum_all (sum_all (sum_all (replicate n 1) (above_all n 0x80 vs)) (above_all n 0x800 vs)) (above_all n 0x10000 vs)

-- each size is that of its lane
pub sizes_at : (n : ℕ) (vs : List ℕ) (k : ℕ) → length vs ≡ n → k < n
    → get_or (sizes_all n vs) k 0 ≡ lane_size (get_or vs k 0)
sizes_at zero vs k e h = absurd (omega arith)
sizes_at (suc n) [] k e h = cc
sizes_at (suc n) (v ∷ vs) zero e h = refl
sizes_at (suc n) (v ∷ vs) (suc k) e h = sizes_at n vs k (omega arith) (omega arith)
