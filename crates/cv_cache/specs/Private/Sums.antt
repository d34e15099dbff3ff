-- The keyed sum of a text.
use Rattle.std.specs.Prelude.{◌≡◌, ℕ, ◌*◌, ◌/◌, List, [], length, drop, bit_xor, slice_index_or}
use Rattle.std.specs.List.{fold}
use Rattle.std.specs.Int.{from_le_bytes, w64}
use Rattle.std.specs.Simd.{first_chunks}
use Rattle.cv_cache.specs.Hashes.{folded}
use Rattle.cv_cache.specs.declared.text_hasher.HashKeys.{HashKeys}
use Rattle.cv_cache.specs.declared.text_sum.Chains.{Chains}
use Rattle.cv_cache.specs.declared.text_sum.Sum.{Sum}

-- the chains before the first byte of a text of this length
abbrev pub start : HashKeys → ℕ → Chains
start keys length =
    let even = folded (bit_xor keys.seed length) keys.factor in
    record { even = even; odd = folded (bit_xor even keys.seed) keys.factor }

-- the word of a block with this index, little-endian
abbrev pub word : List ℕ → ℕ → ℕ
word block i = from_le_bytes w64 (slice_index_or (first_chunks 8 4 block) i [])

-- The chains after one more block: each half goes into a chain of its own.
abbrev pub with_block : ℕ → Chains → List ℕ → Chains
with_block factor chains block = record {
  even = folded (bit_xor chains.even (word block 0)) (bit_xor factor (word block 1));
  odd = folded (bit_xor chains.odd (word block 2)) (bit_xor factor (word block 3));
}

-- The chains after one more byte.
abbrev pub with_byte : ℕ → Chains → ℕ → Chains
with_byte factor chains byte = record { even = chains.even; odd = folded (bit_xor chains.odd byte) factor }

-- the sum that both chains give
abbrev pub ended : HashKeys → Chains → ℕ
ended keys chains = folded (bit_xor chains.even keys.seed) (bit_xor chains.odd keys.factor)

-- The sum of a text: first its blocks of 32 bytes, then the bytes that fill none.
unfoldable pub sum_of : HashKeys → List ℕ → ℕ
sum_of keys text =
    let blocks = fold (with_block keys.factor) (start keys (length text)) (first_chunks 32 (length text / 32) text) in
    ended keys (fold (with_byte keys.factor) blocks (drop (length text / 32 * 32) text))

-- A sum is that of this text by the sum's own keys.
abbrev pub IsSum : List ℕ → Sum → Type 0
IsSum text sum = sum.value ≡ sum_of sum.keys text
