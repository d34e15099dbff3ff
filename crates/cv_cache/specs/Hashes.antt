-- The keyed hash of a text. No program here runs it. The sums of texts use only `folded` of it.
use Rattle.std.specs.Prelude.{ℕ, ◌+◌, ◌-◌, ◌*◌, ◌/◌, ◌%◌, ◌^◌, bit_and, bit_xor}
use Rattle.cv_cache.specs.declared.text_hasher.HashKeys.{HashKeys}
use Rattle.cv_cache.specs.declared.text_hasher.TextHasher.{TextHasher}

-- the hasher before the first byte
abbrev pub hash_start : HashKeys → TextHasher
hash_start keys = record { keys = keys; offset = 0; total = 0 }

-- the xor of the two halves of a 128-bit product
unfoldable pub folded : ℕ → ℕ → ℕ
folded a b = bit_xor (bit_and (a * b) (2 ^ 64 - 1)) (a * b / 2 ^ 64)

-- The hasher after one more byte: what the byte, its index and the keys are mixed to is added.
unfoldable pub with_byte : TextHasher → ℕ → TextHasher
with_byte hasher byte = record {
  keys = hasher.keys;
  offset = (hasher.offset + 256) % 2 ^ 64;
  total =
      (hasher.total + folded (bit_xor hasher.keys.seed ((hasher.offset + byte) % 2 ^ 64)) hasher.keys.factor) % 2 ^ 64;
}

-- the hash of the bytes so far
abbrev pub hash_of : TextHasher → ℕ
hash_of hasher = folded (bit_xor hasher.total hasher.keys.seed) hasher.keys.factor
