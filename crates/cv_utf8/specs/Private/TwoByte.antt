-- Units of one or two bytes in UTF-8, of which eight are written at once.
use Rattle.std.specs.Prelude.{◌≡◌, ℕ, Bool, not, nat_lt, List, map}
use Rattle.std.specs.List.{flat_map}
use Rattle.cv_simd.specs.Compressed.{from_pairs}
use Rattle.cv_utf8.specs.Utf8.{utf8_bytes}

-- The unit has two bytes or more.
abbrev pub has_two : ℕ → Bool
has_two u = not (nat_lt u 0x80)

-- Of pairs of bytes, the first of each and the second of those of two bytes are the bytes of some units.
abbrev pub ArePairs : List ℕ → List ℕ → Type 0
ArePairs pairs units = from_pairs (map has_two units) pairs ≡ flat_map utf8_bytes units
