-- Characters of UTF-8 that are read as units of sixteen bits. It exists for speed: no contract of a conversion cites
-- it.
use Rattle.std.specs.Prelude.{◌≡◌, ℕ, ◌≤◌, ◌<◌, List, ◌++◌, take, drop, length, get_or}
use Rattle.std.specs.List.{flat_map}
use Rattle.cv_base.specs.Items.{Begins}
use Rattle.cv_base.specs.Scalars.{AreScalars}
use Rattle.cv_utf8.specs.Utf8.{utf8_bytes}
use Rattle.cv_utf8.specs.declared.read.utf16_lanes.Utf16Lanes.{Utf16Lanes}

-- the characters of both parts
abbrev pub lane_characters : Utf16Lanes → List ℕ
lane_characters units = take units.firsts units.first ++ take units.seconds units.second

-- The bytes of the characters, `used` together, are at offset `at` of a text.
pub record AreRead (text : List ℕ) (at : ℕ) (units : Utf16Lanes) : Type 0 where
  pub few : units.firsts ≤ 8
  pub others : units.seconds ≤ 8
  pub scalars : AreScalars (lane_characters units)
  pub begins : Begins (flat_map utf8_bytes (lane_characters units)) (drop at text)
  pub uses : units.used ≡ length (flat_map utf8_bytes (lane_characters units))

-- All units are below 256, also those after the characters.
pub record AreLatin1 (units : Utf16Lanes) : Type 0 where
  pub low : (k : ℕ) → k < 8 → get_or units.first k 0 < 256
  pub high : (k : ℕ) → k < 8 → get_or units.second k 0 < 256
