-- How a text compares with an entry's bytes.
use Rattle.std.specs.Prelude.{◌≡◌, ◌≢◌, ℕ, ◌≤◌, ◌<◌, List, length, take, slice_index_or}
use Rattle.cv_base.specs.Items.{Begins}
use Rattle.cv_byte_trie.specs.declared.comparing.Comparison.{Comparison}
use Rattle.cv_byte_trie.specs.declared.comparing.Comparison.TheVariants.{Held, Inside, Parts}

-- The longest common prefix of two byte strings has so many bytes.
pub record AgreeFor (left right : List ℕ) (count : ℕ) : Type 0 where
  pub in_left : count ≤ length left
  pub in_right : count ≤ length right
  pub same : take count left ≡ take count right
  pub differ : count < length left → count < length right → slice_index_or left count 0 ≢ slice_index_or right count 0

-- How a text compares with the bytes of an entry: it begins with them, or it is a proper prefix of them, or they differ
-- after so many bytes.
abbrev pub Compares : (held text : List ℕ) → Comparison → Type 0
Compares held text Held = Begins held text
Compares held text Inside = Begins text held × (length text < length held)
Compares held text (Parts count) = AgreeFor held text count × (count < length held) × (count < length text)
