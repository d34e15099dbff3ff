-- A character of any size at the start of a text.
use Rattle.std.specs.Prelude.{ℕ, ◌≤◌, List, length, Some}
use Rattle.cv_base.specs.Items.{taken, Stands}
use Rattle.cv_base.specs.Scalars.{IsScalar}
use Rattle.cv_base.specs.declared.state.ReadState.TheVariants as read
use Rattle.cv_charmap.specs.Entries.{Pair}
use Rattle.cv_trie.specs.Charmaps.{map_reads}

-- A text begins with this character, which has so many bytes.
pub record IsLong (pairs : List Pair) (text : List ℕ) (size character : ℕ) : Type 0 where
  pub scalar : IsScalar character
  pub stands : Stands (map_reads pairs) read.Start text (taken size (Some character) read.Start)
  pub within : size ≤ length text
