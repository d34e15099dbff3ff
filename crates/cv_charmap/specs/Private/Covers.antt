-- Which entries of ranges are known to be in the list of pairs, from a pair on.
use Rattle.std.specs.Prelude.{◌≡◌, ℕ, Bool, true, ◌+◌, ◌<◌, ◌≤◌, List, [], length, slice_index_or, Ok}
use Rattle.cv_byte_trie.specs.Entries.{bytes_at, AreApart}
use Rattle.cv_charmap.specs.Entries.{Pair, entry_at}
use Rattle.cv_charmap.specs.Lists.{most_pairs}
use Rattle.cv_charmap.specs.declared.covered.Covered.{Covered}
use Rattle.cv_charmap.specs.declared.covered.LookedUp.{LookedUp}

-- the pair at an index
abbrev pub pair_at : List Pair → ℕ → Pair
pair_at all index = slice_index_or all index ([], 0)

-- The `i`th entry of a range after the first is in the list.
abbrev pub HasEntry : List Pair → Bool → ℕ → List ℕ → ℕ → Type 0
HasEntry all hex first bytes i = (index : ℕ) × (index < length all)
    × (entry_at hex first bytes i ≡ Ok (pair_at all index))

-- The first `count` entries of a range are in the list.
abbrev pub HasEntries : List Pair → Bool → ℕ → List ℕ → ℕ → Type 0
HasEntries all hex first bytes count = (i : ℕ) → i < count → HasEntry all hex first bytes i

-- what is known from the pair at an index on
abbrev pub covered_at : List Covered → ℕ → Covered
covered_at notes index = slice_index_or notes index (record { hex = true; number = 0; count = 0 })

-- The entries that are known to be in the list are in it.
abbrev pub AreCovered : List Pair → List Covered → Type 0
AreCovered all notes = (index : ℕ) → index < length notes → let r : Covered = covered_at notes index in
    HasEntries all r.hex r.number (bytes_at all index) r.count

-- no entries
abbrev pub no_run : LookedUp
no_run = record { at = 0; index = 0; size = 0 }

-- Consecutive entries of a range are the pairs from an index on.
abbrev pub IsFound : List Pair → Bool → ℕ → List ℕ → ℕ → LookedUp → Type 0
IsFound all hex first bytes end run = (run.at + run.size ≤ end) × ((j : ℕ) → j < run.size
    → (run.index + j < length all) × (entry_at hex first bytes (run.at + j) ≡ Ok (pair_at all (run.index + j))))

-- Entries of a range that were entered or found are the pairs at their indices.
abbrev pub AreFound : List Pair → Bool → ℕ → List ℕ → ℕ → List LookedUp → Type 0
AreFound all hex first bytes end found =
    (k : ℕ) → k < length found → IsFound all hex first bytes end (slice_index_or found k no_run)

-- The invariant of the list while it is read: its pairs are not too many, none begins with another, and what is known
-- from the first of them on is so.
pub record IsPairList (all : List Pair) (notes : List Covered) : Type 0 where
  pub few : length all ≤ most_pairs
  pub apart : AreApart all
  pub within : length notes ≤ length all
  pub covered : AreCovered all notes
