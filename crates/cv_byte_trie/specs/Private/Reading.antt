-- What is known while a byte string is followed through a trie.
use Rattle.std.specs.Prelude.{◌≡◌, ℕ, ◌+◌, ◌<◌, List, length, take, slice_index_or}
use Rattle.cv_byte_trie.specs.Entries.{Entry, bytes_at}
use Rattle.cv_byte_trie.specs.Results.{GoesOnBehind}
use Rattle.cv_byte_trie.specs.Tries.{StepsBy, none, tails, tail_code, IsAt}
use Rattle.cv_byte_trie.specs.declared.walking.WalkEnd.{WalkEnd}
use Rattle.cv_byte_trie.specs.declared.walking.WalkEnd.TheVariants as reached
use Rattle.cv_byte_trie.specs.declared.walking.Tail.{Tail}

-- The next byte leads nowhere.
pub record IsVacant (step : StepsBy) (count : ℕ) (entries : List Entry) (text : List ℕ) (depth node : ℕ) : Type 0 where
  pub here : IsAt step count entries text depth node
  pub more : depth < length text
  pub byte : slice_index_or text depth 0 < 256
  pub vacant : step node (slice_index_or text depth 0) ≡ none

-- The next byte leads to an entry that has bytes after it.
pub record IsTail (step : StepsBy) (count : ℕ) (entries : List Entry) (text : List ℕ) (tail : Tail) : Type 0 where
  pub here : IsAt step count entries text tail.depth tail.node
  pub more : tail.depth < length text
  pub byte : slice_index_or text tail.depth 0 < 256
  pub code : step tail.node (slice_index_or text tail.depth 0) ≡ tail_code tail.index
  pub few : tail.index < tails

-- where a text leads
abbrev pub LeadsTo : StepsBy → ℕ → List Entry → List ℕ → WalkEnd → Type 0
LeadsTo step count entries text (reached.Leaf index depth) =
    (index < length entries) × (depth < length text) × (bytes_at entries index ≡ take (depth + 1) text)
LeadsTo step count entries text (reached.Tail tail) = IsTail step count entries text tail
LeadsTo step count entries text reached.Inside = (p : ℕ) × GoesOnBehind entries text p
LeadsTo step count entries text (reached.Vacant node depth) = IsVacant step count entries text depth node
