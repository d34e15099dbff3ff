-- What holds for every charmap.
use Rattle.std.specs.Prelude.{◌≡◌, ◌==◌, ◌≤◌, ℕ, true, List, length, Ok}
use Rattle.std.specs.List.{list_any}
use Rattle.cv_base.specs.Scalars.{question}
use Rattle.cv_byte_trie.specs.Entries.{AreEntries}
use Rattle.cv_charmap.specs.Entries.{Pair}
use Rattle.cv_charmap.specs.Lists.{most_pairs}
use Rattle.cv_charmap.specs.Meaning.{Charmap, meaning}

-- The pairs of a charmap, 262,144 at most: byte strings of 1 to 8 bytes, distinct and none a prefix of another, with
-- scalar values, among them that of `?`.
pub record IsMap (pairs : List Pair) : Type 0 where
  pub entries : AreEntries pairs
  pub substitute : list_any (λ p. p.1 == question) pairs ≡ true
  pub few : length pairs ≤ most_pairs

-- If a text means a name and pairs, the pairs are a charmap's.
abbrev pub MeansMaps : Type 0
MeansMaps = (text : List ℕ) (charmap : Charmap) → meaning text ≡ Ok charmap → IsMap charmap.pairs
