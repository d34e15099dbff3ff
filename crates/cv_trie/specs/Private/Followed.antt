-- Where the bytes at an index of a text lead through a trie.
use Rattle.std.specs.Prelude.{◌≡◌, ℕ, ◌<◌, List, length, take}
use Rattle.cv_byte_trie.specs.Entries.{Entry, bytes_at}
use Rattle.cv_byte_trie.specs.Tries.{StepsBy, tails, tail_code, none, node_code, IsAt}

-- The first `size` bytes of a text lead to this code: the index of the entry that they are, or the code of an entry
-- that has more bytes, or that of a node, or that of no edge.
pub record IsFollowed (step : StepsBy) (count : ℕ) (entries : List Entry) (text : List ℕ) (size code : ℕ) : Type 0 where
  pub low : code < tails → code < length entries
  pub leaf : code < tails → bytes_at entries code ≡ take size text
  pub tail : (p : ℕ) → code ≡ tail_code p → p < tails → p < length entries
  pub node : (n : ℕ) → code ≡ node_code n → IsAt step count entries text size n

-- The first `size` bytes of a text are the entry at this index, if it is below the code of no edge.
pub record IsFound (entries : List Entry) (text : List ℕ) (size index : ℕ) : Type 0 where
  pub low : index < none → index < length entries
  pub leaf : index < none → bytes_at entries index ≡ take size text
