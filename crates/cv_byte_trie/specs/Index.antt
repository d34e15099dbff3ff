-- What contracts see of a byte trie.
use Rattle.std.specs.Prelude.{List}
use Rattle.cv_byte_trie.specs.Entries.{Entry}
use Rattle.cv_byte_trie.specs.declared.steps.Steps.{Steps}

-- entries in the order in which they were added, and the steps of their trie
pub record Index : Type 0 where
  pub entries : List Entry
  pub steps : Steps
