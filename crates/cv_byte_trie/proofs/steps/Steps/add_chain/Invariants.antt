use Rattle.std.proofs.Common.{◌≡◌, ◌≢◌, ◌≤◌, length, take}
use Rattle.cv_byte_trie.specs.Tries.{none}
use Rattle.cv_byte_trie.specs.Private.Sound.{IsSound}
use Rattle.cv_byte_trie.proofs.Chains.{IsLeading}
use Rattle.cv_byte_trie.proofs.steps.Steps.add_chain.Given as goal

abbrev pub invariant-loop-rest : goal.invariant-loop-rest
invariant-loop-rest l = record {
  sound : IsSound l.self;
  within : length l.rest ≤ length l.bytes;
  rest : l.rest ≡ take (length l.rest) l.bytes;
  leading : IsLeading l.initial.self l.self l.bytes l.code (length l.rest) l.first;
  edges : l.self.edges.items ≡ l.initial.self.edges.items;
  leads : l.first ≢ none;
  tables : l.self.tables.items ≡ l.initial.self.tables.items;
}

abbrev pub decreases-loop-rest : goal.decreases-loop-rest
decreases-loop-rest l = length l.rest
