use Rattle.std.proofs.Common.{◌<◌, ℕ, [], ◌∷◌, Some}
use Rattle.cv_base.specs.Items.{taken}
use Rattle.cv_base.specs.declared.state.ReadState.TheVariants as read
use Rattle.cv_trie.specs.Charmaps.{map_reads}
use Rattle.cv_trie.proofs.ascii.does_read_ascii.Given as goal

abbrev pub invariant-loop-byte : goal.invariant-loop-byte
invariant-loop-byte l = (b : ℕ) → b < l.byte
    → map_reads l.trie.entries read.Start (b ∷ []) (taken 1 (Some b) read.Start)
