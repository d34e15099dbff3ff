use Rattle.std.proofs.Common.{◌≡◌, ◌<◌, ℕ, [], ◌∷◌, Some}
use Rattle.cv_base.specs.declared.state.WriteState.TheVariants as write
use Rattle.cv_trie.specs.Charmaps.{map_writes}
use Rattle.cv_trie.proofs.ascii.does_write_ascii.Given as goal

abbrev pub invariant-loop-character : goal.invariant-loop-character
invariant-loop-character l = (c : ℕ) → c < l.character → map_writes l.entries write.Start c ≡ Some (c ∷ [], write.Start)
