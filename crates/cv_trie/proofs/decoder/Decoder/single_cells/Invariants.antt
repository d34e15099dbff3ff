use Rattle.std.proofs.Common.{◌≡◌, ℕ, ◌+◌, ◌<◌, get_or, length}
use Rattle.cv_trie.proofs.decoder.Decoder.single_cells.Given as goal

abbrev pub invariant-loop-k : goal.invariant-loop-k
invariant-loop-k l = record {
  long : length l.cells ≡ 8;
  cells : (j : ℕ) → j < l.k → get_or l.cells j 0 ≡ get_or l.self.singles.now (get_or l.input (l.at + j) 0) 0;
}
