use Rattle.std.proofs.Common.{◌≡◌, ℕ, ◌<◌, get_or, length}
use Rattle.cv_simd.specs.Splits.{start_of}
use Rattle.cv_trie.specs.Private.Starts.{number_at}
use Rattle.cv_trie.proofs.decoder.Decoder.window_at.Given as goal

abbrev pub invariant-loop-k : goal.invariant-loop-k
invariant-loop-k l = record {
  long : length l.cells ≡ 8;
  cells : (j : ℕ) → j < l.k
      → get_or l.cells j 0 ≡ number_at l.self.rows.now l.self.row_offsets.now l.input (start_of l.input l.at j);
}
