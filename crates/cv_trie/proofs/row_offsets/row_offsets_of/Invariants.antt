use Rattle.std.proofs.Common.{◌≡◌, ℕ, ◌+◌, ◌-◌, ◌<◌, ◌≤◌, get_or, length}
use Rattle.cv_trie.specs.Private.Twos.{row_of}
use Rattle.cv_trie.proofs.row_offsets.row_offsets_of.Given as goal

abbrev pub invariant-loop-byte : goal.invariant-loop-byte
invariant-loop-byte l = record {
  long : length l.offsets.items ≡ 256;
  single : (b : ℕ) → b < 128 → b < l.byte → get_or l.offsets.items b 0 ≡ length l.rows.cells.items - 128 + b;
  first : (b : ℕ) → 128 ≤ b → b < l.byte → get_or l.offsets.items b 0 ≡ row_of l.singles.cells.items b;
}
