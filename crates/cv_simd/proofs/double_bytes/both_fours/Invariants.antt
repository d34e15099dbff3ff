use Rattle.std.proofs.Common.{◌≡◌, ℕ, ◌+◌, ◌<◌, get_or, length}
use Rattle.cv_simd.proofs.double_bytes.both_fours.Given as goal

abbrev pub invariant-loop-k : goal.invariant-loop-k
invariant-loop-k l = record {
  long : length l.pairs ≡ 16;
  first : (j : ℕ) → j < 8 → get_or l.pairs j 0 ≡ get_or l.first j 0;
  second : (j : ℕ) → j < l.k → get_or l.pairs (8 + j) 0 ≡ get_or l.second j 0;
}
