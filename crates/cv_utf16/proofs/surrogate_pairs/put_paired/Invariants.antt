use Rattle.std.proofs.Common.{◌≡◌, ◌+◌, ◌≤◌, ◌++◌, length, take}
use Rattle.cv_utf16.specs.Private.SurrogatePairs.{without_low}
use Rattle.cv_utf16.proofs.surrogate_pairs.put_paired.Given as goal

abbrev pub invariant-loop-k : goal.invariant-loop-k
invariant-loop-k l = record {
  few : l.more ≤ l.k;
  counts : l.more ≡ length (without_low (take l.k l.numbers));
  stand : take (l.n + l.more) l.buffer ≡ take l.n l.fn.buffer ++ without_low (take l.k l.numbers);
  size : length l.buffer ≡ length l.fn.buffer;
}
