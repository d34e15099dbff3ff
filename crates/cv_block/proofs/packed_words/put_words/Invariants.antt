use Rattle.std.proofs.Common.{◌≡◌, ◌+◌, ◌*◌, ◌≤◌, ◌++◌, length, take}
use Rattle.std.specs.List.{flat_map}
use Rattle.cv_block.proofs.packed_words.put_words.Given as goal

abbrev pub invariant-loop-k : goal.invariant-loop-k
invariant-loop-k g l = record {
  few : l.used ≤ 4 * l.k;
  bytes : l.used ≡ length (flat_map g.W.PackedWords.bytes_of (take l.k l.values));
  stand : take (l.at + l.used) l.out ≡ take l.at l.fn.out ++ flat_map g.W.PackedWords.bytes_of (take l.k l.values);
}
