use Rattle.std.proofs.Common.{◌≡◌, ◌*◌, length, take}
use Rattle.cv_base.specs.Units.{unit_size}
use Rattle.cv_block.specs.AsciiRuns.{characters_in}
use Rattle.cv_block.proofs.unit_blocks.low_bytes.Given as goal

abbrev pub invariant-loop-k : goal.invariant-loop-k
invariant-loop-k g l = record {
  index : l.index ≡ unit_size g.U.Unit.form * l.k;
  long : length l.low ≡ 16;
  bytes : take l.k l.low ≡ characters_in g.U.Unit.form l.units l.k;
}
