use Rattle.std.proofs.Common.{ℕ, ◌+◌, ◌*◌, ◌≤◌, ◌<◌, get_or}
use Rattle.std.specs.Prelude.{IsTrue}
use Rattle.cv_block.proofs.ascii_bytes.are_ascii.Given as goal

abbrev pub invariant-loop-block : goal.invariant-loop-block
invariant-loop-block o l = IsTrue l.all → (k : ℕ) → l.at ≤ k → k < l.at + l.block * 16 → get_or l.bytes k 0 < 128
