use Rattle.std.proofs.Common.{◌≡◌, ◌*◌, drop}
use Rattle.cv_block.proofs.CopiedBytes.{copied}
use Rattle.cv_block.proofs.ascii_bytes.copy_block.Given as goal

abbrev pub invariant-loop-block : goal.invariant-loop-block
invariant-loop-block o l = l.out ≡ copied (drop l.from l.rest) l.fn.out l.at (l.block * 16)
