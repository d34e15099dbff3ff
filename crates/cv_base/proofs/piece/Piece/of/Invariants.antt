use Rattle.std.proofs.Common.{◌≡◌, take}
use Rattle.cv_base.proofs.piece.Piece.of.Given as goal

abbrev pub invariant-loop-byte : goal.invariant-loop-byte
invariant-loop-byte l = l.piece ≡ take l.byte-index l.bytes
