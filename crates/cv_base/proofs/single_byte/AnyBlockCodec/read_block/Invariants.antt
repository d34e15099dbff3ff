use Rattle.std.proofs.Common.{◌≡◌, length, take}
use Rattle.cv_base.proofs.single_byte.AnyBlockCodec.read_block.Given as goal

abbrev pub invariant-loop-k : goal.invariant-loop-k
invariant-loop-k g l =
    record { front : take l.k l.buffer ≡ take l.k l.input; size : length l.buffer ≡ length l.fn.buffer }
