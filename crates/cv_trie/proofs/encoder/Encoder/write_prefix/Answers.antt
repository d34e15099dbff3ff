use Rattle.std.proofs.Common.{refl, arith}
use Rattle.cv_trie.proofs.encoder.Encoder.write_prefix.Goals as goal

pub loop-written-init : goal.loop-written-init
loop-written-init c = record {
  written = record {
    prefix = record { bytes = refl; uses = refl; counts = refl; next = refl };
    within = omega arith;
    short = omega arith;
    few = omega arith;
    room = c.requires;
  };
  long = refl;
}
