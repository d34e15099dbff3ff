use Rattle.std.proofs.Common.{◌+◌, arith}
use Rattle.cv_trie.proofs.OneByte.{one_long, one_more}
use Rattle.cv_trie.proofs.decoder.Decoder.read_few_singles.Goals as goal

pub known-requires : goal.known-requires
known-requires c =
    let at = c.args.read.used + c.loop-k.k in
    let decoder = c.args.self.now in
    (one_long decoder.trie.now.entries decoder.singles.now c.args.input.now at decoder.singles_are
    (let h = c.type_inv.input at in omega arith) (omega (arith, c.min-most.ensures))
    (omega (arith, c.if-character-ge-NO_CHARACTER.false))).scalar

pub loop-k-preserved : goal.loop-k-preserved
loop-k-preserved c =
    let read = c.args.read in
    let decoder = c.args.self.now in
    record {
      read = rw c.known.ensures (one_more decoder.trie.now.entries decoder.singles.now c.args.input.now c.loop-k.buffer
          read.n read.used c.loop-k.k decoder.singles_are c.loop-k.invariant.read
          (omega (arith, c.min-most.ensures, c.loop-k.auto.buffer)) (omega (arith, c.min-most.ensures))
          (let h = c.type_inv.input (read.used + c.loop-k.k) in omega arith)
          (omega (arith, c.if-character-ge-NO_CHARACTER.false)));
      few = omega arith;
    }
