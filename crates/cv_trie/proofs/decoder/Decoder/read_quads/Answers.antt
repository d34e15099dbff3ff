use Rattle.std.proofs.Common.{arith}
use Rattle.std.proofs.lemmas.List.{length-set}
use Rattle.cv_trie.proofs.Following.{read_more}
use Rattle.cv_trie.proofs.OneByte.{one_long}
use Rattle.cv_trie.proofs.decoder.Decoder.read_quads.Goals as goal

pub loop-n-preserved-then-first-lt-NO_CHARACTER : goal.loop-n-preserved-then-first-lt-NO_CHARACTER
loop-n-preserved-then-first-lt-NO_CHARACTER c =
    let i = c.loop-n in
    let decoder = c.args.self.now in
    let one = one_long decoder.trie.now.entries decoder.singles.now c.args.input.now i.used decoder.singles_are
    (let h = c.type_inv.input i.used in omega arith) (omega arith) c.if-first-lt-NO_CHARACTER.true in
    record {
      read =
          rw c.known.ensures (read_more _ c.args.input.now i.buffer i.n i.used 1 _ i.invariant.read (omega arith) one);
      on = omega arith;
      few = omega (arith, length-set i.buffer i.n c.known.result);
      rest = omega arith;
    }

pub loop-n-preserved : goal.loop-n-preserved
loop-n-preserved c =
    let i = c.loop-n in
    let long = rw c.entries-entries.ensures.value
    at (c.character_at-character.ensures (omega (arith, c.if-character-ge-NO_CHARACTER.false))) in
    record {
      read = rw c.known-in-loop-n.ensures (read_more _ c.args.input.now i.buffer i.n i.used 4 _ i.invariant.read
          (omega arith) long);
      on = omega arith;
      few = omega (arith, length-set i.buffer i.n c.known-in-loop-n.result);
      rest = omega arith;
    }
