use Rattle.std.proofs.Common.{◌+◌, get_or, arith}
use Rattle.std.proofs.lemmas.List.{length-set}
use Rattle.cv_trie.proofs.Following.{read_more}
use Rattle.cv_trie.proofs.OneByte.{one_long}
use Rattle.cv_trie.proofs.TwoBytes.{two_read, two_long}
use Rattle.cv_trie.proofs.decoder.Decoder.read_mixed.Goals as goal

pub loop-n-preserved-then-first-lt-NO_CHARACTER : goal.loop-n-preserved-then-first-lt-NO_CHARACTER
loop-n-preserved-then-first-lt-NO_CHARACTER c =
    let i = c.loop-n in
    let decoder = c.args.self.now in
    let one = one_long decoder.trie.now.entries decoder.singles.now c.args.input.now i.used decoder.singles_are
    (let h = c.type_inv.input i.used in omega arith) (omega arith) c.if-first-lt-NO_CHARACTER.true in
    record {
      read =
          rw c.known.ensures (read_more _ c.args.input.now i.buffer i.n i.used 1 _ i.invariant.read (omega arith) one);
      on = omega arith;
      few = omega (arith, length-set i.buffer i.n c.known.result);
    }

pub known-requires-then-number-lt-NO_CHARACTER : goal.known-requires-then-number-lt-NO_CHARACTER
known-requires-then-number-lt-NO_CHARACTER c =
    let i = c.loop-n in
    let decoder = c.args.self.now in
    let text = c.args.input.now in
    let second = get_or text (i.used + 1) 0 in
    let same = two_read decoder.singles.now decoder.rows.now _ second c.if-first-lt-NO_CHARACTER.false in
    rw same (two_long decoder.trie.now.entries decoder.singles.now decoder.rows.now text i.used
    (decoder.rows_are c.requires.rows) (let h = c.type_inv.input i.used in omega arith)
    (let h = c.type_inv.input (i.used + 1) in omega arith) (omega arith)
    (omega (arith, c.if-number-lt-NO_CHARACTER.true))).scalar

pub loop-n-preserved-then-number-lt-NO_CHARACTER : goal.loop-n-preserved-then-number-lt-NO_CHARACTER
loop-n-preserved-then-number-lt-NO_CHARACTER c =
    let i = c.loop-n in
    let decoder = c.args.self.now in
    let text = c.args.input.now in
    let second = get_or text (i.used + 1) 0 in
    let same = two_read decoder.singles.now decoder.rows.now _ second c.if-first-lt-NO_CHARACTER.false in
    let two = two_long decoder.trie.now.entries decoder.singles.now decoder.rows.now text i.used
    (decoder.rows_are c.requires.rows) (let h = c.type_inv.input i.used in omega arith)
    (let h = c.type_inv.input (i.used + 1) in omega arith) (omega arith)
    (omega (arith, c.if-number-lt-NO_CHARACTER.true)) in
    record {
      read = rw (c.known-then-number-lt-NO_CHARACTER.ensures, same)
          (read_more _ text i.buffer i.n i.used 2 _ i.invariant.read (omega arith) two);
      on = omega arith;
      few = omega (arith, length-set i.buffer i.n c.known-then-number-lt-NO_CHARACTER.result);
    }

pub loop-n-preserved-then-tabled-lt-NO_CHARACTER : goal.loop-n-preserved-then-tabled-lt-NO_CHARACTER
loop-n-preserved-then-tabled-lt-NO_CHARACTER c =
    let i = c.loop-n in
    record {
      read = rw c.known-then-tabled-lt-NO_CHARACTER.ensures (read_more _ c.args.input.now i.buffer i.n i.used _ _
          i.invariant.read (omega arith) (c.tabled_at-tabled.ensures c.if-tabled-lt-NO_CHARACTER.true));
      on = omega arith;
      few = omega (arith, length-set i.buffer i.n c.known-then-tabled-lt-NO_CHARACTER.result);
    }

pub loop-n-preserved : goal.loop-n-preserved
loop-n-preserved c =
    let i = c.loop-n in
    record {
      read = rw c.known-in-loop-n.ensures (read_more _ c.args.input.now i.buffer i.n i.used _ _ i.invariant.read
          (omega arith) (c.followed_at-long.ensures c.if-long-ge-NO_CHARACTER.false));
      on = omega arith;
      few = omega (arith, length-set i.buffer i.n c.known-in-loop-n.result);
    }
