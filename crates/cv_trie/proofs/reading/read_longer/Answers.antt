use Rattle.std.proofs.Common.{arith, drop}
use Rattle.std.proofs.lemmas.List.{length-set}
use Rattle.cv_trie.proofs.Following.{found_long, read_more}
use Rattle.cv_trie.proofs.reading.read_longer.Goals as goal

pub loop-n-preserved : goal.loop-n-preserved
loop-n-preserved c =
    let i = c.loop-n in
    let long = found_long c.args.trie.now.entries _ c.entries-entries.ensures.value c.entries-entries.ensures.entries
    (drop i.used c.args.input.now) _ _ c.index-entries-followed.result c.follow-followed.ensures.found
    c.if-followed-ge-NONE.false c.follow-followed.ensures.within c.index-entries-followed.is in
    record {
      read = rw c.character.ensures (read_more _ c.args.input.now i.buffer i.n i.used _ _ i.invariant.read
          (omega (arith, i.invariant.few)) long);
      on = omega (arith, i.invariant.on);
      few = omega (arith, i.invariant.few, length-set i.buffer i.n c.character.result);
    }
