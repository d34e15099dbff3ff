use Rattle.std.proofs.Common.{arith, ◌∙◌, ◌≡◌}
use Rattle.cv_base.proofs.Front.{Begins-length}
use Rattle.cv_block.proofs.WordRuns.{length_more, word_more}
use Rattle.cv_block.proofs.packed_words.put_words.Goals as goal

pub loop-k-preserved : goal.loop-k-preserved
loop-k-preserved g c =
    let i = c.loop-k.invariant in
    let k = c.loop-k.k in
    let size = c.requires.sizes k (omega arith) in
    let word : c.copy_from_slice.new.self ≡ _ = c.copy_from_slice.ensures.after ∙ c.to_le_bytes.ensures in
    record {
      few = omega (arith, i.few, size, Begins-length _ _ (c.requires.words k (omega arith)));
      bytes = length_more _ c.args.values.now c.loop-k.used k _ (omega (arith, c.requires.long)) i.bytes size;
      stand = word_more _ c.args.values.now c.args.out.now c.args.at c.loop-k.used k _
          _ c.loop-k.out c.copy_from_slice.new.self i.stand (omega (arith, c.requires.long)) size
          (rw word (c.requires.words k (omega arith))) (omega (arith, i.few, c.loop-k.auto.out));
    }
