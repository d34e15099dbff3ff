use Rattle.std.proofs.Common.{◌∙◌, arith}
use Rattle.std.proofs.lemmas.List.{length-set}
use Rattle.cv_charmap.proofs.Counting.{byte_written}
use Rattle.cv_charmap.proofs.entry.bytes_in.Goals as goal

pub loop-k-preserved : goal.loop-k-preserved
loop-k-preserved c =
    let i = c.loop-k.invariant in
    record {
      low = omega (arith, i.low);
      size = length-set c.loop-k.bytes _ _ ∙ i.size;
      so_far = i.so_far ∙ byte_written c.loop-k.k c.args.size c.loop-k.rest c.loop-k.bytes c.loop-k-test.true i.low
          (omega (arith, i.size, c.requires));
    }
