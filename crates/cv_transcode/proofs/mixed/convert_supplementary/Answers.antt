use Rattle.std.proofs.Common.{arith}
use Rattle.std.proofs.lemmas.List.{take_rest}
use Rattle.cv_transcode.proofs.Parts.{supplementary_more}
use Rattle.cv_transcode.proofs.mixed.convert_supplementary.Goals as goal

pub loop-used-preserved : goal.loop-used-preserved
loop-used-preserved g c = record {
  within = omega arith;
  converted = supplementary_more g.S.WindowReader.bytes_of g.T.WindowWriter.bytes_of c.args.text.now c.args.out.now
      c.args.at c.loop-used.used c.in-Some.value c.loop-used.out c.write_supplementary.new.out
      c.loop-used.invariant.converted (rw take_rest at c.in-Some.ensures) c.write_supplementary.ensures;
}
