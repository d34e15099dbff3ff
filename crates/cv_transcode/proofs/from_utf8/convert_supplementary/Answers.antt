use Rattle.std.proofs.Common.{arith, subst, List, ℕ}
use Rattle.cv_base.proofs.Front.{rest_is}
use Rattle.cv_utf8.specs.Utf8.{utf8_bytes}
use Rattle.cv_transcode.specs.Private.Windows.{IsSupplementary}
use Rattle.cv_transcode.proofs.Joined.{supplementary_more, put_size}
use Rattle.cv_transcode.proofs.from_utf8.convert_supplementary.Goals as goal

pub loop-used-preserved : goal.loop-used-preserved
loop-used-preserved g c =
    let i = c.loop-used.invariant in
    let used = c.loop-used.used in
    let put = c.write_supplementary.ensures in
    let is = subst (λ (x : List ℕ). IsSupplementary utf8_bytes x c.in-Some.value) (rest_is used c.args.text.now)
    c.in-Some.ensures in
    record {
      fit = omega (arith, c.loop-used-test.true);
      within = i.within;
      room = omega (arith, i.room, put_size _ _ _ _ _ put);
      converted = supplementary_more _ c.args.text.now c.args.out.now c.args.at used c.in-Some.value _ _ i.converted is
          put;
    }
