use Rattle.std.proofs.Common.{arith, refl, ◌∙◌, length-set}
use Rattle.std.proofs.lemmas.List.{get_or_read}
use Rattle.cv_utf7.proofs.Narrowed.{narrow_more}
use Rattle.cv_utf7.proofs.write.runs.narrowed.Goals as goal

pub loop-i-init : goal.loop-i-init
loop-i-init c = record { long = refl; same = λ k l d. absurd (omega arith) }

pub loop-i-preserved : goal.loop-i-preserved
loop-i-preserved c =
    let p = c.loop-i.invariant in
    record {
      long = length-set _ _ _ ∙ p.long;
      same = narrow_more c.args.base c.loop-i.i c.narrow.result c.loop-i.bytes _ (omega arith) (λ e. c.narrow.ensures e
          ∙ get_or_read c.args.characters.now _ _ (omega arith) c.index-characters-base.is 0) p.same;
    }

pub returns : goal.returns
returns c i l d = c.loop-i.invariant.same i (omega arith) d
