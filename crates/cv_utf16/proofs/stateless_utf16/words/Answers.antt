use Rattle.std.proofs.Common.{◌≡◌, ℕ, List, arith, get_or, ap, sym, ◌∙◌, subst}
use Rattle.std.specs.Int.{to_le_bytes, w32}
use Rattle.cv_base.specs.Items.{Begins}
use Rattle.cv_base.specs.declared.endian.Endian.{Endian}
use Rattle.cv_base.specs.declared.endian.Endian.TheVariants.{Big, Little}
use Rattle.cv_utf16.specs.Utf16.{utf16}
use Rattle.cv_utf16.proofs.Utf16Lanes.{lane_big, lane_little, big_at, big_begins, little_at, little_begins}
use Rattle.cv_utf16.proofs.stateless_utf16.words.Goals as goal
use Rattle.cv_utf16.proofs.stateless_utf16.words.Goals.{in-Big, in-Little}

pub returns : goal.returns
returns c k h =
    let v = get_or c.args.values k 0 in
    elim c.match-endian.branch [
      | in-Big w ↦ (
          let word : get_or c.match-endian.result k 0 ≡ lane_big v = ap (λ (x : List ℕ). get_or x k 0) w.result-is
          ∙ big_at 16 c.args.values k (omega arith) h in
          subst
          (λ (e : Endian). Begins (utf16 e v) (to_le_bytes w32 (get_or c.match-endian.result k 0))) (sym w.in-Big.is)
          (subst (λ (x : ℕ). Begins (utf16 Big v) (to_le_bytes w32 x)) (sym word) (big_begins v (c.requires k h))))
      | in-Little w ↦ (
          let word : get_or c.match-endian.result k 0 ≡ lane_little v = ap (λ (x : List ℕ). get_or x k 0) w.result-is
          ∙ little_at 16 c.args.values k (omega arith) h in
          subst (λ (e : Endian). Begins (utf16 e v) (to_le_bytes w32 (get_or c.match-endian.result k 0)))
          (sym w.in-Little.is) (subst (λ (x : ℕ). Begins (utf16 Little v) (to_le_bytes w32 x)) (sym word)
          (little_begins v (c.requires k h))))
    ]
