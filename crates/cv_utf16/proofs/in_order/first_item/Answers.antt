use Rattle.std.proofs.Common.{◌≡◌, ◌<◌, ◌∙◌, List, ℕ, true, false, length, sym, subst, rules}
use Rattle.cv_base.specs.Items.{Begins}
use Rattle.cv_base.specs.declared.endian.Endian.TheVariants.{Big, Little}
use Rattle.cv_utf16.specs.Orders.{mark}
use Rattle.cv_utf16.proofs.StartOfText.{part_of_little_mark}
use Rattle.cv_utf16.proofs.in_order.first_item.Goals as goal

pub returns-then-begins-3 : goal.returns-then-begins-3
returns-then-begins-3 g c =
    let form = g.F.WideForm.form in
    let text = c.args.input.now in
    let some : 0 < length text = search rules in
    let no_big : Begins (form Big mark) text → ⊥ = (λ f. (let t : false ≡ true = c.if-begins.ensures.1
    (subst (λ (w : List ℕ). Begins w text) (sym (c.as_slice.ensures.value ∙ c.mark-big.ensures)) f) in cc t)) in
    let no_little : Begins (form Little mark) text → ⊥ = (λ f. (let t : false ≡ true = c.if-begins-2.ensures.1
    (subst (λ (w : List ℕ). Begins w text) (sym (c.as_slice-2.ensures.value ∙ c.mark-little.ensures)) f) in cc t)) in
    let part : Begins text (form Little mark) = subst (λ (w : List ℕ). Begins text w)
    (c.as_slice-3.ensures.value ∙ c.mark-little.ensures) (c.begins-3.ensures.0 c.if-begins-3.true) in
    λ state. part_of_little_mark form c.assert_form.ensures.form state text some no_big no_little part
