use Rattle.std.proofs.Common.{◌≡◌, ◌+◌, ℕ, length, refl, sym, ◌∙◌, ap, subst}
use Rattle.cv_base.specs.Places.{IsPut}
use Rattle.cv_base.specs.declared.endian.Endian.TheVariants.{Big}
use Rattle.cv_utf16.specs.Orders.{mark}
use Rattle.cv_utf16.proofs.PutTwice.{put_both}
use Rattle.cv_utf16.proofs.in_order.put_marked.Goals as goal

pub returns : goal.returns
returns g c =
    let form = g.F.WideForm.form in
    let is : c.known-mark.result ≡ mark = c.known-mark.ensures in
    let first : length (form Big mark) ≡ c.size-first.result = ap (λ (m : ℕ). length (form Big m)) (sym is)
    ∙ sym (c.size-first.ensures.bytes Big) in
    let one : IsPut (form Big mark) c.args.out.now c.args.at c.size-first.result c.write.new.out =
    subst (λ (n : ℕ). IsPut (form Big mark) c.args.out.now c.args.at n c.write.new.out) first (subst (λ (m : ℕ).
    IsPut (form Big m) c.args.out.now c.args.at (length (form Big m)) c.write.new.out) is c.write.ensures) in
    let other : IsPut (form Big c.args.c) c.write.new.out (c.args.at + c.size-first.result)
    c.size.result c.write-2.new.out = subst (λ (n : ℕ). IsPut (form Big c.args.c) c.write.new.out
    (c.args.at + c.size-first.result) n c.write-2.new.out) (sym (c.size.ensures.bytes Big)) c.write-2.ensures in (
      put_both (form Big mark) (form Big c.args.c) c.args.out.now c.write.new.out c.write-2.new.out c.args.at
          c.size-first.result c.size.result (c.args.at + c.size-first.result) refl one other,
      refl,
    )
