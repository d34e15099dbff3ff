use Rattle.std.proofs.Common.{arith, ◌≡◌, ◌∙◌, ap, length, subst}
use Rattle.cv_base.specs.Items.{Begins}
use Rattle.cv_base.specs.declared.endian.Endian.{Endian}
use Rattle.cv_block.proofs.FrontOfAWord.{front_stands}
use Rattle.cv_utf16.specs.Utf16.{utf16}
use Rattle.cv_utf16.proofs.stateless_utf16.StatelessUtf16StatelessForm.write_at.Goals as goal

pub returns-clause-stand : goal.returns-clause-stand
returns-clause-stand g c =
    let e = g.O.ByteOrder.endian in
    let is : c.value-value.result ≡ c.args.c = c.value-value.ensures.number in
    let bytes : Begins (utf16 e c.value-value.result) c.bytes_of.result = subst
    (λ (x : Endian). Begins (utf16 x c.value-value.result) c.bytes_of.result) c.order.ensures c.bytes_of.ensures in
    front_stands c.args.out.now c.copy_from_slice.new.self (utf16 e c.args.c) c.args.at c.size_of.result _ (omega arith)
    (rw (← is, c.copy_from_slice.ensures.after) bytes) (c.size_of.ensures e ∙ ap (λ v. length (utf16 e v)) is)
