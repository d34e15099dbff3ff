use Rattle.std.proofs.Common.{arith, ◌≡◌, ◌∙◌}
use Rattle.cv_utf8.specs.Utf8.{utf8_bytes}
use Rattle.cv_block.proofs.FrontOfAWord.{front_stands}
use Rattle.cv_utf8.proofs.stateless_utf8.StatelessUtf8StatelessForm.write_at.Goals as goal

pub returns-clause-stand : goal.returns-clause-stand
returns-clause-stand c =
    let is : c.value-value.result ≡ c.args.c = c.value-value.ensures.number in
    let word : c.copy_from_slice.new.self ≡ _ = c.copy_from_slice.ensures.after ∙ c.to_le_bytes.ensures in
    front_stands c.args.out.now c.copy_from_slice.new.self (utf8_bytes c.args.c) c.args.at _ _ (omega arith)
    (rw (← is, word) c.word.ensures) (rw (← is) (grind arith))
