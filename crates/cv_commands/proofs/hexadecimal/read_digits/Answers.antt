use Rattle.std.proofs.Common.{◌≡◌, ℕ, ◌+◌, ◌*◌, ◌-◌, get_or, take, drop, length-drop, sym, ap, ap₂, ◌∙◌, refl, arith}
use Rattle.std.proofs.lemmas.List.{take_more_set, drop-drop}
use Rattle.std.proofs.lemmas.Slice.{take-put_mid}
use Rattle.cv_commands.specs.Private.Digits.{IsValue}
use Rattle.cv_commands.proofs.Digits.{eight_more, read_more, next_two, all_read}
use Rattle.cv_commands.proofs.hexadecimal.read_digits.Goals as goal

pub loop-n-preserved : goal.loop-n-preserved
loop-n-preserved c =
    let high : IsValue (get_or c.args.digits.now (2 * c.loop-n.n) 0) c.digit_of-high.result =
    record { digit = c.digit_of-high.ensures.digit; none = c.digit_of-high.ensures.none } in
    let low : IsValue (get_or c.args.digits.now (2 * c.loop-n.n + 1) 0) c.digit_of-low.result =
    record { digit = c.digit_of-low.ensures.digit; none = c.digit_of-low.ensures.none } in
    read_more c.loop-n.all _ c.args.digits.now (take c.loop-n.n c.loop-n.bytes) _ _ _ _ _ _ _ _ c.loop-n.invariant refl
    (next_two c.args.digits.now c.loop-n.n (omega arith))
    high low refl (take_more_set c.loop-n.bytes c.loop-n.n _ (omega arith))

pub returns : goal.returns
returns c = all_read _ c.args.digits.now c.loop-n.bytes c.loop-n.n c.loop-n.invariant (omega arith) (omega arith)

pub loop-block-preserved : goal.loop-block-preserved
loop-block-preserved c =
    let digits = c.args.digits.now in
    let n = 8 * c.loop-block.block in
    let place : 2 * n ≡ 16 * c.loop-block.block = omega arith in
    let size : 2 * n + 16 - 2 * n ≡ 16 = omega arith in
    let next : 16 * (c.loop-block.block + 1) ≡ 16 * c.loop-block.block + 16 = omega arith in
    eight_more c.loop-block.all c.read_eight-part.result digits (take n c.loop-block.bytes) _
    (drop (16 * c.loop-block.block) digits) _ _ c.read_eight-part.new.bytes c.loop-block.invariant
    (ap₂ (λ (i j : ℕ). take i (drop j digits)) size place) (ap (λ (i : ℕ). drop i digits) next
    ∙ sym (drop-drop 16 (16 * c.loop-block.block) digits)) (omega (arith, length-drop (16 * c.loop-block.block) digits))
    c.read_eight-part.ensures (take-put_mid n (n + 8 - n) c.loop-block.bytes c.read_eight-part.new.bytes
    (8 * (c.loop-block.block + 1)) (omega arith) (omega arith))
