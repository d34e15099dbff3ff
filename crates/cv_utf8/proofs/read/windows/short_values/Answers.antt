use Rattle.std.proofs.Common.{◌≡◌, ◌+◌, ◌∙◌, ℕ, take, drop, get_or, ap, arith}
use Rattle.std.proofs.lemmas.Simd.{get_or-chunk}
use Rattle.cv_utf8.proofs.Utf8WindowLanes.{short_word}
use Rattle.cv_utf8.proofs.read.windows.short_values.Goals as goal

pub returns : goal.returns
returns c k h =
    let text = c.args.input.now in
    let at : ℕ = c.args.at in
    let one : at + 1 + k ≡ at + k + 1 = omega arith in
    let x : get_or (take 16 (drop at text)) k 0 ≡ get_or text (at + k) 0 = get_or-chunk at 16 text k 0 h in
    let y : get_or (take 16 (drop (at + 1) text)) k 0 ≡ get_or text (at + k + 1) 0 = get_or-chunk (at + 1) 16 text k 0 h
    ∙ ap (λ (i : ℕ). get_or text i 0) one in
    c.numbers_of.ensures k h
    ∙ rw (c.short_low.ensures k h, c.short_high.ensures.bytes k h, x, y) (short_word (get_or text (at + k) 0)
    (get_or text (at + k + 1) 0) (c.type_inv.input (at + k)).fits (c.type_inv.input (at + k + 1)).fits)
