use Rattle.std.proofs.Common.{◌≡◌, ◌+◌, ◌∙◌, ℕ, take, drop, get_or, ap, arith}
use Rattle.std.proofs.lemmas.Simd.{get_or-chunk}
use Rattle.cv_utf8.proofs.Utf8WindowLanes.{whole_word}
use Rattle.cv_utf8.proofs.read.windows.whole_values.Goals as goal

pub returns : goal.returns
returns c k h =
    let text = c.args.input.now in
    let at : ℕ = c.args.at in
    let one : at + 1 + k ≡ at + k + 1 = omega arith in
    let two : at + 2 + k ≡ at + k + 2 = omega arith in
    let x : get_or (take 16 (drop at text)) k 0 ≡ get_or text (at + k) 0 = get_or-chunk at 16 text k 0 h in
    let y : get_or (take 16 (drop (at + 1) text)) k 0 ≡ get_or text (at + k + 1) 0 = get_or-chunk (at + 1) 16 text k 0 h
    ∙ ap (λ (i : ℕ). get_or text i 0) one in
    let z : get_or (take 16 (drop (at + 2) text)) k 0 ≡ get_or text (at + k + 2) 0 = get_or-chunk (at + 2) 16 text k 0 h
    ∙ ap (λ (i : ℕ). get_or text i 0) two in
    c.numbers_of.ensures k h ∙ rw (c.low_bytes.ensures k h, c.high_bytes.ensures k h, x, y, z)
    (whole_word (get_or text (at + k) 0) (get_or text (at + k + 1) 0) (get_or text (at + k + 2) 0)
    (c.type_inv.input (at + k)).fits (c.type_inv.input (at + k + 1)).fits (c.type_inv.input (at + k + 2)).fits)
