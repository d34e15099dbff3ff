use Rattle.std.proofs.Common.{◌≡◌, ◌+◌, ◌∙◌, ℕ, List, take, drop, get_or, ap, arith}
use Rattle.std.proofs.lemmas.List.{map-id}
use Rattle.std.proofs.lemmas.Simd.{get_or-chunk}
use Rattle.cv_utf8.proofs.Utf8Short.{latin1_short}
use Rattle.cv_utf8.proofs.read.latin1_lanes.latin1_values.Goals as goal

pub returns-clause-values : goal.returns-clause-values
returns-clause-values c k h =
    let text = c.args.input.now in
    let at : ℕ = c.args.at in
    let one : at + 1 + k ≡ at + k + 1 = omega arith in
    let x : get_or (take 16 (drop at text)) k 0 ≡ get_or text (at + k) 0 = get_or-chunk at 16 text k 0 h in
    let y : get_or (take 16 (drop (at + 1) text)) k 0 ≡ get_or text (at + k + 1) 0 = get_or-chunk (at + 1) 16 text k 0 h
    ∙ ap (λ (i : ℕ). get_or text i 0) one in
    ap (λ (l : List ℕ). get_or l k 0) (map-id c.short_low.result)
    ∙ rw (c.short_low.ensures k h, x, y) (latin1_short (get_or text (at + k) 0) (get_or text (at + k + 1) 0)
    (c.requires.low k h))

pub returns-clause-few : goal.returns-clause-few
returns-clause-few c k h =
    let is = ap (λ (l : List ℕ). get_or l k 0) (map-id c.short_low.result) ∙ c.short_low.ensures k h in
    omega (arith, is)
