-- Bytes that are kept ready for writing.
use Rattle.std.proofs.Common.{◌≡◌, ℕ, ◌+◌, ◌≤◌, List, ◌++◌, length, take, drop, ◌∙◌, ap}
use Rattle.std.proofs.Math.Seq.{take-add}
use Rattle.std.proofs.lemmas.List.{take_at, drop_at, take-append-le, length-take-le}

-- the bytes at an index, and those that were copied after them
pub stands_at : (front bytes : List ℕ) (used len : ℕ) (rest : List ℕ) → used ≤ length front → len ≤ length bytes
    → take (used + len) (take used front ++ (bytes ++ rest)) ≡ take used front ++ take len bytes
stands_at front bytes used len rest a b =
    let p = take used front in
    let e : length p ≡ used = length-take-le used front a in
    take-add used len (p ++ (bytes ++ rest)) ∙ ap (λ (x : List ℕ). x ++ take len (drop used (p ++ (bytes ++ rest))))
    (take_at p (bytes ++ rest) used e) ∙ ap (λ (x : List ℕ). p ++ take len x) (drop_at p (bytes ++ rest) used e)
    ∙ ap (λ (x : List ℕ). p ++ x) (take-append-le len bytes rest b)
