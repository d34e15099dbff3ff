-- Sixteen bytes of ASCII that are read as units, in two parts.
use Rattle.std.proofs.Common.{◌≡◌, ℕ, ◌+◌, ◌<◌, ◌≤◌, List, ◌++◌, length, length-take, length-drop, take, drop, get_or}
use Rattle.std.proofs.Common.{sym, ◌∙◌, ap, ap₂, subst, refl, arith, lit≤, take-append-drop}
use Rattle.std.proofs.lemmas.List.{take_all, drop-drop, drop-take, take-take}
use Rattle.cv_base.specs.Scalars.{AreScalars}
use Rattle.cv_utf8.specs.Utf16Lanes.{AreRead}
use Rattle.cv_utf8.proofs.Utf8Spelled.{read_front}

-- the halves of sixteen bytes
pub halves : (text first second : List ℕ) (at : ℕ) → first ≡ take 8 (drop at text)
    → second ≡ take 8 (drop (at + 8) text) → take 8 first ++ take 8 second ≡ take 16 (drop at text)
halves text first second at f g =
    let rest : List ℕ = drop at text in
    let a : take 8 first ≡ take 8 (take 16 rest) = ap (take 8) f ∙ take-take 8 8 rest (lit≤ tt)
    ∙ sym (take-take 8 16 rest (lit≤ tt)) in
    let b : take 8 second ≡ drop 8 (take 16 rest) = ap (take 8) g ∙ take-take 8 8 (drop (at + 8) text) (lit≤ tt)
    ∙ ap (take 8) (sym (drop-drop 8 at text)) ∙ sym (drop-take 8 8 rest) in
    ap₂ (λ (x y : List ℕ). x ++ y) a b ∙ take-append-drop 8 (take 16 rest)

-- sixteen bytes of ASCII are read as the units of both halves
pub ascii_read : (text first second : List ℕ) (at : ℕ) → at + 16 ≤ length text
    → ((k : ℕ) → k < 16 → get_or text (at + k) 0 < 128) → first ≡ take 8 (drop at text)
    → second ≡ take 8 (drop (at + 8) text)
    → AreRead text at (record { first = first; firsts = 8; second = second; seconds = 8; used = 16 })
ascii_read text first second at within ascii f g =
    let units : List ℕ = take 16 (drop at text) in
    let size : length units ≡ 16 = omega (arith, length-take 16 (drop at text), length-drop at text) in
    let whole : take 16 units ≡ units = take_all 16 units (omega (arith, size)) in
    let r = read_front text at units units 0 16 within (lit≤ tt) ascii (omega (arith, size)) refl whole in
    let is : r.characters ≡ take 8 first ++ take 8 second = sym r.stand ∙ whole
    ∙ sym (halves text first second at f g) in
    record {
      few = lit≤ tt;
      others = lit≤ tt;
      scalars = subst AreScalars is r.scalars;
      begins = rw is at r.begins;
      uses = rw is at r.uses;
    }
