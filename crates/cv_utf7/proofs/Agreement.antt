-- Two texts that agree as far as both go.
use Rattle.std.proofs.Common.{◌≡◌, ℕ, ◌+◌, ◌<◌, ◌≤◌, List, length, take, drop, sym, ◌∙◌, arith, get_or-drop}
use Rattle.std.proofs.Common.{length-drop, length-take}
use Rattle.std.proofs.lemmas.List.{ext_get_or, get_or-take, length-take-le}
use Rattle.cv_base.specs.Items.{Begins}
use Rattle.cv_base.proofs.Front.{Agree, Begins-agree}

-- agreement is symmetric
pub agree-sym : (w x : List ℕ) → Agree w x → Agree x w
agree-sym w x a k l m = sym (a k m l)

-- two lists that begin one text agree
pub agree-both : (a b x : List ℕ) → Begins a x → Begins b x → Agree a b
agree-both a b x p q k l m =
    let f = Begins-agree a x p in
    let g = Begins-agree b x q in
    f.1 k l (omega (arith, f.0)) ∙ sym (g.1 k m (omega (arith, g.0)))

-- prefixes of one length of two lists that agree are the same
pub agree-take : (w x : List ℕ) → Agree w x → (n : ℕ) → n ≤ length w → n ≤ length x → take n w ≡ take n x
agree-take w x a n h k =
    let l : length (take n w) ≡ n = length-take-le n w h in
    ext_get_or 0 (take n w) (take n x) (l ∙ sym (length-take-le n x k)) (λ i m. (
    let j : i < n = omega arith in
    get_or-take n w i 0 j ∙ a i (omega arith) (omega arith) ∙ sym (get_or-take n x i 0 j)))

-- lists of one length that agree are the same
pub agree-whole : (a b : List ℕ) → Agree a b → length a ≡ length b → a ≡ b
agree-whole a b g l = ext_get_or 0 a b l (λ i h. g i h (omega arith))

-- what follows n bytes of both agrees
pub agree-drop : (w x : List ℕ) → Agree w x → (n : ℕ) → Agree (drop n w) (drop n x)
agree-drop w x a n k l m = get_or-drop n w k 0
    ∙ a (n + k) (omega (arith, length-drop n w)) (omega (arith, length-drop n x)) ∙ sym (get_or-drop n x k 0)

-- a prefix of one agrees with the other
pub agree-front : (w x : List ℕ) → Agree w x → (n : ℕ) → Agree (take n x) w
agree-front w x a n k l m =
    let e : k < n = omega (arith, length-take n x) in
    let h : k < length x = omega (arith, length-take n x) in
    get_or-take n x k 0 e ∙ sym (a k m h)
