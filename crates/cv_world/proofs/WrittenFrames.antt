-- Frames that are written into the memory of a vector.
use Rattle.std.proofs.Common.{◌≡◌, ℕ, ◌+◌, ◌-◌, ◌≤◌, List, ◌++◌, length, take, drop, sym, ap, ◌∙◌, append_assoc, arith}
use Rattle.std.proofs.lemmas.List.{length-take, take-append-drop, take-take, drop-take, drop-drop, take-append-le}
use Rattle.std.proofs.Math.Seq.{take-append_seam, drop-append_seam}

-- a list that was borrowed as a whole and given back
pub given_back : (out items : List ℕ) (len : ℕ) → length out ≡ len → take len (out ++ drop (length out) items) ≡ out
given_back out items len e = ap (λ (n : ℕ). take n (out ++ drop (length out) items)) (sym e)
    ∙ take-append_seam out (drop (length out) items)

-- lists that are the same from an offset on are so from a later one on
pub later_same : (b c : List ℕ) (n m : ℕ) → n ≤ m → drop n c ≡ drop n b → drop m c ≡ drop m b
later_same b c n m more same =
    let k : n + (m - n) ≡ m = omega (arith, more) in
    ap (λ (x : ℕ). drop x c) (sym k) ∙ sym (drop-drop (m - n) n c) ∙ ap (drop (m - n)) same ∙ drop-drop (m - n) n b
    ∙ ap (λ (x : ℕ). drop x b) k

-- they are the same between that offset and a later one
pub between_same : (b c : List ℕ) (n end : ℕ) → n ≤ end → drop n c ≡ drop n b
    → drop n (take end c) ≡ drop n (take end b)
between_same b c n end more same =
    let k : n + (end - n) ≡ end = omega (arith, more) in
    ap (λ (x : ℕ). drop n (take x c)) (sym k) ∙ drop-take n (end - n) c ∙ ap (take (end - n)) same
    ∙ sym (drop-take n (end - n) b) ∙ ap (λ (x : ℕ). drop n (take x b)) k

-- a prefix is a shorter prefix and what follows it
pub two_parts : (c : List ℕ) (n end : ℕ) → n ≤ end → take end c ≡ take n c ++ drop n (take end c)
two_parts c n end more = sym (take-append-drop n (take end c))
    ∙ ap (λ (x : List ℕ). x ++ drop n (take end c)) (take-take n end c more)

-- two parts that were written one after another, before what was there already
pub two_before : (b1 b2 b3 y z : List ℕ) (p q q2 r end : ℕ) → q ≡ q2 → q ≤ r → r ≤ end
    → take q b2 ≡ take p b1 ++ y → drop q b2 ≡ drop q b1 → take r b3 ≡ take q2 b2 ++ z → drop r b3 ≡ drop r b2
    → take end b3 ≡ take p b1 ++ (y ++ (z ++ drop r (take end b1)))
two_before b1 b2 b3 y z p q q2 r end qe qr within e2 d2 e3 d3 =
    let rest : List ℕ = drop r (take end b1) in
    let same : drop r b3 ≡ drop r b1 = d3 ∙ later_same b1 b2 q r qr d2 in
    let first : take q2 b2 ≡ take p b1 ++ y = ap (λ (n : ℕ). take n b2) (sym qe) ∙ e2 in
    two_parts b3 r end within
    ∙ ap (λ (l : List ℕ). take r b3 ++ l) (between_same b1 b3 r end within same)
    ∙ ap (λ (l : List ℕ). l ++ rest) (e3 ∙ ap (λ (l : List ℕ). l ++ z) first)
    ∙ append_assoc (take p b1 ++ y) z rest
    ∙ append_assoc (take p b1) y (z ++ rest)

-- a frame's head and its body that were written one after the other
pub framed : (b0 b1 b2 before head body frame : List ℕ) (start p q : ℕ) → take start b0 ≡ before
    → start + length head ≡ p → take (start + length head) b1 ≡ take start b0 ++ head → take q b2 ≡ take p b1 ++ body
    → head ++ body ≡ frame → take q b2 ≡ before ++ frame
framed b0 b1 b2 before head body frame start p q front size e1 e2 is =
    let first : take p b1 ≡ before ++ head = rw (← front, ← size) e1 in
    rw (← is, e2, first) (append_assoc before head body)

-- how many bytes a prefix has
pub used_is : (used : ℕ) (items held : List ℕ) → take used items ≡ held → used ≤ length items → length held ≡ used
used_is used items held is within = omega (arith, ap length is, length-take used items)

-- what follows bytes that others follow
pub after_bytes : (b out c : List ℕ) (n : ℕ) → length b ≡ n → c ≡ b ++ out → drop n c ≡ out
after_bytes b out c n size is = ap (drop n) is ∙ ap (λ (k : ℕ). drop k (b ++ out)) (sym size) ∙ drop-append_seam b out

-- a prefix of bytes that others follow
pub before_bytes : (b out c : List ℕ) (n : ℕ) → n ≤ length b → c ≡ b ++ out → take n c ≡ take n b
before_bytes b out c n within is = ap (take n) is ∙ take-append-le n b out within
