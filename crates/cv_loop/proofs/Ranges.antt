-- A range of a buffer, after bytes were put after it, and after its first bytes are dropped.
use Rattle.std.proofs.Common.{◌≡◌, ℕ, ◌+◌, ◌-◌, ◌≤◌, ◌==◌, nat_lt, ◌<◌, true, false, List, [], ◌++◌, length, take}
use Rattle.std.proofs.Common.{drop, sym, ap, ◌∙◌, append_assoc, arith}
use Rattle.std.specs.Prelude.{slice_range, Bool, not, ◌||◌, ◌&&◌}
use Rattle.std.proofs.lemmas.Bool.Decides.{nat_tests}
use Rattle.std.proofs.lemmas.List.{length-take, length-drop, drop-drop, drop-take, drop-append-le, take-append-le}
use Rattle.std.proofs.lemmas.List.{take-take}
use Rattle.std.proofs.Math.Seq.{take-append-add}

-- a range without its first bytes
pub range_forget : (b : List ℕ) (s e n : ℕ) → n ≤ length (slice_range b s e)
    → slice_range b (s + n) e ≡ drop n (slice_range b s e)
range_forget b s e n few =
    let k : ℕ = e - (s + n) in
    let sum : n + k ≡ e - s = omega (arith, few, length-take (e - s) (drop s b)) in
    ap (take k) (sym (drop-drop n s b)) ∙ sym (drop-take n k (drop s b))
    ∙ ap (λ (m : ℕ). drop n (take m (drop s b))) sum

-- what a buffer has from an offset on, if the bytes before it were kept
from_front : (b more : List ℕ) (s e : ℕ) → s ≤ e → e ≤ length b → drop s (take e b ++ more) ≡ slice_range b s e ++ more
from_front b more s e le within =
    let sum : s + (e - s) ≡ e = omega arith in
    drop-append-le s (take e b) more (omega (arith, length-take e b))
    ∙ ap (λ (x : List ℕ). x ++ more) (ap (λ (m : ℕ). drop s (take m b)) (sym sum) ∙ drop-take s (e - s) b)

length-range : (b : List ℕ) (s e : ℕ) → s ≤ e → e ≤ length b → length (slice_range b s e) ≡ e - s
length-range b s e le within = omega (arith, length-take (e - s) (drop s b), length-drop s b)

-- a range within a prefix of a buffer
pub range_within : (b : List ℕ) (len s e : ℕ) → s ≤ e → e ≤ len → slice_range (take len b) s e ≡ slice_range b s e
range_within b len s e le within =
    let sum : s + (len - s) ≡ len = omega arith in
    ap (take (e - s)) (ap (λ (m : ℕ). drop s (take m b)) (sym sum) ∙ drop-take s (len - s) b)
    ∙ take-take (e - s) (len - s) (drop s b) (omega arith)

-- a range and the first of the bytes that were put after it
pub range_filled : (b more rest : List ℕ) (s e n : ℕ) → s ≤ e → e ≤ length b → n ≤ length more
    → slice_range (take e b ++ (more ++ rest)) s (e + n) ≡ slice_range b s e ++ take n more
range_filled b more rest s e n le within few =
    let size : e + n - s ≡ length (slice_range b s e) + n = omega (arith, length-range b s e le within) in
    ap (take (e + n - s)) (from_front b (more ++ rest) s e le within)
    ∙ ap (λ (m : ℕ). take m (slice_range b s e ++ (more ++ rest))) size
    ∙ take-append-add (slice_range b s e) (more ++ rest) n
    ∙ ap (λ (x : List ℕ). slice_range b s e ++ x) (take-append-le n more rest few)

-- The same of a buffer that was borrowed and has the same length after it.
pub range_lent : (b more rest over : List ℕ) (len s e n : ℕ) → s ≤ e → e ≤ length b → n ≤ length more → e + n ≤ len
    → slice_range (take len ((take e b ++ (more ++ rest)) ++ over)) s (e + n) ≡ slice_range b s e ++ take n more
range_lent b more rest over len s e n le within few room =
    let parts : (take e b ++ (more ++ rest)) ++ over ≡ take e b ++ (more ++ (rest ++ over)) =
    append_assoc (take e b) (more ++ rest) over ∙ ap (λ (x : List ℕ). take e b ++ x) (append_assoc more rest over) in
    let shorter : slice_range (take len ((take e b ++ (more ++ rest)) ++ over)) s (e + n)
    ≡ slice_range ((take e b ++ (more ++ rest)) ++ over) s (e + n) = range_within _ len s (e + n) (omega arith) room in
    shorter ∙ ap (λ (x : List ℕ). slice_range x s (e + n)) parts
    ∙ range_filled b more (rest ++ over) s e n le within few

-- if no bytes came, none are taken
pub none_taken : (n : ℕ) (bytes : List ℕ) → nat_lt 0 n ≡ false → take n bytes ≡ []
none_taken n bytes none = let zero_is : n ≡ 0 = grind (arith, nat_tests, none) in ap (λ (k : ℕ). take k bytes) zero_is

-- a prefix of more than 0 bytes is not empty
pub some_taken : (n : ℕ) (bytes : List ℕ) → n ≤ length bytes → nat_lt 0 n ≡ true → 0 < length (take n bytes)
some_taken n bytes few some = let more : 0 < n = grind (arith, nat_tests, some) in omega (arith, length-take n bytes)

-- a pull into a slice that is not empty met the end if and only if it gave no byte
pub met_end : (before after : Bool) (n len : ℕ) → before ≡ false → 0 < len
    → after ≡ (before || ((n == 0) && not (len == 0))) → after ≡ not (nat_lt 0 n)
met_end before after n len not_yet some is = grind (arith, nat_tests)
