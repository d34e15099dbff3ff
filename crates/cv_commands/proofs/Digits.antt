-- Bytes and their hexadecimal digits, two by two and part by part.
use Rattle.std.proofs.Common.{◌≡◌, ℕ, zero, suc, ◌+◌, ◌*◌, ◌%◌, ◌<◌, ◌≤◌, Bool, true, false, cond, ◌&&◌, get_or, List}
use Rattle.std.proofs.Common.{[], ◌∷◌, ◌++◌, length, take, drop, Option, Some, None, refl, sym, ap, subst, ◌∙◌}
use Rattle.std.proofs.Common.{append_assoc, arith, drop-cons, length-drop, length-take, length-append, take-append-drop}
use Rattle.std.specs.Prelude.{MatchBool, nat_lt}
use Rattle.std.specs.Char.{is_digit, digit_value}
use Rattle.std.specs.Option.{option_map}
use Rattle.std.proofs.lemmas.Bool.{ltb-true, ltb-false}
use Rattle.std.proofs.lemmas.List.{take_all}
use Rattle.std.proofs.Math.Seq.{take-append_seam}
use Rattle.cv_commands.specs.Words.{bytes_by_digits}
use Rattle.cv_commands.specs.Private.Digits.{SaysPart, IsValue}
use Rattle.cv_commands.proofs.Numbers.{SaysBefore, onto_none, hex_more, hex_no_high, hex_no_low, hex_all}

-- ---- from digits to bytes

-- If all so far are digits, the bytes so far precede those that the rest means. Otherwise the digits mean no bytes.
abbrev pub SaysSoFar : Bool → List ℕ → List ℕ → List ℕ → Type 0
SaysSoFar all digits rest bytes = MatchBool all (SaysBefore digits bytes rest) (bytes_by_digits digits ≡ None)

small : (n : ℕ) → n < 16 → n % 16 ≡ n
small n lt = omega arith

both_by : (a b : Bool) (digits bytes bytes' digits' rest : List ℕ) (high low x y byte : ℕ) → nat_lt x 16 ≡ a
    → nat_lt y 16 ≡ b → SaysBefore digits bytes digits' → digits' ≡ high ∷ low ∷ rest → IsValue high x → IsValue low y
    → byte ≡ 16 * (x % 16) + y % 16 → bytes' ≡ bytes ++ byte ∷ [] → SaysSoFar (a && b) digits rest bytes'
both_by true true digits bytes bytes' digits' rest high low x y byte e f p is h l value more =
    let first : x < 16 = ltb-true x 16 e in
    let second : y < 16 = ltb-true y 16 f in
    let one = h.digit first in
    let two = l.digit second in
    hex_more digits bytes bytes' digits' rest high low byte p is one.0 two.0
    (omega (arith, value, small x first, small y second, one.1, two.1)) more
both_by true false digits bytes bytes' digits' rest high low x y byte e f p is h l value more =
    hex_no_low digits bytes digits' rest high low p is (h.digit (ltb-true x 16 e)).0 (l.none (ltb-false y 16 f))
both_by false b digits bytes bytes' digits' rest high low x y byte e f p is h l value more =
    hex_no_high digits bytes digits' rest high low p is (h.none (ltb-false x 16 e))

-- two more digits
pub read_more : (all all' : Bool) (digits bytes bytes' digits' rest : List ℕ) (high low x y byte : ℕ) → SaysSoFar all
    digits digits' bytes → all' ≡ ((all && nat_lt x 16) && nat_lt y 16) → digits' ≡ high ∷ low ∷ rest → IsValue high x
    → IsValue low y → byte ≡ 16 * (x % 16) + y % 16 → bytes' ≡ bytes ++ byte ∷ [] → SaysSoFar all' digits rest bytes'
read_more true all' digits bytes bytes' digits' rest high low x y byte p e is h l value more =
    subst (λ (a : Bool). SaysSoFar a digits rest bytes') (sym e) (both_by (nat_lt x 16)
    (nat_lt y 16) digits bytes bytes' digits' rest high low x y byte refl refl p is h l value more)
read_more false all' digits bytes bytes' digits' rest high low x y byte p e is h l value more =
    subst (λ (a : Bool). SaysSoFar a digits rest bytes') (sym e) p

-- the next two digits
pub next_two : (digits : List ℕ) (n : ℕ) → 2 * n + 1 < length digits
    → drop (2 * n) digits ≡ get_or digits (2 * n) 0 ∷ get_or digits (2 * n + 1) 0 ∷ drop (2 * (n + 1)) digits
next_two digits n some =
    let first : drop (2 * n) digits ≡ get_or digits (2 * n) 0 ∷ drop (suc (2 * n)) digits =
    drop-cons digits (2 * n) 0 (omega arith) in
    let one : suc (2 * n) ≡ 2 * n + 1 = omega arith in
    let second : drop (2 * n + 1) digits ≡ get_or digits (2 * n + 1) 0 ∷ drop (suc (2 * n + 1)) digits =
    drop-cons digits (2 * n + 1) 0 some in
    let two : suc (2 * n + 1) ≡ 2 * (n + 1) = omega arith in
    rw (first, one, second, two) refl

-- all digits were read
pub all_read : (all : Bool) (digits bytes : List ℕ) (n : ℕ) → SaysSoFar all digits (drop (2 * n) digits) (take n bytes)
    → length bytes ≤ n → length digits ≡ 2 * length bytes
    → MatchBool all (bytes_by_digits digits ≡ Some bytes) (bytes_by_digits digits ≡ None)
all_read true digits bytes n p past even = hex_all digits (take n bytes) (drop (2 * n) digits) p
    (omega (arith, past, even, length-drop (2 * n) digits)) ∙ ap (λ (x : List ℕ). Some x) (take_all n bytes past)
all_read false digits bytes n p past even = p

-- ---- a part of the digits

no_bytes : (bytes : List ℕ) (o : Option (List ℕ)) → Some [] ≡ Some bytes → o ≡ option_map (λ more. bytes ++ more) o
no_bytes bytes o e = let none : [] ≡ bytes = cc in rw (← none) (onto_none o)

onto_byte : (byte : ℕ) (bytes : List ℕ) (o : Option (List ℕ))
    → option_map (λ x. byte ∷ x) (option_map (λ more. bytes ++ more) o) ≡ option_map (λ more. (byte ∷ bytes) ++ more) o
onto_byte byte bytes None = refl
onto_byte byte bytes (Some x) = refl

part_by : (b : Bool) (byte : ℕ) (part back all : Option (List ℕ)) (bytes : List ℕ)
    → cond b (option_map (λ x. byte ∷ x) part) None ≡ Some bytes
    → ((front : List ℕ) → part ≡ Some front → all ≡ option_map (λ more. front ++ more) back)
    → cond b (option_map (λ x. byte ∷ x) all) None ≡ option_map (λ more. bytes ++ more) back
part_by true byte (Some front) back all bytes e h =
    let is : byte ∷ front ≡ bytes = cc in
    ap (option_map (λ x. byte ∷ x)) (h front refl) ∙ onto_byte byte front back
    ∙ ap (λ (bs : List ℕ). option_map (λ more. bs ++ more) back) is
part_by true byte None back all bytes e h = absurd cc
part_by false byte part back all bytes e h = absurd cc

-- the bytes of a part precede those of the digits after it
part_says : (part rest bytes : List ℕ) → bytes_by_digits part ≡ Some bytes
    → bytes_by_digits (part ++ rest) ≡ option_map (λ more. bytes ++ more) (bytes_by_digits rest)
unfolding bytes_by_digits
part_says [] rest bytes e = no_bytes bytes (bytes_by_digits rest) e
part_says (x ∷ []) rest bytes e = absurd cc
part_says (high ∷ low ∷ part) rest bytes e =
    part_by (is_digit high 16 && is_digit low 16) (16 * digit_value high + digit_value low) (bytes_by_digits part)
    (bytes_by_digits rest) (bytes_by_digits (part ++ rest)) bytes e (λ front f. part_says part rest front f)

none_by : (b : Bool) (byte : ℕ) (part all : Option (List ℕ)) → cond b (option_map (λ x. byte ∷ x) part) None ≡ None
    → (part ≡ None → all ≡ None) → cond b (option_map (λ x. byte ∷ x) all) None ≡ None
none_by true byte None all e h = ap (option_map (λ x. byte ∷ x)) (h refl)
none_by true byte (Some front) all e h = absurd cc
none_by false byte part all e h = refl

-- if a part of whole pairs means no bytes, no more do all digits
part_says_none : (n : ℕ) (part rest : List ℕ) → length part ≡ 2 * n → bytes_by_digits part ≡ None
    → bytes_by_digits (part ++ rest) ≡ None
unfolding bytes_by_digits
part_says_none n [] rest even e = absurd cc
part_says_none n (x ∷ []) rest even e = absurd (omega (arith, even))
part_says_none zero (high ∷ low ∷ part) rest even e = absurd (omega (arith, even))
part_says_none (suc n) (high ∷ low ∷ part) rest even e =
    none_by (is_digit high 16 && is_digit low 16) (16 * digit_value high + digit_value low) (bytes_by_digits part)
    (bytes_by_digits (part ++ rest)) e (λ f. part_says_none n part rest (omega (arith, even)) f)

onto_part : (before part after : List ℕ) (o : Option (List ℕ)) → after ≡ before ++ part
    → option_map (λ more. before ++ more) (option_map (λ more. part ++ more) o) ≡ option_map (λ more. after ++ more) o
onto_part before part after None e = refl
onto_part before part after (Some more) e =
    ap (λ (x : List ℕ). Some x) (sym (append_assoc before part more) ∙ ap (λ (x : List ℕ). x ++ more) (sym e))

-- one more part
pub part_more : (all : Bool) (word bytes bytes' digits rest : List ℕ) (n : ℕ) → SaysBefore word bytes digits
    → rest ≡ drop n digits → SaysPart all (take n digits) bytes bytes' → all ≡ true → SaysBefore word bytes' rest
part_more true word bytes bytes' digits rest n p behind (part, says, more) e =
    let cut : bytes_by_digits digits ≡ option_map (λ x. part ++ x) (bytes_by_digits rest) =
    ap bytes_by_digits (sym (take-append-drop n digits)) ∙ part_says (take n digits) (drop n digits) part says
    ∙ ap (λ (x : List ℕ). option_map (λ more. part ++ more) (bytes_by_digits x)) (sym behind) in
    p ∙ ap (option_map (λ x. bytes ++ x)) cut ∙ onto_part bytes part bytes' (bytes_by_digits rest) more
part_more false word bytes bytes' digits rest n p behind says e = absurd cc

-- a part that means no bytes
pub part_none : (all : Bool) (word bytes bytes' digits : List ℕ) (n k : ℕ) → SaysBefore word bytes digits → n ≡ 2 * k
    → n ≤ length digits → SaysPart all (take n digits) bytes bytes' → all ≡ false → bytes_by_digits word ≡ None
part_none false word bytes bytes' digits n k p even within says e =
    let cut : bytes_by_digits digits ≡ None = ap bytes_by_digits (sym (take-append-drop n digits))
    ∙ part_says_none k (take n digits) (drop n digits) (omega (arith, even, within, length-take n digits)) says in
    p ∙ ap (option_map (λ x. bytes ++ x)) cut
part_none true word bytes bytes' digits n k p even within says e = absurd cc

-- sixteen more digits
pub eight_more : (all part : Bool) (word bytes bytes' digits sixteen rest new : List ℕ)
    → SaysSoFar all word digits bytes → sixteen ≡ take 16 digits → rest ≡ drop 16 digits → 16 ≤ length digits
    → MatchBool part (bytes_by_digits sixteen ≡ Some new) (bytes_by_digits sixteen ≡ None) → bytes' ≡ bytes ++ new
    → SaysSoFar (all && part) word rest bytes'
eight_more true true word bytes bytes' digits sixteen rest new p front behind within says more =
    part_more true word bytes bytes' digits rest 16 p behind (new, sym (ap bytes_by_digits front) ∙ says, more) refl
eight_more true false word bytes bytes' digits sixteen rest new p front behind within says more =
    part_none false word bytes bytes' digits 16 8 p (omega arith) within (sym (ap bytes_by_digits front) ∙ says) refl
eight_more false part word bytes bytes' digits sixteen rest new p front behind within says more = p

-- ---- bytes that were written after others

-- The old bytes, and those that were written over the zeros after them.
pub appended : (old all new others rest zeros : List ℕ) (len start n : ℕ) → start ≡ length old
    → all ≡ take n old ++ zeros → length old ≤ n → len ≡ start + length new
    → take len ((take start all ++ (new ++ others)) ++ rest) ≡ old ++ new
appended old all new others rest zeros len start n size is within end =
    let front : take start all ≡ old = rw (is, take_all n old within, size) (take-append_seam old zeros) in
    let joined : (take start all ++ (new ++ others)) ++ rest ≡ (old ++ new) ++ (others ++ rest) =
    rw front (simp append_assoc) in
    let long : len ≡ length (old ++ new) = omega (arith, size, end, length-append old new) in
    rw (joined, long) (take-append_seam (old ++ new) (others ++ rest))

-- the bytes of a part, if they were appended
pub part_says_it : (all : Bool) (digits bytes bytes' new : List ℕ) → MatchBool all (bytes_by_digits digits ≡ Some new)
    (bytes_by_digits digits ≡ None) → bytes' ≡ bytes ++ new → SaysPart all digits bytes bytes'
part_says_it true digits bytes bytes' new says more = (new, says, more)
part_says_it false digits bytes bytes' new says more = says
