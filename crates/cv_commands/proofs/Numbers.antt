-- The numbers and bytes that words mean.
use Rattle.std.proofs.Common.{◌≡◌, ℕ, suc, ◌+◌, ◌*◌, ◌/◌, ◌^◌, ◌<◌, ◌≤◌, Bool, true, false, cond, ◌&&◌, ◌==◌, get_or}
use Rattle.std.proofs.Common.{List, [], ◌∷◌, ◌++◌, length, take, drop, Option, Some, None, refl, sym, ap, subst, ◌∙◌}
use Rattle.std.proofs.Common.{append_assoc, arith, take-append-drop}
use Rattle.std.specs.Prelude.{IfSome, nat_lt, bytes_eq, codes}
use Rattle.std.specs.Char.{is_ascii_digit, is_digit, digit_value}
use Rattle.std.specs.List.{list_all}
use Rattle.std.specs.Option.{option_map}
use Rattle.std.specs.Str.Parse.{digits_value, digits_value_after}
use Rattle.std.proofs.lemmas.Bool.{lt-ltb, le-ltb, and_right}
use Rattle.std.proofs.lemmas.Int.Digits.{digits_value_more}
use Rattle.std.proofs.lemmas.List.{take_all, append-nil}
use Rattle.std.proofs.lemmas.List.Folds.{list_all_at, list_all_more}
use Rattle.cv_commands.specs.Words.{number_in, bytes_by_digits, bytes_in}

-- ---- numbers

value_ge : (n : ℕ) (digits : List ℕ) → n ≤ digits_value_after 10 n digits
value_ge n [] = omega arith
value_ge n (c ∷ digits) = let more = value_ge (n * 10 + digit_value c) digits in omega (arith, more)

value_split : (n : ℕ) (front back : List ℕ)
    → digits_value_after 10 n (front ++ back) ≡ digits_value_after 10 (digits_value_after 10 n front) back
value_split n [] back = refl
value_split n (c ∷ front) back = value_split (n * 10 + digit_value c) front back

-- the number of the first digits is no greater than that of all
value_front : (word : List ℕ) (i : ℕ) → digits_value 10 (take i word) ≤ digits_value 10 word
value_front word i =
    let all : digits_value 10 (take i word ++ drop i word) ≡ digits_value 10 word =
    ap (digits_value 10) (take-append-drop i word) in
    let more = value_ge (digits_value 10 (take i word)) (drop i word) in
    omega (arith, all, more, value_split 0 (take i word) (drop i word))

no_number : (a b : Bool) (v : ℕ) → (a && b) ≡ false → cond (a && b) (Some v) None ≡ None
no_number a b v e = rw e refl

number_large : (word : List ℕ) → 2 ^ 32 ≤ digits_value 10 word → number_in word ≡ None
unfolding number_in
number_large word large = no_number (list_all is_ascii_digit word) (nat_lt (digits_value 10 word) (2 ^ 32))
    (digits_value 10 word) (and_right (list_all is_ascii_digit word) (nat_lt (digits_value 10 word) (2 ^ 32))
    (le-ltb (digits_value 10 word) (2 ^ 32) large))

number_no_digit : (word : List ℕ) → list_all is_ascii_digit word ≡ false → number_in word ≡ None
unfolding number_in
number_no_digit word e = rw e refl

stops_by : (b : Bool) (word : List ℕ) (i : ℕ) → i < length word → is_ascii_digit (get_or word i 0) ≡ b
    → (b ≡ true → 2 ^ 32 ≤ digits_value 10 (take i word) * 10 + digit_value (get_or word i 0)) → number_in word ≡ None
stops_by true word i lt e large =
    let step = digits_value_more 10 word i lt in
    let front = value_front word (i + 1) in
    number_large word (omega (arith, step, front, large refl))
stops_by false word i lt e large = number_no_digit word (list_all_at is_ascii_digit word i 0 lt e)

-- if a byte is no digit, or makes the number too large, the word means no number
pub number_stops : (word : List ℕ) (i : ℕ) → i < length word → (is_ascii_digit (get_or word i 0) ≡ true
    → 2 ^ 32 ≤ digits_value 10 (take i word) * 10 + digit_value (get_or word i 0)) → number_in word ≡ None
number_stops word i lt large = stops_by (is_ascii_digit (get_or word i 0)) word i lt refl large

pub digits_more : (word : List ℕ) (i : ℕ) → i < length word → list_all is_ascii_digit (take i word) ≡ true
    → is_ascii_digit (get_or word i 0) ≡ true → list_all is_ascii_digit (take (i + 1) word) ≡ true
digits_more word i lt before e = rw (list_all_more is_ascii_digit word i 0 lt, before, e) refl

number_is : (word : List ℕ) → list_all is_ascii_digit word ≡ true → digits_value 10 word < 2 ^ 32
    → number_in word ≡ Some (digits_value 10 word)
unfolding number_in
number_is word all small = let t : nat_lt (digits_value 10 word) (2 ^ 32) ≡ true =
    lt-ltb (digits_value 10 word) (2 ^ 32) small in rw (all, t) refl

-- the number of all digits
pub number_done : (word : List ℕ) (i number : ℕ) → length word ≤ i → number ≡ digits_value 10 (take i word)
    → list_all is_ascii_digit (take i word) ≡ true → number < 2 ^ 32 → number_in word ≡ Some number
number_done word i number past is all small =
    let e : take i word ≡ word = take_all i word past in
    let same : number ≡ digits_value 10 word = is ∙ ap (digits_value 10) e in
    number_is word (sym (ap (list_all is_ascii_digit) e) ∙ all) (omega (arith, same, small))
    ∙ ap (λ (n : ℕ). Some n) (sym same)

-- ---- bytes

digits_more_bytes : (high low : ℕ) (digits : List ℕ) → is_digit high 16 ≡ true → is_digit low 16 ≡ true
    → bytes_by_digits (high ∷ low ∷ digits)
    ≡ option_map (λ bytes. (16 * digit_value high + digit_value low) ∷ bytes) (bytes_by_digits digits)
unfolding bytes_by_digits
digits_more_bytes high low digits e f = rw (e, f) refl

no_high : (high low : ℕ) (digits : List ℕ) → is_digit high 16 ≡ false → bytes_by_digits (high ∷ low ∷ digits) ≡ None
unfolding bytes_by_digits
no_high high low digits e = rw e refl

no_low : (high low : ℕ) (digits : List ℕ) → is_digit high 16 ≡ true → is_digit low 16 ≡ false
    → bytes_by_digits (high ∷ low ∷ digits) ≡ None
unfolding bytes_by_digits
no_low high low digits e f = rw (e, f) refl

onto_bytes : (before after : List ℕ) (byte : ℕ) (o : Option (List ℕ)) → after ≡ before ++ byte ∷ []
    → option_map (λ more. before ++ more) (option_map (λ bytes. byte ∷ bytes) o) ≡ option_map (λ more. after ++ more) o
onto_bytes before after byte None e = refl
onto_bytes before after byte (Some more) e =
    ap (λ (x : List ℕ). Some x) (sym (append_assoc before (byte ∷ []) more) ∙ ap (λ (x : List ℕ). x ++ more) (sym e))

-- The bytes so far, and those that these digits mean, are those that the word means.
abbrev pub SaysBefore : List ℕ → List ℕ → List ℕ → Type 0
SaysBefore word bytes digits = bytes_by_digits word ≡ option_map (λ more. bytes ++ more) (bytes_by_digits digits)

-- two more digits
pub hex_more : (word bytes bytes' digits rest : List ℕ) (high low byte : ℕ) → SaysBefore word bytes digits
    → digits ≡ high ∷ low ∷ rest → is_digit high 16 ≡ true → is_digit low 16 ≡ true
    → byte ≡ 16 * digit_value high + digit_value low → bytes' ≡ bytes ++ byte ∷ [] → SaysBefore word bytes' rest
hex_more word bytes bytes' digits rest high low byte p is e f value more =
    let step : bytes_by_digits digits ≡ option_map (λ x. byte ∷ x) (bytes_by_digits rest) =
    ap bytes_by_digits is ∙ digits_more_bytes high low rest e f
    ∙ ap (λ (b : ℕ). option_map (λ x. b ∷ x) (bytes_by_digits rest)) (sym value) in
    p ∙ ap (option_map (λ x. bytes ++ x)) step ∙ onto_bytes bytes bytes' byte (bytes_by_digits rest) more

-- two bytes that are not both digits
pub hex_no_high : (word bytes digits rest : List ℕ) (high low : ℕ) → SaysBefore word bytes digits
    → digits ≡ high ∷ low ∷ rest → is_digit high 16 ≡ false → bytes_by_digits word ≡ None
hex_no_high word bytes digits rest high low p is e = p
    ∙ ap (option_map (λ x. bytes ++ x)) (ap bytes_by_digits is ∙ no_high high low rest e)

pub hex_no_low : (word bytes digits rest : List ℕ) (high low : ℕ) → SaysBefore word bytes digits
    → digits ≡ high ∷ low ∷ rest → is_digit high 16 ≡ true → is_digit low 16 ≡ false → bytes_by_digits word ≡ None
hex_no_low word bytes digits rest high low p is e f = p
    ∙ ap (option_map (λ x. bytes ++ x)) (ap bytes_by_digits is ∙ no_low high low rest e f)

-- no digit is left
pub hex_all : (word bytes digits : List ℕ) → SaysBefore word bytes digits → length digits ≡ 0
    → bytes_by_digits word ≡ Some bytes
unfolding bytes_by_digits
hex_all word bytes [] p none = p ∙ ap (λ (x : List ℕ). Some x) (append-nil bytes)
hex_all word bytes (x ∷ digits) p none = absurd (omega (arith, none))

-- one digit is left
pub hex_odd : (word bytes digits : List ℕ) → SaysBefore word bytes digits → length digits < 2 → (length digits ≡ 0 → ⊥)
    → bytes_by_digits word ≡ None
unfolding bytes_by_digits
hex_odd word bytes [] p few some = absurd (some refl)
hex_odd word bytes (x ∷ []) p few some = p
hex_odd word bytes (x ∷ y ∷ digits) p few some = absurd (omega (arith, few))

pub onto_none : (o : Option (List ℕ)) → o ≡ option_map (λ more. [] ++ more) o
onto_none None = refl
onto_none (Some x) = refl

pub hyphen_says : (word : List ℕ) → bytes_eq word (codes "-") ≡ true → bytes_in word ≡ Some []
unfolding bytes_in
hyphen_says word e = rw e refl

pub digits_say : (word : List ℕ) (o : Option (List ℕ)) → bytes_eq word (codes "-") ≡ false → bytes_by_digits word ≡ o
    → bytes_in word ≡ o
unfolding bytes_in
digits_say word o e f = rw (e, f) refl

-- a list by its first element and the rest
pub one_front : (bytes rest : List ℕ) (first : ℕ) → 1 ≤ length bytes → first ≡ get_or bytes 0 0 → rest ≡ drop 1 bytes
    → bytes ≡ first ∷ rest
one_front [] rest first some f r = absurd (omega (arith, some))
one_front (x ∷ bytes) rest first some f r = rw (f, r) refl

-- ---- how many bytes a word means

longer_by : (b : Bool) (byte n : ℕ) (o : Option (List ℕ)) → IfSome o (λ bytes. n ≡ 2 * length bytes)
    → IfSome (cond b (option_map (λ bytes. byte ∷ bytes) o) None) (λ bytes. n + 2 ≡ 2 * length bytes)
longer_by true byte n (Some bytes) e = omega (arith, e)
longer_by true byte n None e = tt
longer_by false byte n o e = tt

two_more : (n : ℕ) (o : Option (List ℕ)) → IfSome o (λ bytes. n + 2 ≡ 2 * length bytes)
    → IfSome o (λ bytes. suc (suc n) ≡ 2 * length bytes)
two_more n None e = tt
two_more n (Some bytes) e = omega (arith, e)

size_by_digits : (word : List ℕ) → IfSome (bytes_by_digits word) (λ bytes. length word ≡ 2 * length bytes)
unfolding bytes_by_digits
size_by_digits [] = omega arith
size_by_digits (x ∷ []) = tt
size_by_digits (high ∷ low ∷ digits) = two_more (length digits) _ (longer_by (is_digit high 16 && is_digit low 16)
    (16 * digit_value high + digit_value low) (length digits) (bytes_by_digits digits) (size_by_digits digits))

hyphen_short : (word : List ℕ) → bytes_eq word (codes "-") ≡ true → length word ≡ 1
hyphen_short [] e = absurd cc
hyphen_short (x ∷ []) e = refl
hyphen_short (x ∷ y ∷ word) e = absurd (let f : (x == 45 && false) ≡ false = and_right (x == 45) false refl in cc)

long_by : (most n : ℕ) (o : Option (List ℕ)) → most < n / 2 → IfSome o (λ bytes. n ≡ 2 * length bytes)
    → IfSome o (λ bytes. most < length bytes)
long_by most n None long e = tt
long_by most n (Some bytes) long e = omega (arith, long, e)

bytes_long_by : (b : Bool) (word : List ℕ) (most : ℕ) → bytes_eq word (codes "-") ≡ b → most < length word / 2
    → IfSome (bytes_in word) (λ bytes. most < length bytes)
unfolding bytes_in
bytes_long_by true word most e long = absurd (omega (arith, long, hyphen_short word e))
bytes_long_by false word most e long =
    rw e (long_by most (length word) (bytes_by_digits word) long (size_by_digits word))

-- a word of more digits means more bytes
pub bytes_long : (word : List ℕ) (most : ℕ) → most < length word / 2
    → IfSome (bytes_in word) (λ bytes. most < length bytes)
bytes_long word most long = bytes_long_by (bytes_eq word (codes "-")) word most refl long

bytes_fit_by : (b : Bool) (word bytes : List ℕ) (most : ℕ) → bytes_eq word (codes "-") ≡ b → bytes_in word ≡ Some bytes
    → length word / 2 ≤ most → length bytes ≤ most
bytes_fit_by true word bytes most e h few =
    let same : Some [] ≡ Some bytes = sym (hyphen_says word e) ∙ h in
    let none : [] ≡ bytes = cc in
    omega (arith, ap (λ (x : List ℕ). length x) none)
bytes_fit_by false word bytes most e h few =
    let by : bytes_by_digits word ≡ Some bytes = sym (digits_say word (bytes_by_digits word) e refl) ∙ h in
    let size : length word ≡ 2 * length bytes =
    subst (λ (o : Option (List ℕ)). IfSome o (λ x. length word ≡ 2 * length x)) by (size_by_digits word) in
    omega (arith, size, few)

-- a word of few digits means few bytes
pub bytes_fit : (word bytes : List ℕ) (most : ℕ) → bytes_in word ≡ Some bytes → length word / 2 ≤ most
    → length bytes ≤ most
bytes_fit word bytes most h few = bytes_fit_by (bytes_eq word (codes "-")) word bytes most refl h few
