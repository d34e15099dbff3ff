-- The number of at most eight digits fits 32 bits.
use Rattle.std.proofs.Common.{◌≡◌, ℕ, suc, ◌+◌, ◌*◌, ◌^◌, ◌<◌, ◌≤◌, List, length, get_or, true, arith, ap, take, min}
use Rattle.std.proofs.Common.{◌∙◌}
use Rattle.std.proofs.Math.Nat.{pow-succ', pow-le-pow_right}
use Rattle.std.proofs.lemmas.Bool.{ltb-true}
use Rattle.std.proofs.lemmas.List.Sums.{AllPass-from_list_all, list_all-from_AllPass, prefix_len_passes}
use Rattle.std.proofs.lemmas.List.{take_min, get_or-take, length-take}
use Rattle.std.specs.Prelude.{Bool, take_while}
use Rattle.std.specs.List.{prefix_len, list_all}
use Rattle.std.specs.Char.{digit_value, is_digit}
use Rattle.cv_lex.specs.Words.{are_digits}

-- the value of each digit is below the base
pub digit_at : (base : ℕ) (digits : List ℕ) → are_digits base digits ≡ true → (i : ℕ) → i < length digits
    → digit_value (get_or digits i 0) < base
digit_at base digits h i lt = ltb-true _ _ (AllPass-from_list_all (λ b. is_digit b base) digits h i 0 lt)

-- one more digit multiplies the bound by sixteen at most
pub small_step : (base number d n : ℕ) → base ≤ 16 → d < base → number < 16 ^ n → base * number + d < 16 ^ suc n
small_step base number d n low digit small =
    let step : base * (number + 1) ≤ 16 * (number + 1) = grind arith in
    omega (arith, step, pow-succ' 16 n)

-- a number of at most eight digits fits 32 bits
pub fits : (base number d n : ℕ) → base ≤ 16 → d < base → number < 16 ^ n → n < 8 → base * number + d < 2 ^ 32
fits base number d n low digit small few =
    let step = small_step base number d n low digit small in
    let most : 16 ^ suc n ≤ 16 ^ 8 = pow-le-pow_right {n = 16} (omega arith) {i = suc n} {j = 8} (omega arith) in
    omega arith

-- a limit cut down to the text's length gives the same digits
pub front_digits : (p : ℕ → Bool) (most : ℕ) (text : List ℕ) → take (prefix_len p (take (min most (length text)) text))
    (take (min most (length text)) text) ≡ take_while p (take most text)
front_digits p most text = ap (take_while p) (take_min most text)

-- what is taken from the start while a test holds passes it
pub all_digits : (p : ℕ → Bool) (text : List ℕ) → list_all p (take_while p text) ≡ true
all_digits p text = list_all-from_AllPass p (take_while p text) (λ k d lt.
    let low : k < prefix_len p text = omega (arith, length-take (prefix_len p text) text) in
    ap p (get_or-take (prefix_len p text) text k d low) ∙ prefix_len_passes p text k d low)

-- the digits that are cut off are those of the definition
pub digits_are : (base base' most most' m n : ℕ) (text : List ℕ) → base ≡ base' → most ≡ most'
    → m ≡ min most (length text) → n ≡ prefix_len (λ b. is_digit b base) (take m text)
    → take n (take m text) ≡ take_while (λ b. is_digit b base') (take most' text)
digits_are base base' most most' m n text e1 e2 e3 e4 =
    rw (e4, e3, e2, e1) (front_digits (λ b. is_digit b base') most' text)
