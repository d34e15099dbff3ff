-- Bits cut into digits.
use Rattle.std.proofs.Common.{◌≡◌, ℕ, zero, suc, ◌+◌, ◌*◌, ◌/◌, ◌%◌, ◌^◌, ◌<◌, ◌≤◌, Bool, false, ◌⊎◌, List, [], ◌∷◌}
use Rattle.std.proofs.Common.{◌++◌, length, replicate, refl, sym, ◌∙◌, ap, subst, arith, inl, inr}
use Rattle.std.proofs.lemmas.List.{length-replicate}
use Rattle.std.proofs.Math.Nat.{mod-eq_of_lt, pow-le-pow_right}
use Rattle.cv_base.specs.declared.state.Bits.{Bits}
use Rattle.cv_base.specs.declared.state.WriteState.TheVariants as write
use Rattle.cv_utf7.specs.Sets.{digit_of}
use Rattle.cv_utf7.specs.BitLists.{bits, number, bits_of, character_bits, digits, over}
use Rattle.cv_utf7.proofs.BitStrings.{number-zeros, length-bits, number-bits, number-append, bits-split, bits-mod}
use Rattle.cv_utf7.proofs.CodeUnits.{one_unit, two_units}
use Rattle.cv_base.specs.Units.{high_unit, low_unit}
use Rattle.cv_utf7.specs.Utf7.{minus, written_bits, last_digit, utf7_closes}
use Rattle.cv_utf7.specs.PendingBits.{pending_of}
use Rattle.cv_utf7.proofs.PendingBits.{pending_is}
use Rattle.cv_utf7.specs.declared.write.base64_digits.Base64Digits.{Base64Digits}

pub digits_six : (l r : List Bool) → length l ≡ 6
    → (digits (l ++ r) ≡ digit_of (number l) ∷ digits r) × (over (l ++ r) ≡ over r)
digits_six [] r e = absurd (omega arith)
digits_six (a ∷ []) r e = absurd (omega arith)
digits_six (a ∷ b ∷ []) r e = absurd (omega arith)
digits_six (a ∷ b ∷ c ∷ []) r e = absurd (omega arith)
digits_six (a ∷ b ∷ c ∷ d ∷ []) r e = absurd (omega arith)
digits_six (a ∷ b ∷ c ∷ d ∷ f ∷ []) r e = absurd (omega arith)
digits_six (a ∷ b ∷ c ∷ d ∷ f ∷ g ∷ []) r e = (refl, refl)
digits_six (a ∷ b ∷ c ∷ d ∷ f ∷ g ∷ h ∷ l) r e = absurd (omega arith)

digits_few : (r : List Bool) → length r < 6 → (digits r ≡ []) × (over r ≡ r)
digits_few [] e = (refl, refl)
digits_few (a ∷ []) e = (refl, refl)
digits_few (a ∷ b ∷ []) e = (refl, refl)
digits_few (a ∷ b ∷ c ∷ []) e = (refl, refl)
digits_few (a ∷ b ∷ c ∷ d ∷ []) e = (refl, refl)
digits_few (a ∷ b ∷ c ∷ d ∷ f ∷ []) e = (refl, refl)
digits_few (a ∷ b ∷ c ∷ d ∷ f ∷ g ∷ l) e = absurd (omega arith)

-- the bits over do not change the digits
pub digits_over : (n : ℕ) (a r : List Bool) → length a ≡ 6 * n → length r < 6
    → (digits (a ++ r) ≡ digits a) × (over (a ++ r) ≡ r)
digits_over zero [] r e l = digits_few r l
digits_over zero (a ∷ t) r e l = absurd (omega arith)
digits_over (suc n) [] r e l = absurd (omega arith)
digits_over (suc n) (a ∷ []) r e l = absurd (omega arith)
digits_over (suc n) (a ∷ b ∷ []) r e l = absurd (omega arith)
digits_over (suc n) (a ∷ b ∷ c ∷ []) r e l = absurd (omega arith)
digits_over (suc n) (a ∷ b ∷ c ∷ d ∷ []) r e l = absurd (omega arith)
digits_over (suc n) (a ∷ b ∷ c ∷ d ∷ f ∷ []) r e l = absurd (omega arith)
digits_over (suc n) (a ∷ b ∷ c ∷ d ∷ f ∷ g ∷ t) r e l =
    let h = digits_over n t r (omega arith) l in
    (ap (λ (w : List ℕ). digit_of (number (a ∷ b ∷ c ∷ d ∷ f ∷ g ∷ [])) ∷ w) h.0, h.1)

pub digits_length : (n : ℕ) (l : List Bool) → length l ≡ 6 * n → length (digits l) ≡ n
digits_length zero [] e = refl
digits_length zero (a ∷ l) e = absurd (omega arith)
digits_length (suc n) [] e = absurd (omega arith)
digits_length (suc n) (a ∷ []) e = absurd (omega arith)
digits_length (suc n) (a ∷ b ∷ []) e = absurd (omega arith)
digits_length (suc n) (a ∷ b ∷ c ∷ []) e = absurd (omega arith)
digits_length (suc n) (a ∷ b ∷ c ∷ d ∷ []) e = absurd (omega arith)
digits_length (suc n) (a ∷ b ∷ c ∷ d ∷ f ∷ []) e = absurd (omega arith)
digits_length (suc n) (a ∷ b ∷ c ∷ d ∷ f ∷ g ∷ l) e = omega (arith, digits_length n l (omega arith))

digits_more : (m v : ℕ) → digits (bits (6 + m) v) ≡ digit_of (v / 2 ^ m % 64) ∷ digits (bits m v)
digits_more m v = ap digits (bits-split 6 m v) ∙ (digits_six (bits 6 (v / 2 ^ m)) (bits m v)
    (length-bits 6 (v / 2 ^ m))).0 ∙ ap (λ (k : ℕ). digit_of k ∷ digits (bits m v)) (number-bits 6 (v / 2 ^ m))

digits_none : (v : ℕ) → digits (bits 0 v) ≡ []
unfolding bits
digits_none v = refl

digits_1 : (v : ℕ) → digits (bits 6 v) ≡ digit_of (v / 1 % 64) ∷ []
digits_1 v = digits_more 0 v ∙ ap (λ (w : List ℕ). digit_of (v / 1 % 64) ∷ w) (digits_none v)

-- the digits of twelve bits
pub digits_2 : (v : ℕ) → digits (bits 12 v) ≡ digit_of (v / 64 % 64) ∷ digit_of (v / 1 % 64) ∷ []
digits_2 v = digits_more 6 v ∙ ap (λ (w : List ℕ). digit_of (v / 64 % 64) ∷ w) (digits_1 v)

-- the digits of eighteen bits
pub digits_3 : (v : ℕ)
    → digits (bits 18 v) ≡ digit_of (v / 4096 % 64) ∷ digit_of (v / 64 % 64) ∷ digit_of (v / 1 % 64) ∷ []
digits_3 v = digits_more 12 v ∙ ap (λ (w : List ℕ). digit_of (v / 4096 % 64) ∷ w) (digits_2 v)

digits_4 : (v : ℕ) → digits (bits 24 v)
    ≡ digit_of (v / 262144 % 64) ∷ digit_of (v / 4096 % 64) ∷ digit_of (v / 64 % 64) ∷ digit_of (v / 1 % 64) ∷ []
digits_4 v = digits_more 18 v ∙ ap (λ (w : List ℕ). digit_of (v / 262144 % 64) ∷ w) (digits_3 v)

-- the digits of thirty bits
pub digits_5 : (v : ℕ) → digits (bits 30 v) ≡ digit_of (v / 16777216 % 64) ∷ digit_of (v / 262144 % 64)
    ∷ digit_of (v / 4096 % 64) ∷ digit_of (v / 64 % 64) ∷ digit_of (v / 1 % 64) ∷ []
digits_5 v = digits_more 24 v ∙ ap (λ (w : List ℕ). digit_of (v / 16777216 % 64) ∷ w) (digits_4 v)

-- the digits of thirty-six bits
pub digits_6 : (v : ℕ) → digits (bits 36 v) ≡ digit_of (v / 1073741824 % 64) ∷ digit_of (v / 16777216 % 64)
    ∷ digit_of (v / 262144 % 64) ∷ digit_of (v / 4096 % 64) ∷ digit_of (v / 64 % 64) ∷ digit_of (v / 1 % 64) ∷ []
digits_6 v = digits_more 30 v ∙ ap (λ (w : List ℕ). digit_of (v / 1073741824 % 64) ∷ w) (digits_5 v)

cut_is : (l : List Bool) (n q all value : ℕ) (next : Bits) → l ≡ bits (6 * n + q) all → next.count ≡ q → value
    ≡ all / 2 ^ q → next.value ≡ all % 2 ^ q → written_bits l ≡ (digits (bits (6 * n) value), write.Shifted next)
cut_is l n q all value next e c v w =
    let s : l ≡ bits (6 * n) value ++ bits q all = e ∙ bits-split (6 * n) q all
    ∙ ap (λ (k : ℕ). bits (6 * n) k ++ bits q all) (sym v) in
    let d = digits_over n (bits (6 * n) value) (bits q all) (length-bits (6 * n) value)
    (omega (arith, length-bits q all, next.few)) in
    let f : digits l ≡ digits (bits (6 * n) value) = ap digits s ∙ d.0 in
    let o : over l ≡ bits q all = ap over s ∙ d.1 in
    let p : pending_of (over l) ≡ next = ap pending_of o
    ∙ pending_is (bits q all) next (length-bits q all ∙ sym c) (number-bits q all ∙ sym w) in
    cc

unit_behind : (pending : Bits) (c : ℕ) → c < 0x10000
    → bits_of pending ++ character_bits c ≡ bits (pending.count + 16) (pending.value * 65536 + c)
unit_behind pending c h =
    let e : (pending.value * 65536 + c) / 2 ^ 16 ≡ pending.value = omega arith in
    let f : bits 16 (pending.value * 65536 + c) ≡ bits 16 c = bits-mod 16 (pending.value * 65536 + c) c (omega arith) in
    ap (λ (t : List Bool). bits_of pending ++ t) (one_unit c h)
    ∙ sym (bits-split pending.count 16 (pending.value * 65536 + c) ∙ rw (e, f) refl)

pair_behind : (pending : Bits) (c : ℕ) → 0x10000 ≤ c → c < 0x110000 → bits_of pending ++ character_bits c
    ≡ bits (pending.count + 32) (pending.value * 4294967296 + (high_unit c * 65536 + low_unit c))
pair_behind pending c h k =
    let e : (pending.value * 4294967296 + (high_unit c * 65536 + low_unit c)) / 2 ^ 32 ≡ pending.value = omega arith in
    let f : bits 32 (pending.value * 4294967296 + (high_unit c * 65536 + low_unit c)) ≡ bits 32
    (high_unit c * 65536 + low_unit c) = bits-mod 32 (pending.value * 4294967296 + (high_unit c * 65536 + low_unit c))
    (high_unit c * 65536 + low_unit c) (omega arith) in
    let g : (high_unit c * 65536 + low_unit c) / 2 ^ 16 ≡ high_unit c = omega arith in
    let j : bits 16 (high_unit c * 65536 + low_unit c) ≡ bits 16 (low_unit c) =
    bits-mod 16 (high_unit c * 65536 + low_unit c) (low_unit c) (omega arith) in
    let s : bits 32 (high_unit c * 65536 + low_unit c) ≡ bits 16 (high_unit c) ++ bits 16 (low_unit c) =
    bits-split 16 16 (high_unit c * 65536 + low_unit c) ∙ rw (g, j) refl in
    ap (λ (t : List Bool). bits_of pending ++ t) (two_units c h) ∙ sym
    (bits-split pending.count 32 (pending.value * 4294967296 + (high_unit c * 65536 + low_unit c)) ∙ rw (e, f, s) refl)

-- a cut of a character of one code unit after pending bits
pub cut_unit : (pending : Bits) (c : ℕ) (cut : Base64Digits) → c < 0x10000
    → pending.count + 16 ≡ 6 * cut.n + cut.next.count → cut.value ≡ (pending.value * 65536 + c) / 2 ^ cut.next.count
    → cut.next.value ≡ (pending.value * 65536 + c) % 2 ^ cut.next.count
    → written_bits (bits_of pending ++ character_bits c) ≡ (digits (bits (6 * cut.n) cut.value), write.Shifted cut.next)
cut_unit pending c cut h e v w = cut_is _ cut.n cut.next.count (pending.value * 65536 + c) cut.value cut.next
    (unit_behind pending c h ∙ ap (λ (k : ℕ). bits k (pending.value * 65536 + c)) e) refl v w

-- a cut of a character of two code units after pending bits
pub cut_pair : (pending : Bits) (c : ℕ) (cut : Base64Digits)
    → 0x10000 ≤ c → c < 0x110000 → pending.count + 32 ≡ 6 * cut.n + cut.next.count
    → cut.value ≡ (pending.value * 4294967296 + (high_unit c * 65536 + low_unit c)) / 2 ^ cut.next.count
    → cut.next.value ≡ (pending.value * 4294967296 + (high_unit c * 65536 + low_unit c)) % 2 ^ cut.next.count
    → written_bits (bits_of pending ++ character_bits c) ≡ (digits (bits (6 * cut.n) cut.value), write.Shifted cut.next)
cut_pair pending c cut h k e v w = cut_is _ cut.n cut.next.count
    (pending.value * 4294967296 + (high_unit c * 65536 + low_unit c)) cut.value cut.next (pair_behind pending c h k
    ∙ ap (λ (m : ℕ). bits m (pending.value * 4294967296 + (high_unit c * 65536 + low_unit c))) e) refl v w

-- the value of pending bits is below 16
pub value_below : (pending : Bits) → pending.value < 16
value_below pending = let e : 2 ^ pending.count ≤ 2 ^ 4 =
    pow-le-pow_right {n = 2} (omega arith) {i = pending.count} {j = 4} pending.few in omega (arith, pending.in_range)

-- the value of two pending bits
pub last_two : (pending : Bits) → pending.count ≡ 2 → pending.value < 4
last_two pending e = subst (λ (k : ℕ). pending.value < 2 ^ k) e pending.in_range

-- a closing digit is that of the bits and of zero bits up to six
pub last_digit_six : (l : List Bool) (k : ℕ) → length l + k ≡ 6 → 0 < length l
    → last_digit l ≡ digit_of (number (l ++ replicate k false)) ∷ []
last_digit_six [] k e h = absurd (omega arith)
last_digit_six (a ∷ []) k e h = let f : k ≡ 5 = omega arith in rw f refl
last_digit_six (a ∷ b ∷ []) k e h = let f : k ≡ 4 = omega arith in rw f refl
last_digit_six (a ∷ b ∷ c ∷ []) k e h = let f : k ≡ 3 = omega arith in rw f refl
last_digit_six (a ∷ b ∷ c ∷ d ∷ []) k e h = let f : k ≡ 2 = omega arith in rw f refl
last_digit_six (a ∷ b ∷ c ∷ d ∷ f ∷ []) k e h = let f : k ≡ 1 = omega arith in rw f refl
last_digit_six (a ∷ b ∷ c ∷ d ∷ f ∷ g ∷ []) k e h = let f : k ≡ 0 = omega arith in rw f refl
last_digit_six (a ∷ b ∷ c ∷ d ∷ f ∷ g ∷ o ∷ l) k e h = absurd (omega arith)

last_digit_is : (l : List Bool) (k : ℕ) → length l + k ≡ 6 → 0 < length l
    → last_digit l ≡ digit_of (number l * 2 ^ k) ∷ []
last_digit_is l k e h =
    let n : number (l ++ replicate k false) ≡ number l * 2 ^ k = number-append l (replicate k false)
    ∙ rw (length-replicate k false, number-zeros k) (omega arith) in
    last_digit_six l k e h ∙ ap (λ (m : ℕ). digit_of m ∷ []) n

-- what closes a sequence in which no bits are pending
pub closing_none : (pending : Bits) → pending.count ≡ 0 → utf7_closes (write.Shifted pending) ≡ minus ∷ []
unfolding bits
closing_none pending e = ap (λ (k : ℕ). last_digit (bits k pending.value) ++ minus ∷ []) e

closing_of : (pending : Bits) (k d : ℕ) → pending.count + k ≡ 6 → 0 < pending.count
    → d ≡ digit_of (pending.value * 2 ^ k) → last_digit (bits_of pending) ≡ d ∷ []
closing_of pending k d e h f =
    let n : number (bits_of pending) ≡ pending.value = number-bits pending.count pending.value
    ∙ mod-eq_of_lt pending.in_range in
    last_digit_is (bits_of pending) k (omega (arith, length-bits pending.count pending.value))
    (omega (arith, length-bits pending.count pending.value)) ∙ ap (λ (m : ℕ). digit_of (m * 2 ^ k) ∷ []) n
    ∙ ap (λ (m : ℕ). m ∷ []) (sym f)

-- the closing digit of two bits
pub closing_two : (pending : Bits) (d : ℕ) → pending.count ≡ 2 → d ≡ digit_of (pending.value * 16)
    → last_digit (bits_of pending) ≡ d ∷ []
closing_two pending d e f = closing_of pending 4 d (omega arith) (omega arith) f

-- the closing digit of four bits
pub closing_four : (pending : Bits) (d : ℕ) → 0 < pending.count → (pending.count ≡ 2 → ⊥)
    → d ≡ digit_of (pending.value * 4) → last_digit (bits_of pending) ≡ d ∷ []
closing_four pending d h e f = let g : pending.count ≡ 4 = omega (arith, pending.few, pending.even) in
    closing_of pending 2 d (omega arith) h f

-- what closes a sequence after a closing digit
pub closing_some : (pending : Bits) (d : ℕ) → last_digit (bits_of pending) ≡ d ∷ []
    → utf7_closes (write.Shifted pending) ≡ d ∷ minus ∷ []
closing_some pending d e = ap (λ (w : List ℕ). w ++ minus ∷ []) e

-- the digits of a cut of two
pub spell_2 : (cut : Base64Digits) → cut.n ≡ 2
    → digits (bits (6 * cut.n) cut.value) ≡ digit_of (cut.value / 64 % 64) ∷ digit_of (cut.value / 1 % 64) ∷ []
spell_2 cut e = ap (λ (n : ℕ). digits (bits (6 * n) cut.value)) e ∙ digits_2 cut.value

-- the digits of a cut of three
pub spell_3 : (cut : Base64Digits) → cut.n ≡ 3 → digits (bits (6 * cut.n) cut.value)
    ≡ digit_of (cut.value / 4096 % 64) ∷ digit_of (cut.value / 64 % 64) ∷ digit_of (cut.value / 1 % 64) ∷ []
spell_3 cut e = ap (λ (n : ℕ). digits (bits (6 * n) cut.value)) e ∙ digits_3 cut.value

-- the digits of a cut of five
pub spell_5 : (cut : Base64Digits) → cut.n ≡ 5
    → digits (bits (6 * cut.n) cut.value) ≡ digit_of (cut.value / 16777216 % 64) ∷ digit_of (cut.value / 262144 % 64)
    ∷ digit_of (cut.value / 4096 % 64) ∷ digit_of (cut.value / 64 % 64) ∷ digit_of (cut.value / 1 % 64) ∷ []
spell_5 cut e = ap (λ (n : ℕ). digits (bits (6 * n) cut.value)) e ∙ digits_5 cut.value

-- a cut whose number is none of these is of six digits
pub spell_6 : (cut : Base64Digits) → (cut.n ≡ 2) ⊎ (cut.n ≡ 3) ⊎ (cut.n ≡ 5) ⊎ (cut.n ≡ 6) → (cut.n ≡ 2 → ⊥)
    → (cut.n ≡ 3 → ⊥) → (cut.n ≡ 5 → ⊥) → (cut.n ≡ 6) × (digits (bits (6 * cut.n) cut.value)
    ≡ digit_of (cut.value / 1073741824 % 64) ∷ digit_of (cut.value / 16777216 % 64) ∷ digit_of (cut.value / 262144 % 64)
    ∷ digit_of (cut.value / 4096 % 64) ∷ digit_of (cut.value / 64 % 64) ∷ digit_of (cut.value / 1 % 64) ∷ [])
spell_6 cut o a b c = let e : cut.n ≡ 6 = elim o [
  | inl p ↦ absurd (a p)
  | inr o ↦ elim o [ inl p ↦ absurd (b p) | inr o ↦ elim o [ inl p ↦ absurd (c p) | inr p ↦ p ] ]
] in (e, ap (λ (n : ℕ). digits (bits (6 * n) cut.value)) e ∙ digits_6 cut.value)

-- a cut has as many digits as it says
pub spell_length : (cut : Base64Digits) → length (digits (bits (6 * cut.n) cut.value)) ≡ cut.n
spell_length cut = digits_length cut.n (bits (6 * cut.n) cut.value) (length-bits (6 * cut.n) cut.value)

pub ruleset spelled = (spell_2, spell_3, spell_5, spell_length)

pub ruleset pairs = (cut_pair, value_below)

pub ruleset closings = (closing_none, closing_some)

pub ruleset closing_digits = (closing_two, closing_four, last_two, value_below)
