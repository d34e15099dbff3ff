-- Characters of one or two bytes at the start of a text are well-formed.
use Rattle.std.proofs.Common.{◌≡◌, ℕ, ◌+◌, ◌-◌, ◌*◌, ◌/◌, ◌%◌, ◌<◌, ◌≤◌, inl, inr, Bool, true, false, cond, Fits, List}
use Rattle.std.proofs.Common.{[], ◌∷◌, length, take, drop, get_or, refl, sym, ◌∙◌, ap, subst, arith, suc, zero, w8}
use Rattle.std.specs.Prelude.{IsUtf8}
use mir.Val.{bool_byte}
use Rattle.std.proofs.Math.Dec.{ltb}
use Rattle.std.proofs.Math.Utf8.{encode, low_scalar}
use Rattle.std.proofs.Math.Seq.{drop-cons, take-add}
use Rattle.std.proofs.lemmas.Bool.{cases_lt, ltb-true, ltb-false, lt-ltb, le-ltb}
use Rattle.std.proofs.lemmas.Str.{IsUtf8-append, IsUtf8-nil, IsUtf8-encode, encode_ascii}
use Rattle.cv_utf8.specs.Private.Utf8Short.{is_among, is_continuation, IsShortAt}

-- a byte of ASCII after well-formed ones
one_more : (text : List ℕ) (n : ℕ) → n < length text → IsUtf8 (take n text) → get_or text n 0 < 128
    → IsUtf8 (take (n + 1) text)
one_more text n room p low =
    let c = get_or text n 0 in
    let bytes : take 1 (drop n text) ≡ encode c = ap (λ (x : List ℕ). take 1 x) (drop-cons text n 0 room)
    ∙ sym (encode_ascii c low) in
    subst IsUtf8 (sym (take-add n 1 text)) (IsUtf8-append (take n text) (take 1 (drop n text)) p
    (subst IsUtf8 (sym bytes) (IsUtf8-encode c (low_scalar c (omega arith)))))

encode_two : (c : ℕ) → 128 ≤ c → c < 2048 → encode c ≡ (192 + c / 64) ∷ (128 + c % 64) ∷ []
unfolding encode
encode_two c h l = rw (le-ltb c 128 h, lt-ltb c 2048 l) refl

-- the two bytes of a character after well-formed ones
two_more : (text : List ℕ) (n : ℕ) → n + 1 < length text → IsUtf8 (take n text) → 0xc2 ≤ get_or text n 0
    → get_or text n 0 < 0xe0 → 0x80 ≤ get_or text (n + 1) 0 → get_or text (n + 1) 0 < 0xc0 → IsUtf8 (take (n + 2) text)
two_more text n room p a b d e =
    let x = get_or text n 0 in
    let y = get_or text (n + 1) 0 in
    let c : ℕ = (x - 0xc0) * 64 + (y - 0x80) in
    let high : 192 + c / 64 ≡ x = omega arith in
    let low : 128 + c % 64 ≡ y = omega arith in
    let spelled : encode c ≡ x ∷ y ∷ [] = encode_two c (omega arith) (omega arith) ∙ rw (high, low) refl in
    let step : suc n ≡ n + 1 = omega arith in
    let pair : drop n text ≡ x ∷ y ∷ drop (suc (n + 1)) text = drop-cons text n 0 (omega arith)
    ∙ ap (λ (l : List ℕ). x ∷ l) (ap (λ (i : ℕ). drop i text) step ∙ drop-cons text (n + 1) 0 room) in
    let bytes : take 2 (drop n text) ≡ encode c = ap (λ (l : List ℕ). take 2 l) pair ∙ sym spelled in
    subst IsUtf8 (sym (take-add n 2 text)) (IsUtf8-append (take n text) (take 2 (drop n text)) p
    (subst IsUtf8 (sym bytes) (IsUtf8-encode c (low_scalar c (omega arith)))))

-- 1 if a continuation byte is at an offset, and 0 otherwise
abbrev pub tail_at : List ℕ → ℕ → ℕ
tail_at text n = cond (is_continuation (get_or text n 0)) 1 0

behind_range : (x : ℕ) → x < 256 → is_continuation x ≡ true → (0x80 ≤ x) × (x < 0xc0)
behind_range x h e =
    let near : (x + (256 - 0x80)) % 256 < 0x40 = ltb-true _ _ e in
    (omega arith, omega arith)

first_range : (x : ℕ) → x < 256 → is_among 0xc2 0x1e x ≡ true → (0xc2 ≤ x) × (x < 0xe0)
first_range x h e =
    let near : (x + (256 - 0xc2)) % 256 < 0x1e = ltb-true _ _ e in
    (omega arith, omega arith)

-- a byte that is neither a continuation byte nor C0 or above is ASCII
ascii_range : (x : ℕ) → x < 256 → is_continuation x ≡ false → is_among 0xc0 0x40 x ≡ false → x < 0x80
ascii_range x h b e =
    let far : 0x40 ≤ (x + (256 - 0x80)) % 256 = ltb-false _ _ b in
    let other : 0x40 ≤ (x + (256 - 0xc0)) % 256 = ltb-false _ _ e in
    omega arith

-- a continuation byte is no first byte of two
not_both : (x : ℕ) → x < 256 → is_continuation x ≡ true → is_among 0xc2 0x1e x ≡ true → ⊥
not_both x h b e =
    let p = behind_range x h b in
    let q = first_range x h e in
    omega (arith, p.1, q.0)

abbrev IsFront : List ℕ → ℕ → Type 0
IsFront text n = IsUtf8 (take (n + tail_at text n) text)

-- one byte further, by whether it is a continuation byte, and whether it begins two
further : (text : List ℕ) (n : ℕ) (behind first : Bool) → ((i : ℕ) → Fits w8 (get_or text i 0)) → n + 1 < length text
    → is_continuation (get_or text n 0) ≡ behind → is_among 0xc2 0x1e (get_or text n 0) ≡ first → IsShortAt text n
    → IsFront text n → IsFront text (n + 1)
further text n true true fits room b f s p = absurd (not_both (get_or text n 0) (fits n).fits b f)
further text n true false fits room b f s p =
    let next : is_continuation (get_or text (n + 1) 0) ≡ false = sym s.1 ∙ f in
    let same : n + tail_at text n ≡ n + 1 + tail_at text (n + 1) = rw (b, next) (omega arith) in
    subst (λ (m : ℕ). IsUtf8 (take m text)) same p
further text n false true fits room b f s p =
    let next : is_continuation (get_or text (n + 1) 0) ≡ true = sym s.1 ∙ f in
    let x = first_range (get_or text n 0) (fits n).fits f in
    let y = behind_range (get_or text (n + 1) 0) (fits (n + 1)).fits next in
    let here : n + tail_at text n ≡ n = rw b (omega arith) in
    let there : n + 2 ≡ n + 1 + tail_at text (n + 1) = rw next (omega arith) in
    subst (λ (m : ℕ). IsUtf8 (take m text)) there
    (two_more text n room (subst (λ (m : ℕ). IsUtf8 (take m text)) here p) x.0 x.1 y.0 y.1)
further text n false false fits room b f s p =
    let next : is_continuation (get_or text (n + 1) 0) ≡ false = sym s.1 ∙ f in
    let low = ascii_range (get_or text n 0) (fits n).fits b (sym s.0 ∙ f) in
    let here : n + tail_at text n ≡ n = rw b (omega arith) in
    let there : n + 1 ≡ n + 1 + tail_at text (n + 1) = rw next (omega arith) in
    subst (λ (m : ℕ). IsUtf8 (take m text)) there
    (one_more text n (omega arith) (subst (λ (m : ℕ). IsUtf8 (take m text)) here p) low)

-- if all bytes before an offset are of characters of one or two bytes, they are well-formed, with the second byte of
-- the last
short_well_formed : (text : List ℕ) (n : ℕ) → ((i : ℕ) → Fits w8 (get_or text i 0))
    → n < length text → is_continuation (get_or text 0 0) ≡ false → ((k : ℕ) → k < n → IsShortAt text k)
    → IsUtf8 (take (n + tail_at text n) text)
short_well_formed text zero fits room b s = rw b IsUtf8-nil
short_well_formed text (suc n) fits room b s =
    let next : n + 1 ≡ suc n = omega arith in
    subst (IsFront text) next
    (further text n (is_continuation (get_or text n 0)) (is_among 0xc2 0x1e (get_or text n 0)) fits (omega arith) refl
    refl (s n (omega arith)) (short_well_formed text n fits (omega arith) b (λ k h. s k (omega arith))))

-- some bytes more, of which the first may be among those before
pub short_more : (text : List ℕ) (n at m : ℕ) → at ≤ n → ((k : ℕ) → k < n → IsShortAt text k)
    → ((k : ℕ) → k < m → IsShortAt text (at + k)) → (k : ℕ) → k < at + m → IsShortAt text k
short_more text n at m overlap s more k h = elim (cases_lt k n) [
  | inl l ↦ s k l
  | inr l ↦
      let there : at + (k - at) ≡ k = omega arith in
      subst (IsShortAt text) there (more (k - at) (omega arith))
]

-- with the byte behind them, by whether it is a continuation byte, and whether it is below C0
closed_if : (text : List ℕ) (n : ℕ) (behind low : Bool) → ((i : ℕ) → Fits w8 (get_or text i 0)) → n < length text
    → is_continuation (get_or text n 0) ≡ behind → ltb (get_or text n 0) 0xc0 ≡ low → IsFront text n
    → IsUtf8 (take (n + bool_byte low) text)
closed_if text n true true fits room b l p =
    let same : n + tail_at text n ≡ n + bool_byte true = rw b refl in
    subst (λ (m : ℕ). IsUtf8 (take m text)) same p
closed_if text n true false fits room b l p =
    let high : 0xc0 ≤ get_or text n 0 = ltb-false _ _ l in
    let range = behind_range (get_or text n 0) (fits n).fits b in
    absurd (omega (arith, high, range.1))
closed_if text n false true fits room b l p =
    let below : get_or text n 0 < 0xc0 = ltb-true _ _ l in
    let other : 0x40 ≤ (get_or text n 0 + (256 - 0x80)) % 256 = ltb-false _ _ b in
    let here : n + tail_at text n ≡ n = rw b (omega arith) in
    one_more text n room (subst (λ (m : ℕ). IsUtf8 (take m text)) here p) (omega (arith, below, other))
closed_if text n false false fits room b l p =
    let same : n + tail_at text n ≡ n + bool_byte false = rw b refl in
    subst (λ (m : ℕ). IsUtf8 (take m text)) same p

-- if all bytes before an offset are of characters of one or two bytes, they are well-formed, with the byte behind them
-- if that is below C0
pub short_closed : (text : List ℕ) (n : ℕ) → ((i : ℕ) → Fits w8 (get_or text i 0))
    → n < length text → is_continuation (get_or text 0 0) ≡ false → ((k : ℕ) → k < n → IsShortAt text k)
    → IsUtf8 (take (n + bool_byte (ltb (get_or text n 0) 0xc0)) text)
short_closed text n fits room b s =
    closed_if text n (is_continuation (get_or text n 0)) (ltb (get_or text n 0) 0xc0) fits room refl refl
    (short_well_formed text n fits room b s)
