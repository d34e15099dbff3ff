-- Which bytes of a window of UTF-8 are of one kind, as bits.
use Rattle.std.proofs.Common.{◌≡◌, ℕ, ◌+◌, ◌-◌, ◌%◌, ◌^◌, ◌<◌, ◌≤◌, ◌⊎◌, inl, inr, Bool, true, false, cond, Fits, List}
use Rattle.std.proofs.Common.{length, take, drop, get_or, map, refl, sym, ◌∙◌, ap, ap₂, arith, zero, suc, w8, lit≤}
use Rattle.std.proofs.Common.{min, max}
use Rattle.std.specs.Int.{bit_at}
use Rattle.std.specs.Int.RustNames.{bit_or}
use Rattle.std.specs.Int.Bits.{bit_and}
use Rattle.std.specs.Simd.Lanes.{mask_l}
use Rattle.std.proofs.lemmas.Nat.{and_le_l}
use Rattle.std.proofs.lemmas.Nat.Bits.{bit_at_and, bit_at_or, bit_at-lt}
use Rattle.std.proofs.lemmas.Simd.{bit_mask_l, mask_l-lt, length-chunk, get_or-chunk}
use Rattle.std.proofs.lemmas.List.{get_or-map, length-map}
use Rattle.std.proofs.lemmas.Bool.{ltb-true}
use Rattle.cv_utf8.specs.Private.Utf8Short.{is_among}
use Rattle.cv_utf8.specs.Private.Utf8Windows.{IsOneAt, IsTwoAt, IsThreeAt, AreMarks, three_high}

both : (a b : ℕ) → min a b ≡ 1 → a < 2 → b < 2 → (a ≡ 1) × (b ≡ 1)
both a b e h k = (omega arith, omega arith)

either : (a b : ℕ) → max a b ≡ 1 → a < 2 → b < 2 → (a ≡ 1) ⊎ (b ≡ 1)
either zero b e h k = inr (omega arith)
either (suc a) b e h k = inl (omega arith)

-- a bit of the AND of two numbers is in both
pub in_both : (a b k : ℕ) → bit_at (bit_and a b) k ≡ 1 → (bit_at a k ≡ 1) × (bit_at b k ≡ 1)
in_both a b k e = both (bit_at a k) (bit_at b k) (sym (bit_at_and a b k) ∙ e) (bit_at-lt a k) (bit_at-lt b k)

-- a bit of the OR of two numbers is in one of them
pub in_either : (a b k : ℕ) → bit_at (bit_or a b) k ≡ 1 → (bit_at a k ≡ 1) ⊎ (bit_at b k ≡ 1)
in_either a b k e = either (bit_at a k) (bit_at b k) (sym (bit_at_or a b k) ∙ e) (bit_at-lt a k) (bit_at-lt b k)

-- a bit of the first of two numbers is in their OR
pub left_in : (a b k : ℕ) → bit_at a k ≡ 1 → bit_at (bit_or a b) k ≡ 1
left_in a b k e = omega (arith, bit_at_or a b k, bit_at-lt b k, bit_at-lt a k)

-- a bit of the second of two numbers is in their OR
pub right_in : (a b k : ℕ) → bit_at b k ≡ 1 → bit_at (bit_or a b) k ≡ 1
right_in a b k e = omega (arith, bit_at_or a b k, bit_at-lt b k, bit_at-lt a k)

-- 1 if a test is true, and 0 otherwise
abbrev pub one_if : Bool → ℕ
one_if b = cond b 1 0

set_true : (b : Bool) → one_if b ≡ 1 → b ≡ true
set_true true e = refl
set_true false e = cc

-- sixteen lanes are sixteen bits
pub among_lt : (text : List ℕ) (at least many m : ℕ) → at + 16 ≤ length text
    → m ≡ mask_l (map (is_among least many) (take 16 (drop at text))) → m < 0x10000
among_lt text at least many m room e =
    let bits : List Bool = map (is_among least many) (take 16 (drop at text)) in
    let long : length bits ≡ 16 = simp length-map (length-chunk at 16 text room) in
    let below : mask_l bits < 2 ^ 16 = rw long at (mask_l-lt bits) in
    omega (arith, e)

-- a lane that is marked
marked : (xs : List ℕ) (least many m k : ℕ) → length xs ≡ 16 → m ≡ mask_l (map (is_among least many) xs) → k < 16
    → bit_at m k ≡ 1 → is_among least many (get_or xs k 0) ≡ true
marked xs least many m k long e l one =
    let within : k < length xs = omega arith in
    let bit = set_true _ (sym (bit_mask_l (map (is_among least many) xs) k) ∙ ap (λ x. bit_at x k) (sym e) ∙ one) in
    sym (get_or-map (is_among least many) xs k 0 false within) ∙ bit

-- a byte that is marked
pub among_at : (text : List ℕ) (at least many m k : ℕ) → at + 16 ≤ length text → get_or text (at + k) 0 < 256
    → least + many ≤ 256 → m ≡ mask_l (map (is_among least many) (take 16 (drop at text))) → k < 16 → bit_at m k ≡ 1
    → (least ≤ get_or text (at + k) 0) × (get_or text (at + k) 0 < least + many)
among_at text at least many m k room small range e l one =
    let is = sym (ap (is_among least many) (get_or-chunk at 16 text k 0 l))
    ∙ marked (take 16 (drop at text)) least many m k (length-chunk at 16 text room) e l one in
    let near : (get_or text (at + k) 0 + (256 - least)) % 256 < many = ltb-true _ _ is in
    (omega arith, omega arith)

wider : (a b k : ℕ) → a < 0x10000 → bit_and a b < 0x10000
wider a b k h = omega (arith, and_le_l a b)

-- the lanes of ASCII mark ASCII bytes
pub one_marks : (text : List ℕ) (at one : ℕ) → at + 18 ≤ length text → ((i : ℕ) → Fits w8 (get_or text i 0))
    → one ≡ mask_l (map (is_among 0 0x80) (take 16 (drop at text))) → AreMarks (IsOneAt text) at one
one_marks text at one room fits e = (
  among_lt text at 0 0x80 one (omega arith) e,
  λ k l b. (among_at text at 0 0x80 one k (omega arith) (fits (at + k)).fits (lit≤ tt) e l b).1,
)

-- the lanes of two bytes mark them
pub two_marks : (text : List ℕ) (at firsts tails : ℕ) → at + 18 ≤ length text → ((i : ℕ) → Fits w8 (get_or text i 0))
    → firsts ≡ mask_l (map (is_among 0xc2 0x1e) (take 16 (drop at text))) → tails ≡ mask_l
    (map (is_among 0x80 0x40) (take 16 (drop (at + 1) text))) → AreMarks (IsTwoAt text) at (bit_and firsts tails)
two_marks text at firsts tails room fits e f = (
  wider firsts tails 0 (among_lt text at 0xc2 0x1e firsts (omega arith) e),
  λ k l b.
      let parts = in_both firsts tails k b in
      let place : at + 1 + k ≡ at + k + 1 = omega arith in
      let x = among_at text at 0xc2 0x1e firsts k (omega arith) (fits (at + k)).fits (lit≤ tt) e l parts.0 in
      let y = rw place
      at (among_at text (at + 1) 0x80 0x40 tails k (omega arith) (fits (at + 1 + k)).fits (lit≤ tt) f l parts.1) in
      (x.0, omega (arith, x.1), (y.0, omega (arith, y.1))),
)

high_enough : (x y : ℕ) → 0xe0 ≤ x → x < 0xf0 → 0x80 ≤ y → y < 0xc0 → is_among 0x08 0xf8 (three_high x y) ≡ true
    → x ≡ 0xe0 → 0xa0 ≤ y
high_enough x y h k l m is e = grind arith

no_surrogate : (x y : ℕ) → 0xe0 ≤ x → x < 0xf0 → 0x80 ≤ y → y < 0xc0 → is_among 0x08 0xf8 (three_high x y) ≡ true
    → x ≡ 0xed → y < 0xa0
no_surrogate x y h k l m is e = grind arith

three_of : (text : List ℕ) (i : ℕ) → (0xe0 ≤ get_or text i 0) × (get_or text i 0 < 0xe0 + 0x10)
    → (0x80 ≤ get_or text (i + 1) 0) × (get_or text (i + 1) 0 < 0x80 + 0x40)
    → (0x80 ≤ get_or text (i + 2) 0) × (get_or text (i + 2) 0 < 0x80 + 0x40)
    → is_among 0x08 0xf8 (three_high (get_or text i 0) (get_or text (i + 1) 0)) ≡ true → IsThreeAt text i
three_of text i p q r is =
    let x = get_or text i 0 in
    let y = get_or text (i + 1) 0 in (
      p.0,
      omega (arith, p.1),
      (q.0, omega (arith, q.1)),
      (r.0, omega (arith, r.1)),
      high_enough x y p.0 p.1 q.0 q.1 is,
      no_surrogate x y p.0 p.1 q.0 q.1 is,
    )

abbrev Bytes : List ℕ → ℕ → ℕ → ℕ → ℕ → Type 0
Bytes text at least many m = m ≡ mask_l (map (is_among least many) (take 16 (drop at text)))

-- the lanes of three bytes mark them
pub three_marks : (text : List ℕ) (at a b c d : ℕ) (highs : List ℕ) → at + 18 ≤ length text
    → ((i : ℕ) → Fits w8 (get_or text i 0)) → length highs ≡ 16 → ((k : ℕ) → k < 16
    → get_or highs k 0 ≡ three_high (get_or (take 16 (drop at text)) k 0) (get_or (take 16 (drop (at + 1) text)) k 0))
    → Bytes text at 0xe0 0x10 a → Bytes text (at + 1) 0x80 0x40 b → c ≡ mask_l (map (is_among 0x08 0xf8) highs)
    → Bytes text (at + 2) 0x80 0x40 d → AreMarks (IsThreeAt text) at (bit_and (bit_and (bit_and a b) c) d)
three_marks text at a b c d highs room fits long are p q r s =
    let first : bit_and a b < 0x10000 = wider a b 0 (among_lt text at 0xe0 0x10 a (omega arith) p) in (
      wider (bit_and (bit_and a b) c) d 0 (wider (bit_and a b) c 0 first),
      λ k l m.
          let all = in_both (bit_and (bit_and a b) c) d k m in
          let two = in_both (bit_and a b) c k all.0 in
          let firsts = in_both a b k two.0 in
          let one : at + 1 + k ≡ at + k + 1 = omega arith in
          let next : at + 2 + k ≡ at + k + 2 = omega arith in
          let x = among_at text at 0xe0 0x10 a k (omega arith) (fits (at + k)).fits (lit≤ tt) p l firsts.0 in
          let y = rw one
          at (among_at text (at + 1) 0x80 0x40 b k (omega arith) (fits (at + 1 + k)).fits (lit≤ tt) q l firsts.1) in
          let z = rw next
          at (among_at text (at + 2) 0x80 0x40 d k (omega arith) (fits (at + 2 + k)).fits (lit≤ tt) s l all.1) in
          let second : get_or (take 16 (drop (at + 1) text)) k 0 ≡ get_or text (at + k + 1) 0 =
          get_or-chunk (at + 1) 16 text k 0 l ∙ ap (λ (i : ℕ). get_or text i 0) one in
          let high = ap (is_among 0x08 0xf8) (sym (are k l ∙ ap₂ three_high (get_or-chunk at 16 text k 0 l) second))
          ∙ marked highs 0x08 0xf8 c k long r l two.1 in
          three_of text (at + k) x y z high,
    )
