-- Which bytes of a window of UTF-8 are of complete characters.
use Rattle.std.proofs.Common.{◌≡◌, ℕ, ◌+◌, ◌-◌, ◌*◌, ◌%◌, ◌^◌, ◌<◌, ◌≤◌, ◌⊎◌, inl, inr, Bool, true, false, cond, Fits}
use Rattle.std.proofs.Common.{List, get_or, refl, sym, ◌∙◌, ap, arith, zero, suc, w8, w64, lit≤}
use Rattle.std.specs.Int.{bit_at, trailing_ones}
use Rattle.std.specs.Int.RustNames.{bit_or}
use Rattle.std.proofs.lemmas.Nat.{or_lt}
use Rattle.std.proofs.lemmas.Nat.Bits.{bit_at-lt, bit_at_above, bit_at_cat_high, bit_at-trailing_ones}
use Rattle.std.proofs.lemmas.Bool.{ltb-true, lt-ltb}
use Rattle.cv_utf8.specs.Private.Utf8Short.{is_continuation}
use Rattle.cv_utf8.specs.Private.Utf8Windows.{IsOneAt, IsTwoAt, IsThreeAt, AreMarks, IsFollowing, AreComplete}
use Rattle.cv_utf8.proofs.Utf8Short.{two}
use Rattle.cv_utf8.proofs.Utf8Marks.{in_either, left_in, right_in}

abbrev moved : ℕ → ℕ → ℕ
moved m s = (m * 2 ^ s) % 2 ^ 64

-- a mask of the bytes at which marked characters begin
abbrev pub firsts : ℕ → ℕ → ℕ → ℕ
firsts one two three = bit_or (bit_or one two) three

-- a mask of the bytes of marked characters
abbrev pub covered : ℕ → ℕ → ℕ → ℕ
covered one two three = bit_or (bit_or (firsts one two three) (moved (bit_or two three) 1)) (moved three 2)

moved_lt : (m s : ℕ) → m < 2 ^ 16 → s ≤ 2 → moved m s < 2 ^ 18
moved_lt m zero h l = omega arith
moved_lt m (suc zero) h l = omega arith
moved_lt m (suc (suc zero)) h l = omega arith
moved_lt m (suc (suc (suc s))) h l = absurd (omega arith)

moved_is : (m s : ℕ) → m < 2 ^ 16 → s ≤ 2 → moved m s ≡ m * 2 ^ s + 0
moved_is m zero h l = omega arith
moved_is m (suc zero) h l = omega arith
moved_is m (suc (suc zero)) h l = omega arith
moved_is m (suc (suc (suc s))) h l = absurd (omega arith)

-- a power of two is positive
pub pow_positive : (s : ℕ) → 0 < 2 ^ s
pow_positive zero = omega arith
pow_positive (suc s) = omega (arith, pow_positive s)

place_lt : (m k : ℕ) → m < 2 ^ 16 → bit_at m k ≡ 1 → k < 16 ⊎ 16 ≤ k → k < 16
place_lt m k h e (inl l) = l
place_lt m k h e (inr l) = absurd (omega (arith, e, bit_at_above m 16 k h l))

moved_up : (m s k : ℕ) → m < 2 ^ 16 → s ≤ 2 → bit_at (moved m s) (k + s) ≡ bit_at m k
moved_up m s k h l =
    let some : 0 < 2 ^ s = pow_positive s in
    let here : k + s - s ≡ k = omega arith in
    let same : moved m s ≡ m * 2 ^ s + 0 = moved_is m s h l in
    ap (λ x. bit_at x (k + s)) same ∙ bit_at_cat_high m s 0 (k + s) some (omega arith) ∙ ap (bit_at m) here

from_one : (m k : ℕ) → m < 2 ^ 16 → bit_at (moved m 1) k ≡ 1 → (j : ℕ) × (k ≡ j + 1) × (bit_at m j ≡ 1)
from_one m zero h e = absurd (omega (arith, e))
from_one m (suc j) h e =
    let place : j + 1 ≡ suc j = omega arith in
    (j, omega arith, sym (moved_up m 1 j h (lit≤ tt)) ∙ ap (bit_at (moved m 1)) place ∙ e)

from_two : (m k : ℕ) → m < 2 ^ 16 → bit_at (moved m 2) k ≡ 1 → (j : ℕ) × (k ≡ j + 2) × (bit_at m j ≡ 1)
from_two m zero h e = absurd (omega (arith, e))
from_two m (suc zero) h e = absurd (omega (arith, e))
from_two m (suc (suc j)) h e =
    let place : j + 2 ≡ suc (suc j) = omega arith in
    (j, omega arith, sym (moved_up m 2 j h (lit≤ tt)) ∙ ap (bit_at (moved m 2)) place ∙ e)

-- how a continuation byte is covered
abbrev IsAfter : ℕ → ℕ → ℕ → Type 0
IsAfter two three k = ((j : ℕ) × (k ≡ j + 1) × ((bit_at two j ≡ 1) ⊎ (bit_at three j ≡ 1)))
    ⊎ ((j : ℕ) × (k ≡ j + 2) × (bit_at three j ≡ 1))

-- how a byte is covered
abbrev IsCovered : ℕ → ℕ → ℕ → ℕ → Type 0
IsCovered one two three k = (bit_at one k ≡ 1) ⊎ ((bit_at two k ≡ 1) ⊎ ((bit_at three k ≡ 1) ⊎ IsAfter two three k))

cover_one : (one two three k : ℕ) → two < 2 ^ 16 → three < 2 ^ 16 → bit_at (moved (bit_or two three) 1) k ≡ 1
    → IsCovered one two three k
cover_one one two three k h l e =
    let p = from_one (bit_or two three) k (or_lt 16 two three h l) e in
    inr (inr (inr (inl (p.0, p.1, in_either two three p.0 p.2))))

cover_lowest : (one two three k : ℕ) → (bit_at one k ≡ 1) ⊎ (bit_at two k ≡ 1) → IsCovered one two three k
cover_lowest one two three k (inl e) = inl e
cover_lowest one two three k (inr e) = inr (inl e)

cover_low : (one two three k : ℕ) → (bit_at (bit_or one two) k ≡ 1) ⊎ (bit_at three k ≡ 1) → IsCovered one two three k
cover_low one two three k (inr e) = inr (inr (inl e))
cover_low one two three k (inl e) = cover_lowest one two three k (in_either one two k e)

cover_most : (one two three k : ℕ) → two < 2 ^ 16 → three < 2 ^ 16 → (bit_at (bit_or (bit_or one two) three) k ≡ 1)
    ⊎ (bit_at (moved (bit_or two three) 1) k ≡ 1) → IsCovered one two three k
cover_most one two three k h l (inl e) = cover_low one two three k (in_either (bit_or one two) three k e)
cover_most one two three k h l (inr e) = cover_one one two three k h l e

cover_all : (one two three k : ℕ) → two < 2 ^ 16 → three < 2 ^ 16 → (bit_at (bit_or (bit_or (bit_or one two) three)
    (moved (bit_or two three) 1)) k ≡ 1) ⊎ (bit_at (moved three 2) k ≡ 1) → IsCovered one two three k
cover_all one two three k h l (inl e) =
    cover_most one two three k h l (in_either (bit_or (bit_or one two) three) (moved (bit_or two three) 1) k e)
cover_all one two three k h l (inr e) = inr (inr (inr (inr (from_two three k l e))))

cover : (one two three k : ℕ) → two < 2 ^ 16 → three < 2 ^ 16 → bit_at (covered one two three) k ≡ 1
    → IsCovered one two three k
cover one two three k h l e = cover_all one two three k h l
    (in_either (bit_or (bit_or (bit_or one two) three) (moved (bit_or two three) 1)) (moved three 2) k e)

-- the byte after a marked first byte of two or three is covered
next_covered : (one two three k : ℕ) → two < 2 ^ 16 → three < 2 ^ 16 → bit_at (bit_or two three) k ≡ 1
    → bit_at (covered one two three) (k + 1) ≡ 1
next_covered one two three k h l e = left_in (bit_or (bit_or (bit_or one two) three) (moved (bit_or two three) 1))
    (moved three 2) (k + 1) (right_in (bit_or (bit_or one two) three) (moved (bit_or two three) 1) (k + 1)
    (moved_up (bit_or two three) 1 k (or_lt 16 two three h l) (lit≤ tt) ∙ e))

last_covered : (one two three k : ℕ) → three < 2 ^ 16 → bit_at three k ≡ 1 → bit_at (covered one two three) (k + 2) ≡ 1
last_covered one two three k l e = right_in (bit_or (bit_or (bit_or one two) three) (moved (bit_or two three) 1))
    (moved three 2) (k + 2) (moved_up three 2 k l (lit≤ tt) ∙ e)

not_there : (m used k : ℕ) → bit_at m used ≡ 0 → bit_at m k ≡ 1 → k ≡ used → ⊥
not_there m used k e f g = omega (arith, e, sym (ap (bit_at m) g) ∙ f)

up : (a b : ℕ) → a < b ⊎ b ≤ a → suc a < suc b ⊎ suc b ≤ suc a
up a b (inl h) = inl (omega arith)
up a b (inr h) = inr (omega arith)

-- a number is below another or not
pub lt_or_le : (a b : ℕ) → a < b ⊎ b ≤ a
lt_or_le zero zero = inr (omega arith)
lt_or_le zero (suc b) = inl (omega arith)
lt_or_le (suc a) zero = inr (omega arith)
lt_or_le (suc a) (suc b) = up a b (lt_or_le a b)

further : (m used k : ℕ) → bit_at m used ≡ 0 → bit_at m k ≡ 1 → k ≤ used → k < used ⊎ used ≤ k → k < used
further m used k e f h (inl l) = l
further m used k e f h (inr l) = absurd (not_there m used k e f (omega arith))

goes_on : (m used k : ℕ) → bit_at m used ≡ 0 → bit_at m (k + 1) ≡ 1 → k < used → k + 1 < used
goes_on m used k e f h = further m used (k + 1) e f (omega arith) (lt_or_le (k + 1) used)

-- a byte in the range is a continuation byte
pub tail_behind : (x : ℕ) → (0x80 ≤ x) × (x ≤ 0xbf) → is_continuation x ≡ true
tail_behind x p = lt-ltb _ _ (omega (arith, p.0, p.1))

-- a continuation byte is in the range
pub behind_range : (x : ℕ) → x < 256 → is_continuation x ≡ true → (0x80 ≤ x) × (x ≤ 0xbf)
behind_range x h e =
    let near : (x + (256 - 0x80)) % 256 < 0x40 = ltb-true _ _ e in
    (omega arith, omega arith)

-- no test is both true and false
pub clash : (b : Bool) → b ≡ true → b ≡ false → ⊥
clash true e f = cc
clash false e f = cc

-- a byte that is covered after a first byte is a continuation byte
after_behind : (text : List ℕ) (at two three k : ℕ) → AreMarks (IsTwoAt text) at two
    → AreMarks (IsThreeAt text) at three → IsAfter two three k → is_continuation (get_or text (at + k) 0) ≡ true
after_behind text at two three k q r (inl (j, e, inl f)) =
    let t = q.1 j (place_lt two j q.0 f (lt_or_le j 16)) f in
    let place : at + k ≡ at + j + 1 = omega arith in
    rw place (tail_behind (get_or text (at + j + 1) 0) t.2)
after_behind text at two three k q r (inl (j, e, inr f)) =
    let t = r.1 j (place_lt three j r.0 f (lt_or_le j 16)) f in
    let place : at + k ≡ at + j + 1 = omega arith in
    rw place (tail_behind (get_or text (at + j + 1) 0) t.2)
after_behind text at two three k q r (inr (j, e, f)) =
    let t = r.1 j (place_lt three j r.0 f (lt_or_le j 16)) f in
    let place : at + k ≡ at + j + 2 = omega arith in
    rw place (tail_behind (get_or text (at + j + 2) 0) t.3)

of_first : (text : List ℕ) (at one two three used k : ℕ) → AreMarks (IsOneAt text) at one
    → AreMarks (IsTwoAt text) at two → AreMarks (IsThreeAt text) at three → bit_at (covered one two three) used ≡ 0
    → k < used → is_continuation (get_or text (at + k) 0) ≡ false → IsCovered one two three k
    → IsOneAt text (at + k) ⊎ ((IsTwoAt text (at + k) × (k + 2 ≤ used)) ⊎ (IsThreeAt text (at + k) × (k + 3 ≤ used)))
of_first text at one two three used k p q r z h b (inl e) = inl (p.1 k (place_lt one k p.0 e (lt_or_le k 16)) e)
of_first text at one two three used k p q r z h b (inr (inl e)) =
    let l = goes_on (covered one two three) used k z (next_covered one two three k q.0 r.0 (left_in two three k e)) h in
    inr (inl (q.1 k (place_lt two k q.0 e (lt_or_le k 16)) e, omega arith))
of_first text at one two three used k p q r z h b (inr (inr (inl e))) =
    let l =
    goes_on (covered one two three) used k z (next_covered one two three k q.0 r.0 (right_in two three k e)) h in
    let m : k + 2 < used = further (covered one two three) used (k + 2) z (last_covered one two three k r.0 e)
    (omega arith) (lt_or_le (k + 2) used) in
    inr (inr (r.1 k (place_lt three k r.0 e (lt_or_le k 16)) e, omega arith))
of_first text at one two three used k p q r z h b (inr (inr (inr a))) =
    absurd (clash _ (after_behind text at two three k q r a) b)

-- a marked first byte is no continuation byte
not_first : (text : List ℕ) (at one two three k : ℕ) → AreMarks (IsOneAt text) at one → AreMarks (IsTwoAt text) at two
    → AreMarks (IsThreeAt text) at three → get_or text (at + k) 0 < 256 → is_continuation (get_or text (at + k) 0)
    ≡ true → ((bit_at one k ≡ 1) ⊎ (bit_at two k ≡ 1)) ⊎ (bit_at three k ≡ 1) → ⊥
not_first text at one two three k p q r h b (inl (inl e)) =
    let s = behind_range (get_or text (at + k) 0) h b in
    let t = p.1 k (place_lt one k p.0 e (lt_or_le k 16)) e in
    omega (arith, s.0)
not_first text at one two three k p q r h b (inl (inr e)) =
    let s = behind_range (get_or text (at + k) 0) h b in
    let t = q.1 k (place_lt two k q.0 e (lt_or_le k 16)) e in
    omega (arith, s.1, t.0)
not_first text at one two three k p q r h b (inr e) =
    let s = behind_range (get_or text (at + k) 0) h b in
    let t = r.1 k (place_lt three k r.0 e (lt_or_le k 16)) e in
    omega (arith, s.1, t.0)

in_firsts : (one two three k : ℕ) → (bit_at (bit_or one two) k ≡ 1) ⊎ (bit_at three k ≡ 1)
    → ((bit_at one k ≡ 1) ⊎ (bit_at two k ≡ 1)) ⊎ (bit_at three k ≡ 1)
in_firsts one two three k (inl e) = inl (in_either one two k e)
in_firsts one two three k (inr e) = inr e

zero_unless : (n : ℕ) → n < 2 → (n ≡ 1 → ⊥) → n ≡ 0
zero_unless zero h f = refl
zero_unless (suc zero) h f = absurd (f refl)
zero_unless (suc (suc n)) h f = absurd (omega arith)

-- which covered bytes are first bytes
first_is : (text : List ℕ) (at one two three k : ℕ) (b : Bool) → AreMarks (IsOneAt text) at one → AreMarks
    (IsTwoAt text) at two → AreMarks (IsThreeAt text) at three → get_or text (at + k) 0 < 256 → is_continuation
    (get_or text (at + k) 0) ≡ b → IsCovered one two three k → bit_at (firsts one two three) k ≡ cond b 0 1
first_is text at one two three k true p q r h b is = zero_unless _ (bit_at-lt (firsts one two three) k) (λ e.
    not_first text at one two three k p q r h b (in_firsts one two three k (in_either (bit_or one two) three k e)))
first_is text at one two three k false p q r h b (inl e) = left_in (bit_or one two) three k (left_in one two k e)
first_is text at one two three k false p q r h b (inr (inl e)) = left_in (bit_or one two) three k (right_in one two k e)
first_is text at one two three k false p q r h b (inr (inr (inl e))) = right_in (bit_or one two) three k e
first_is text at one two three k false p q r h b (inr (inr (inr a))) =
    absurd (clash _ (after_behind text at two three k q r a) b)

of_behind : (text : List ℕ) (at one two three k : ℕ) → AreMarks (IsOneAt text) at one → AreMarks (IsTwoAt text) at two
    → AreMarks (IsThreeAt text) at three → get_or text (at + k) 0 < 256
    → is_continuation (get_or text (at + k) 0) ≡ true → IsCovered one two three k → IsFollowing text at k
of_behind text at one two three k p q r h b (inl e) =
    let s = behind_range (get_or text (at + k) 0) h b in
    let t = p.1 k (place_lt one k p.0 e (lt_or_le k 16)) e in
    absurd (omega (arith, s.0))
of_behind text at one two three k p q r h b (inr (inl e)) =
    let s = behind_range (get_or text (at + k) 0) h b in
    let t = q.1 k (place_lt two k q.0 e (lt_or_le k 16)) e in
    absurd (omega (arith, s.1, t.0))
of_behind text at one two three k p q r h b (inr (inr (inl e))) =
    let s = behind_range (get_or text (at + k) 0) h b in
    let t = r.1 k (place_lt three k r.0 e (lt_or_le k 16)) e in
    absurd (omega (arith, s.1, t.0))
of_behind text at one two three k p q r h b (inr (inr (inr (inl (j, e, inl f))))) =
    inl (j, e, (q.1 j (place_lt two j q.0 f (lt_or_le j 16)) f).0)
of_behind text at one two three k p q r h b (inr (inr (inr (inl (j, e, inr f))))) =
    let t = r.1 j (place_lt three j r.0 f (lt_or_le j 16)) f in
    inl (j, e, omega (arith, t.0))
of_behind text at one two three k p q r h b (inr (inr (inr (inr (j, e, f))))) =
    let t = r.1 j (place_lt three j r.0 f (lt_or_le j 16)) f in
    inr (j, e, t.0, tail_behind (get_or text (at + j + 1) 0) t.2)

of_over : (text : List ℕ) (at one two three k : ℕ) → AreMarks (IsOneAt text) at one → AreMarks (IsTwoAt text) at two
    → AreMarks (IsThreeAt text) at three → 16 ≤ k → IsCovered one two three k
    → is_continuation (get_or text (at + k) 0) ≡ true
of_over text at one two three k p q r h (inl e) = let l = place_lt one k p.0 e (lt_or_le k 16) in absurd (omega arith)
of_over text at one two three k p q r h (inr (inl e)) = let l = place_lt two k q.0 e (lt_or_le k 16) in
    absurd (omega arith)
of_over text at one two three k p q r h (inr (inr (inl e))) = let l = place_lt three k r.0 e (lt_or_le k 16) in
    absurd (omega arith)
of_over text at one two three k p q r h (inr (inr (inr a))) = after_behind text at two three k q r a

covered_lt : (one two three : ℕ) → one < 2 ^ 16 → two < 2 ^ 16 → three < 2 ^ 16 → covered one two three < 2 ^ 18
covered_lt one two three h k l =
    let low : bit_or (bit_or one two) three < 2 ^ 16 = or_lt 16 (bit_or one two) three (or_lt 16 one two h k) l in
    let middle : bit_or (bit_or (bit_or one two) three) (moved (bit_or two three) 1) < 2 ^ 18 =
    or_lt 18 (bit_or (bit_or one two) three) (moved (bit_or two three) 1) (omega arith)
    (moved_lt (bit_or two three) 1 (or_lt 16 two three k l) (lit≤ tt)) in
    or_lt 18 (bit_or (bit_or (bit_or one two) three) (moved (bit_or two three) 1)) (moved three 2) middle
    (moved_lt three 2 l (lit≤ tt))

at_most : (m used : ℕ) → m < 2 ^ 18 → ((i : ℕ) → i < used → bit_at m i ≡ 1) → 18 < used ⊎ used ≤ 18 → used ≤ 18
at_most m used h set (inl l) = absurd (omega (arith, set 18 l, bit_at_above m 18 18 h (lit≤ tt)))
at_most m used h set (inr l) = l

-- up to the first byte that is not covered the characters are complete
pub whole_of_marks : (text : List ℕ) (at one two three used : ℕ) → ((i : ℕ) → Fits w8 (get_or text i 0))
    → AreMarks (IsOneAt text) at one → AreMarks (IsTwoAt text) at two → AreMarks (IsThreeAt text) at three
    → used ≡ trailing_ones w64 (covered one two three) → AreComplete text at used
whole_of_marks text at one two three used fits p q r e =
    let m : ℕ = covered one two three in
    let small : m < 2 ^ 18 = covered_lt one two three p.0 q.0 r.0 in
    let ones = bit_at-trailing_ones w64 m (omega arith) in
    let stop : bit_at m used ≡ 0 = rw e ones.1 in
    let set : (i : ℕ) → i < used → bit_at m i ≡ 1 = λ i l. ones.2 i (rw e at l) in
    let is : (i : ℕ) → i < used → IsCovered one two three i = λ i l. cover one two three i q.0 r.0 (set i l) in
    record {
      most = at_most m used small set (lt_or_le 18 used);
      firsts = λ k l h b. of_first text at one two three used k p q r stop h b (is k h);
      over = λ k l h. of_over text at one two three k p q r l (is k h);
      behind = λ k h b. of_behind text at one two three k p q r (fits (at + k)).fits b (is k h);
    }

-- in complete characters the marked bytes are those that begin one
pub firsts_of_marks : (text : List ℕ) (at one two three used k : ℕ) → ((i : ℕ) → Fits w8 (get_or text i 0))
    → AreMarks (IsOneAt text) at one → AreMarks (IsTwoAt text) at two → AreMarks (IsThreeAt text) at three
    → used ≡ trailing_ones w64 (covered one two three) → k < used
    → bit_at (firsts one two three) k ≡ cond (is_continuation (get_or text (at + k) 0)) 0 1
firsts_of_marks text at one two three used k fits p q r e h =
    let m : ℕ = covered one two three in
    let small : m < 2 ^ 18 = covered_lt one two three p.0 q.0 r.0 in
    let set = (bit_at-trailing_ones w64 m (omega arith)).2 k (rw e at h) in
    first_is text at one two three k (is_continuation (get_or text (at + k) 0)) p q r (fits (at + k)).fits refl
    (cover one two three k q.0 r.0 set)
