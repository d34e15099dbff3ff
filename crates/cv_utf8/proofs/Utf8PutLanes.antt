-- Lanes that are written to a buffer.
use Rattle.std.proofs.Common.{◌≡◌, ℕ, ◌+◌, ◌<◌, ◌≤◌, List, ◌++◌, length, take, get_or, refl, ◌∙◌, ap, arith, Fits, w8}
use Rattle.std.proofs.Common.{inl, inr, append_assoc, length-append}
use Rattle.std.proofs.lemmas.List.{length-take-le}
use Rattle.cv_base.specs.Scalars.{IsScalar}
use Rattle.cv_block.specs.StatelessForms.{IsReadForm}
use Rattle.cv_utf8.specs.Utf16Lanes.{lane_characters, AreRead}
use Rattle.cv_utf8.specs.Utf8.{utf8_bytes}
use Rattle.cv_utf8.specs.declared.read.utf16_lanes.Utf16Lanes.{Utf16Lanes}
use Rattle.cv_utf8.specs.Private.Utf8Short.{short_of, short_value}
use Rattle.cv_utf8.specs.Private.Utf8Threes.{AreThrees, IsThreeOf}
use Rattle.cv_utf8.specs.Private.Utf8Windows.{whole_of, whole_value}
use Rattle.cv_utf8.proofs.Utf8PutStarting.{front_kept}

-- the characters of both parts are after the first n of a buffer
pub lanes_put : (text : List ℕ) (at : ℕ) (units : Utf16Lanes) (before mid after : List ℕ) (n : ℕ)
    → AreRead text at units → length units.first ≡ 8 → length units.second ≡ 8 → n + 16 ≤ length before
    → length mid ≡ length before → length after ≡ length mid → take (n + 8) mid ≡ take n before ++ units.first
    → take (n + units.firsts + 8) after ≡ take (n + units.firsts) mid ++ units.second
    → IsReadForm utf8_bytes text at before n (record { n = units.firsts + units.seconds; used = units.used }) after
lanes_put text at units before mid after n is long also room size sizes stand stands =
    let x : List ℕ = take units.firsts units.first in
    let y : List ℕ = take units.seconds units.second in
    let a = front_kept before mid units.first x n units.firsts (omega (arith, room)) is.few stand refl in
    let b = front_kept mid after units.second y (n + units.firsts) units.seconds
    (omega (arith, room, size, is.few)) is.others stands refl in
    let place : n + (units.firsts + units.seconds) ≡ n + units.firsts + units.seconds = omega arith in
    record {
      characters = lane_characters units;
      scalars = is.scalars;
      begins = is.begins;
      uses = is.uses;
      counts = omega (
        arith,
        length-append x y,
        length-take-le units.firsts units.first (omega (arith, is.few, long)),
        length-take-le units.seconds units.second (omega (arith, is.others, also)),
      );
      stand = ap (λ i. take i after) place ∙ b ∙ ap (λ (l : List ℕ). l ++ y) a ∙ append_assoc (take n before) x y;
      fits = omega (arith, room, is.few, is.others);
      size = sizes ∙ size;
    }

three_scalar : (a b c n : ℕ) → IsThreeOf a b c n → IsScalar n
three_scalar a b c n h = elim h [ inl e ↦ rw e (omega arith, λ p. omega arith) | inr p ↦ p.0 ]

-- numbers of characters of three bytes are scalar values, as 0 is
pub threes_scalar : (text : List ℕ) (at : ℕ) (numbers : List ℕ) → AreThrees text at numbers 8 → (k : ℕ) → k < 8
    → IsScalar (get_or numbers k 0)
threes_scalar text at numbers are k h = three_scalar _ _ _ _ (are k h)

short_scalar : (x y : ℕ) → x < 256 → y < 256 → IsScalar (short_of x y)
short_scalar x y h l = grind arith

whole_scalar : (x y z : ℕ) → x < 256 → y < 256 → z < 256 → IsScalar (whole_of x y z)
whole_scalar x y z h l m = grind arith

-- the numbers that windows compute are scalar values, whatever the bytes are
pub short_value_scalar : (text : List ℕ) (at : ℕ) → ((i : ℕ) → Fits w8 (get_or text i 0))
    → IsScalar (short_value text at)
short_value_scalar text at fits = short_scalar _ _ (fits at).fits (fits (at + 1)).fits

pub whole_value_scalar : (text : List ℕ) (at : ℕ) → ((i : ℕ) → Fits w8 (get_or text i 0))
    → IsScalar (whole_value text at)
whole_value_scalar text at fits = whole_scalar _ _ _ (fits at).fits (fits (at + 1)).fits (fits (at + 2)).fits
