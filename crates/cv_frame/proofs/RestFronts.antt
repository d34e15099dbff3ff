-- What a rest begins with says whether more bytes can make a frame of it.
use Rattle.std.proofs.Common.{◌≡◌, ℕ, ◌+◌, ◌≤◌, Bool, true, false, ltb, List, ◌++◌, length, drop, refl, ap, arith, inl}
use Rattle.std.proofs.Common.{inr, ◌⊎◌}
use Rattle.std.specs.Prelude.{◌||◌, replicate}
use Rattle.std.specs.Int.{w32, from_be_bytes}
use Rattle.std.proofs.lemmas.Bool.{ltb-false, le-ltb, or_parts}
use Rattle.std.proofs.lemmas.List.{take-append-le, length-append, length-replicate}
use Rattle.cv_frame.specs.Cut.{u32_at, message_at, front_of, IsRest, CanBeWhole, IsFrontOfRest, OneCut}
use Rattle.cv_frame.specs.declared.reading.Frame.TheVariants.{Partial, Bad}
use Rattle.cv_frame.proofs.Cuts.{front_by, front_short, cut_is, cut_only}

-- whether a length is one that no frame has
abbrev pub is_bad : ℕ → Bool
is_bad k = ltb k 9 || ltb 1048576 k

-- bytes that follow do not change a length whose four bytes are there
number_more : (bytes more : List ℕ) → 4 ≤ length bytes → u32_at (bytes ++ more) ≡ u32_at bytes
number_more bytes more long = ap (from_be_bytes w32) (take-append-le 4 bytes more long)

-- If the length is good, more bytes can make a whole frame.
good_can : (bytes : List ℕ) → 4 ≤ length bytes → is_bad (u32_at bytes) ≡ false → CanBeWhole bytes
good_can bytes long good =
    let k : ℕ = u32_at bytes in
    let t = or_parts (ltb k 9) (ltb 1048576 k) good in
    let more : List ℕ = replicate (4 + k) 0 in
    record {
      more = more;
      message = message_at k (drop 4 (bytes ++ more));
      n = 4 + k;
      is_whole = front_by (bytes ++ more) k (number_more bytes more long) (ltb-false _ _ t.0) (ltb-false _ _ t.1)
          (omega (arith, length-append bytes more, length-replicate {A = ℕ} (4 + k) 0));
    }

-- Bytes that begin with a bad length are read as one, whatever follows.
bad_front : (bytes : List ℕ) (k : ℕ) → u32_at bytes ≡ k → 4 ≤ length bytes → is_bad k ≡ true → front_of bytes ≡ Bad k
unfolding front_of
bad_front bytes k is long bad =
    let t : ltb (length bytes) 4 ≡ false = le-ltb _ _ long in
    rw (is, t, bad) refl

bad_cannot : (bytes : List ℕ) → 4 ≤ length bytes → is_bad (u32_at bytes) ≡ true → ¬ CanBeWhole bytes
bad_cannot bytes long bad can =
    let other : front_of (bytes ++ can.more) ≡ Bad (u32_at bytes) = bad_front (bytes ++ can.more) (u32_at bytes)
    (number_more bytes can.more long) (omega (arith, length-append bytes can.more)) bad in
    let whole = can.is_whole in cc

-- A rest that begins with a good length is a part of a frame.
good_front : (bytes : List ℕ) → 4 ≤ length bytes → IsRest bytes → is_bad (u32_at bytes) ≡ false
    → front_of bytes ≡ Partial
unfolding front_of
good_front bytes long ends good =
    let k : ℕ = u32_at bytes in
    let t : ltb (length bytes) 4 ≡ false = le-ltb _ _ long in
    let g = or_parts (ltb k 9) (ltb 1048576 k) good in
    (elim (ltb (length bytes) (4 + k)) as (λ (b : Bool). ltb (length bytes) (4 + k) ≡ b → front_of bytes ≡ Partial) [
      | true ↦ λ (s : ltb (length bytes) (4 + k) ≡ true). rw (t, good, s) refl
      | false ↦ λ (s : ltb (length bytes) (4 + k) ≡ false). absurd (ends (message_at k (drop 4 bytes)) (4 + k)
          (front_by bytes k refl (ltb-false _ _ g.0) (ltb-false _ _ g.1) (ltb-false _ _ s)))
    ]) refl

-- what a rest begins with, by its length
by_length : (bytes : List ℕ) → 4 ≤ length bytes → IsRest bytes
    → ((front_of bytes ≡ Partial) × CanBeWhole bytes) ⊎ ((n : ℕ) × (front_of bytes ≡ Bad n) × ¬ CanBeWhole bytes)
by_length bytes long ends = (elim (is_bad (u32_at bytes)) as (λ (b : Bool). is_bad (u32_at bytes) ≡ b
    → ((front_of bytes ≡ Partial) × CanBeWhole bytes) ⊎ ((n : ℕ) × (front_of bytes ≡ Bad n) × ¬ CanBeWhole bytes)) [
      | true ↦ λ (e : is_bad (u32_at bytes) ≡ true).
          inr (u32_at bytes, bad_front bytes (u32_at bytes) refl long e, bad_cannot bytes long e)
      | false ↦ λ (e : is_bad (u32_at bytes) ≡ false). inl (good_front bytes long ends e, good_can bytes long e)
    ]) refl

front_of_rest : (bytes : List ℕ) → IsRest bytes → IsFrontOfRest bytes
front_of_rest bytes ends = record {
  short = front_short bytes;
  part = λ long. elim (by_length bytes long ends) [
    | inl p ↦ ((λ _. p.1), (λ _. p.0))
    | inr p ↦ ((λ (h : front_of bytes ≡ Partial). let g = p.1 in cc), (λ can. absurd (p.2 can)))
  ];
  bad = λ long. elim (by_length bytes long ends) [
    | inl p ↦ (
      (λ (h : (n : ℕ) × (front_of bytes ≡ Bad n)). let g = p.0 in let k = h.1 in absurd cc),
      (λ cannot. absurd (cannot p.1)),
    )
    | inr p ↦ ((λ _. p.2), (λ _. (p.0, p.1)))
  ];
}

-- every byte string has exactly one cut
pub one_cut : OneCut
one_cut = record { some = cut_is; one = cut_only; rest = front_of_rest }
