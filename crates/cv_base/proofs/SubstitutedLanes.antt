-- Characters that are written as one byte each, with `?` for others, as vectors compute it.
use Rattle.std.proofs.Common.{◌≡◌, ℕ, ◌+◌, ◌-◌, ◌%◌, ◌^◌, ◌<◌, ◌≤◌, Bool, true, false, cond, Fits, SFits, to_z, of_z}
use Rattle.std.proofs.Common.{List, [], ◌∷◌, ◌++◌, length, take, drop, map, refl, sym, ◌∙◌, ap, subst, arith, rules}
use Rattle.std.proofs.Common.{append_assoc, count_ones, suc, zero, Some, inl, inr, w8, w32}
use Rattle.std.specs.Prelude.{replicate}
use Rattle.std.specs.List.{count_by}
use Rattle.std.specs.Simd.Lanes.{mask_l, top, zip2, sel_l, put_chunk, Each1}
use Rattle.std.proofs.Math.Dec.{leb, ltb}
use lib.Signed.{lt_z}
use Rattle.std.proofs.lemmas.Bool.{cases_lt, lt-ltb, le-ltb, le-leb, lt-leb}
use Rattle.std.proofs.lemmas.List.{length-map, drop-drop}
use Rattle.std.proofs.lemmas.List.Sums.{sum_by-cons}
use Rattle.std.proofs.lemmas.Simd.{mask_l-mod, ones-mask_l, put_chunk_is}
use Rattle.cv_base.specs.Scalars.{question}
use Rattle.cv_base.specs.Chains.{output, written, output_for}
use Rattle.cv_base.specs.Places.{IsOutput}
use Rattle.cv_base.specs.SingleBytes.{byte_writes}
use Rattle.cv_base.specs.declared.state.WriteState.TheVariants as write

-- the byte of a character, or `?` from the limit on
abbrev byte_for : ℕ → ℕ → ℕ
byte_for limit c = cond (leb limit c) question c

-- for how many characters `?` is written
abbrev lacking : ℕ → List ℕ → ℕ
lacking limit characters = count_by (leb limit) characters

-- what is written for one character
one_written : (limit c : ℕ) → question < limit → written (byte_writes limit) write.Start (Some c)
    ≡ output (byte_for limit c ∷ []) (cond (leb limit c) 1 0) write.Start
one_written limit c q = elim (cases_lt c limit) [
  | inl l ↦ rw (lt-ltb c limit l, lt-leb limit c l) refl
  | inr l ↦ rw (le-ltb c limit l, lt-ltb question limit q, le-leb limit c l) refl
]

-- what is written for characters
narrowed : (limit : ℕ) → question < limit → (characters : List ℕ) → output_for (byte_writes limit) write.Start
    characters ≡ output (map (byte_for limit) characters) (lacking limit characters) write.Start
narrowed limit q [] = refl
narrowed limit q (c ∷ characters) =
    rw (one_written limit c q, narrowed limit q characters) (ap (λ n. output (byte_for limit c
    ∷ map (byte_for limit) characters) n write.Start) (sym (sum_by-cons (λ x. cond (leb limit x) 1 0) c characters)))

-- a mask: the lanes that are below a limit have all bits set
abbrev below_all : ℕ → ℕ → List ℕ → List ℕ
below_all n limit xs = zip2 (λ a b. cond (ltb a b) 0xffffffff 0) xs (replicate n limit)

-- the same mask, made from the sign of each of its lanes: it is tested again before its lanes become bytes
abbrev pub small_all : ℕ → ℕ → List ℕ → List ℕ
small_all n limit xs =
    zip2 (λ a b. cond (lt_z (to_z w32 a) (to_z w32 b)) 0xffffffff 0) (below_all n limit xs) (replicate n 0)

-- which lanes are below a limit, by the lanes that became bytes
abbrev pub marks : ℕ → ℕ → List ℕ → List Bool
marks n limit xs = map (top 7) (map (λ a. of_z w8 (to_z w32 a)) (small_all n limit xs))

-- the minimum of each lane and another number
abbrev pub least_all : ℕ → ℕ → List ℕ → List ℕ
least_all n other xs = sel_l (map (top 31) (below_all n other xs)) xs (replicate n other)

-- the lanes that are written
abbrev pub bytes_in : ℕ → ℕ → List ℕ → List ℕ
bytes_in n limit xs = sel_l (marks n limit xs) (map (λ a. a) (least_all n (limit - 1) xs)) (replicate n question)

-- a lane of the mask that is made from signs, by whether it is set
abbrev small : Bool → ℕ
small b = cond (lt_z (to_z w32 (cond b 0xffffffff 0)) (to_z w32 0)) 0xffffffff 0

-- it fits a byte
small_fits : (b : Bool) → SFits w8 (to_z w32 (small b))
small_fits true = search rules
small_fits false = search rules

-- the lanes of a mask fit bytes
pub all_small : (n limit : ℕ) (xs : List ℕ) → length xs ≡ n → Each1 (λ a. SFits w8 (to_z w32 a)) (small_all n limit xs)
all_small zero limit [] e = tt
all_small zero limit (x ∷ xs) e = absurd (omega (arith, e))
all_small (suc n) limit [] e = absurd (omega (arith, e))
all_small (suc n) limit (x ∷ xs) e = (small_fits (ltb x limit), all_small n limit xs (omega (arith, e)))

-- as a byte it tells whether it is set
small_is : (b : Bool) → top 7 (of_z w8 (to_z w32 (small b))) ≡ b
small_is true = refl
small_is false = refl

-- a mark tells whether its lane is below the limit
marks_are : (n limit : ℕ) (xs : List ℕ) → length xs ≡ n → marks n limit xs ≡ map (λ x. ltb x limit) xs
marks_are zero limit [] e = refl
marks_are zero limit (x ∷ xs) e = absurd (omega (arith, e))
marks_are (suc n) limit [] e = absurd (omega (arith, e))
marks_are (suc n) limit (x ∷ xs) e = let head = small_is (ltb x limit) in
    let tail = marks_are n limit xs (omega (arith, e)) in (cc)

-- the minimum of two numbers, as vectors compute it
abbrev least : ℕ → ℕ → ℕ
least x other = cond (top 31 (cond (ltb x other) 0xffffffff 0)) x other

-- it is no more than the other
least_le : (x other : ℕ) → least x other ≤ other
least_le x other = elim (cases_lt x other) [
  | inl l ↦ rw (lt-ltb x other l) (omega arith)
  | inr l ↦ rw (le-ltb x other l) (omega arith)
]

-- the minimum of each lane and the last number below a limit is a byte
pub all_bytes : (n limit : ℕ) (xs : List ℕ) → question < limit → limit ≤ 256 → length xs ≡ n
    → Each1 (Fits w8) (least_all n (limit - 1) xs)
all_bytes zero limit [] q h e = tt
all_bytes zero limit (x ∷ xs) q h e = absurd (omega (arith, e))
all_bytes (suc n) limit [] q h e = absurd (omega (arith, e))
all_bytes (suc n) limit (x ∷ xs) q h e =
    (record { fits = omega (arith, least_le x (limit - 1)) }, all_bytes n limit xs q h (omega (arith, e)))

-- a number below a limit is no more than the last below it
least_below : (x limit : ℕ) → x < limit → least x (limit - 1) ≡ x
least_below x limit h = elim (cases_lt x (limit - 1)) [
  | inl l ↦ rw (lt-ltb x (limit - 1) l) refl
  | inr l ↦ rw (le-ltb x (limit - 1) l) (omega arith)
]

-- what is written for a lane is the byte of its character
byte_is : (x limit : ℕ)
    → cond (top 7 (of_z w8 (to_z w32 (small (ltb x limit))))) (least x (limit - 1)) question ≡ byte_for limit x
byte_is x limit = elim (cases_lt x limit) [
  | inl l ↦ rw (lt-ltb x limit l, lt-leb limit x l) (least_below x limit l)
  | inr l ↦ rw (le-ltb x limit l, le-leb limit x l) refl
]

-- the lanes that are written are the bytes of the characters
bytes_are : (n limit : ℕ) (xs : List ℕ) → length xs ≡ n → bytes_in n limit xs ≡ map (byte_for limit) xs
bytes_are zero limit [] e = refl
bytes_are zero limit (x ∷ xs) e = absurd (omega (arith, e))
bytes_are (suc n) limit [] e = absurd (omega (arith, e))
bytes_are (suc n) limit (x ∷ xs) e = let head = byte_is x limit in let tail = bytes_are n limit xs (omega (arith, e)) in
    (cc)

-- each character is below the limit, or `?` is written for it
counted : (limit : ℕ) (xs : List ℕ) → count_by (λ x. ltb x limit) xs + lacking limit xs ≡ length xs
counted limit [] = refl
counted limit (x ∷ xs) = elim (cases_lt x limit) [
  | inl l ↦ rw (
    sum_by-cons (λ x. cond (ltb x limit) 1 0) x xs,
    sum_by-cons (λ x. cond (leb limit x) 1 0) x xs,
    lt-ltb x limit l,
    lt-leb limit x l,
  ) (omega (arith, counted limit xs))
  | inr l ↦ rw (
    sum_by-cons (λ x. cond (ltb x limit) 1 0) x xs,
    sum_by-cons (λ x. cond (leb limit x) 1 0) x xs,
    le-ltb x limit l,
    le-leb limit x l,
  ) (omega (arith, counted limit xs))
]

-- `?` is written for each character that is not marked
marks_count : (limit : ℕ) (xs : List ℕ) → length xs ≡ 16
    → count_ones (mask_l (marks 16 limit xs) % 2 ^ 64) + lacking limit xs ≡ 16
marks_count limit xs long =
    let ones : count_ones (mask_l (marks 16 limit xs) % 2 ^ 64) ≡ count_by (λ x. ltb x limit) xs =
    ap (λ (ms : List Bool). count_ones (mask_l ms % 2 ^ 64)) (marks_are 16 limit xs long) ∙ ap count_ones
    (mask_l-mod (map (λ x. ltb x limit) xs) 64 (simp length-map (omega arith))) ∙ ones-mask_l (λ x. ltb x limit) xs in
    omega (arith, ones, counted limit xs)

-- there are sixteen marks at most
pub marks_few : (limit : ℕ) (xs : List ℕ) → length xs ≡ 16 → count_ones (mask_l (marks 16 limit xs) % 2 ^ 64) ≤ 16
marks_few limit xs long = omega (arith, marks_count limit xs long)

-- sixteen lanes that are put at an index are what is written for their characters
put_lanes : (limit : ℕ) (xs before : List ℕ) (at : ℕ) → question < limit → length xs ≡ 16 → at + 16 ≤ length before
    → IsOutput (output_for (byte_writes limit) write.Start xs) before at 16
    (16 - count_ones (mask_l (marks 16 limit xs) % 2 ^ 64)) write.Start (put_chunk at before (bytes_in 16 limit xs))
put_lanes limit xs before at q long room =
    let bytes : List ℕ = map (byte_for limit) xs in
    let wide : length bytes ≡ 16 = simp length-map long in
    let behind : drop (length bytes) (drop at before) ≡ drop (at + 16) before =
    ap (λ (n : ℕ). drop n (drop at before)) wide ∙ drop-drop 16 at before in
    let put : put_chunk at before bytes ≡ take at before ++ bytes ++ drop (at + 16) before = put_chunk_is at before
    bytes (omega (arith, wide, room)) ∙ ap (λ (x : List ℕ). take at before ++ (bytes ++ x)) behind
    ∙ sym (append_assoc (take at before) bytes (drop (at + 16) before)) in
    rw (narrowed limit q xs) (record {
      bytes =
          record { wrote = sym wide; fits = room; out = ap (put_chunk at before) (bytes_are 16 limit xs long) ∙ put };
      counts = omega (arith, marks_count limit xs long);
      next = refl;
    })

-- sixteen characters of a text are written at once
pub block_written : (limit : ℕ) (characters : List ℕ) (n : ℕ) (xs before : List ℕ) (at : ℕ) → question < limit
    → length xs ≡ 16 → xs ≡ take 16 (drop n characters) → at + 16 ≤ length before
    → IsOutput (output_for (byte_writes limit) write.Start (take 16 (drop n characters))) before at 16
    (16 - count_ones (mask_l (marks 16 limit xs) % 2 ^ 64)) write.Start (put_chunk at before (bytes_in 16 limit xs))
block_written limit characters n xs before at q long e room = subst (λ (l : List ℕ). IsOutput
    (output_for (byte_writes limit) write.Start l) before at 16 (16 - count_ones (mask_l (marks 16 limit xs) % 2 ^ 64))
    write.Start (put_chunk at before (bytes_in 16 limit xs))) e (put_lanes limit xs before at q long room)
