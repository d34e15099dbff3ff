-- Characters of UTF-8 that begin in sixteen lanes, one after the other.
use Rattle.std.proofs.Common.{◌≡◌, ℕ, ◌+◌, ◌/◌, ◌%◌, ◌<◌, ◌≤◌, Bool, true, false, cond, inl, inr, List, [], ◌∷◌, ◌++◌}
use Rattle.std.proofs.Common.{length, take, drop, get_or, refl, sym, ◌∙◌, ap, arith, zero, suc, append_assoc}
use Rattle.std.proofs.Common.{append-nil, length-append, length-take, subst}
use Rattle.std.specs.Int.{bit_at}
use Rattle.std.specs.List.{flat_map}
use Rattle.std.proofs.Math.Dec.{eqb}
use Rattle.std.proofs.lemmas.Grind.{flat_map-append}
use Rattle.std.proofs.Math.Seq.{take-append-add}
use Rattle.std.proofs.lemmas.List.{drop-drop, take-take}
use Rattle.std.proofs.lemmas.Simd.{get_or-chunk, length-chunk}
use Rattle.std.proofs.lemmas.Nat.Bits.{bit_at-suc, bit_at_lowest}
use Rattle.cv_base.specs.Items.{Begins}
use Rattle.cv_base.specs.Scalars.{AreScalars}
use Rattle.cv_base.proofs.Front.{Begins-join}
use Rattle.cv_block.specs.StatelessForms.{IsFormAt}
use Rattle.cv_block.proofs.FormRuns.{AreScalars-append}
use Rattle.cv_utf8.specs.Utf8.{utf8_bytes}
use Rattle.cv_simd.specs.Compressed.{kept}
use Rattle.cv_utf8.specs.Private.Utf8Windows.{IsLane, AreStarting}

-- The bytes of some characters, `used` together, are at an offset of a text.
abbrev pub IsRun : List ℕ → ℕ → List ℕ → ℕ → Type 0
IsRun text at cs used = AreScalars cs × Begins (flat_map utf8_bytes cs) (drop at text)
    × (used ≡ length (flat_map utf8_bytes cs))

one_more : (text cs : List ℕ) (at used c size : ℕ) → IsRun text at cs used → IsFormAt utf8_bytes text (at + used) c size
    → IsRun text at (cs ++ c ∷ []) (used + size)
one_more text cs at used c size p q =
    let front : List ℕ = flat_map utf8_bytes cs in
    let bytes : flat_map utf8_bytes (cs ++ c ∷ []) ≡ front ++ utf8_bytes c = flat_map-append utf8_bytes cs (c ∷ [])
    ∙ ap (λ (l : List ℕ). front ++ l) (append-nil (utf8_bytes c)) in
    let there : drop (at + used) text ≡ drop (length front) (drop at text) = ap (λ n. drop (at + n) text) p.2
    ∙ sym (drop-drop (length front) at text) in (
      AreScalars-append cs (c ∷ []) p.0 (q.0, tt),
      rw bytes (Begins-join front (utf8_bytes c) (drop at text) p.1 (rw there at q.1)),
      rw bytes (omega (arith, length-append front (utf8_bytes c), p.2, q.2)),
    )

bit_set : (m : ℕ) → eqb (m % 2) 1 ≡ true → bit_at m 0 ≡ 1
bit_set m h = grind (arith, bit_at_lowest m)

bit_unset : (m : ℕ) → eqb (m % 2) 1 ≡ false → bit_at m 0 ≡ 0
bit_unset m h = grind (arith, bit_at_lowest m)

-- lanes from an offset on, whose bits are those of a number
abbrev AreLanes : List ℕ → ℕ → List ℕ → ℕ → (ℕ → ℕ) → ℕ → Type 0
AreLanes text at vs m reach k = (j : ℕ) → j < length vs
    → IsLane text at (get_or vs j 0) (bit_at m j) (reach (k + j)) (reach (k + j + 1))

rest_are : (text : List ℕ) (at v : ℕ) (vs : List ℕ) (m : ℕ) (reach : ℕ → ℕ) (k : ℕ)
    → AreLanes text at (v ∷ vs) m reach k → AreLanes text at vs (m / 2) reach (k + 1)
rest_are text at v vs m reach k p j h =
    let here : k + suc j ≡ k + 1 + j = omega arith in
    rw (sym here, sym (bit_at-suc m j)) (p (suc j) (omega arith))

lane_more : (text cs : List ℕ) (at v s reached next : ℕ) (b : Bool) → IsRun text at cs reached → IsLane text at v s
    reached next → (b ≡ true → s ≡ 1) → (b ≡ false → s ≡ 0) → IsRun text at (cs ++ cond b (v ∷ []) []) next
lane_more text cs at v s reached next true p (inl q) one none = absurd (omega (arith, one refl, q.0))
lane_more text cs at v s reached next false p (inl q) one none = rw (append-nil, q.1) p
lane_more text cs at v s reached next true p (inr q) one none = rw (q.1.1) (one_more text cs at reached v q.1.0 p q.1.2)
lane_more text cs at v s reached next false p (inr q) one none = absurd (omega (arith, none refl, q.0))

kept_one : (b : Bool) (v : ℕ) (l : List ℕ) → cond b (v ∷ l) l ≡ cond b (v ∷ []) [] ++ l
kept_one true v l = refl
kept_one false v l = refl

all_lanes : (text cs : List ℕ) (at : ℕ) (vs : List ℕ) (m : ℕ) (reach : ℕ → ℕ) (k : ℕ) → IsRun text at cs (reach k)
    → AreLanes text at vs m reach k → IsRun text at (cs ++ kept m vs) (reach (k + length vs))
all_lanes text cs at [] m reach k r p =
    let end : k + 0 ≡ k = omega arith in
    rw (append-nil, end) r
all_lanes text cs at (v ∷ vs) m reach k r p =
    let b : Bool = eqb (m % 2) 1 in
    let here : k + 0 ≡ k = omega arith in
    let end : k + suc (length vs) ≡ k + 1 + length vs = omega arith in
    let lane = rw here at (p 0 (omega arith)) in
    let more = lane_more text cs at v (bit_at m 0) (reach k) (reach (k + 1)) b r lane (bit_set m) (bit_unset m) in
    let rest =
    all_lanes text (cs ++ cond b (v ∷ []) []) at vs (m / 2) reach (k + 1) more (rest_are text at v vs m reach k p) in
    let parts : cs ++ kept m (v ∷ vs) ≡ (cs ++ cond b (v ∷ []) []) ++ kept (m / 2) vs = ap (λ (l : List ℕ). cs ++ l)
    (kept_one b v (kept (m / 2) vs)) ∙ sym (append_assoc cs (cond b (v ∷ []) []) (kept (m / 2) vs)) in
    rw (parts, end) rest

-- ---- two halves

-- the lower half of sixteen
pub low_at : (xs : List ℕ) (k : ℕ) → k < 8 → get_or (take 8 (drop 0 xs)) k 0 ≡ get_or xs k 0
low_at xs k h =
    let place : 0 + k ≡ k = omega arith in
    get_or-chunk 0 8 xs k 0 h ∙ ap (λ i. get_or xs i 0) place

-- the higher half of sixteen
pub high_at : (xs : List ℕ) (k : ℕ) → k < 8 → get_or (take 8 (drop 0 (take 8 (drop 8 xs)))) k 0 ≡ get_or xs (8 + k) 0
high_at xs k h = low_at (take 8 (drop 8 xs)) k h ∙ get_or-chunk 8 8 xs k 0 h

-- ---- in a buffer

-- The kept characters are after the first n of the buffer. What follows them may be anything.
pub front_kept : (before after packed kept : List ℕ) (n c : ℕ) → n ≤ length before → c ≤ 8
    → take (n + 8) after ≡ take n before ++ packed → take c packed ≡ kept → take (n + c) after ≡ take n before ++ kept
front_kept before after packed kept n c room few stand is =
    let front : List ℕ = take n before in
    let long : length front ≡ n = simp length-take (omega arith) in
    let part : take (n + c) (take (n + 8) after) ≡ take (n + c) after = take-take (n + c) (n + 8) after (omega arith) in
    let both : take (n + c) (front ++ packed) ≡ front ++ take c packed =
    subst (λ (m : ℕ). take (m + c) (front ++ packed) ≡ front ++ take c packed) long (take-append-add front packed c) in
    sym part ∙ ap (take (n + c)) stand ∙ both ∙ ap (λ (l : List ℕ). front ++ l) is

-- the bits of the lower and of the higher half of sixteen
low_bits : (m j : ℕ) → j < 8 → bit_at (m % 256) j ≡ bit_at m j
low_bits m zero h = omega arith
low_bits m (suc (zero)) h = omega arith
low_bits m (suc (suc (zero))) h = omega arith
low_bits m (suc (suc (suc (zero)))) h = omega arith
low_bits m (suc (suc (suc (suc (zero))))) h = omega arith
low_bits m (suc (suc (suc (suc (suc (zero)))))) h = omega arith
low_bits m (suc (suc (suc (suc (suc (suc (zero))))))) h = omega arith
low_bits m (suc (suc (suc (suc (suc (suc (suc (zero)))))))) h = omega arith
low_bits m (suc (suc (suc (suc (suc (suc (suc (suc (j))))))))) h = absurd (omega arith)

high_bits : (m j : ℕ) → bit_at (m / 256) j ≡ bit_at m (8 + j)
high_bits m j =
    let halves : m / 2 / 2 / 2 / 2 / 2 / 2 / 2 / 2 ≡ m / 256 = omega arith in
    let place : 8 + j ≡ suc (suc (suc (suc (suc (suc (suc (suc (j)))))))) = omega arith in
    sym (ap (bit_at m) place ∙ bit_at-suc m (suc (suc (suc (suc (suc (suc (suc (j)))))))) ∙ bit_at-suc
    (m / 2) (suc (suc (suc (suc (suc (suc (j))))))) ∙ bit_at-suc (m / 2 / 2) (suc (suc (suc (suc (suc (j))))))
    ∙ bit_at-suc (m / 2 / 2 / 2) (suc (suc (suc (suc (j))))) ∙ bit_at-suc (m / 2 / 2 / 2 / 2) (suc (suc (suc (j))))
    ∙ bit_at-suc (m / 2 / 2 / 2 / 2 / 2) (suc (suc (j))) ∙ bit_at-suc (m / 2 / 2 / 2 / 2 / 2 / 2) (suc (j))
    ∙ bit_at-suc (m / 2 / 2 / 2 / 2 / 2 / 2 / 2) (j) ∙ ap (λ x. bit_at x j) halves)

low_lanes : (text : List ℕ) (at : ℕ)
    (numbers low : List ℕ) (starts_mask used : ℕ) (p : AreStarting text at numbers starts_mask used) → length low ≡ 8
    → ((k : ℕ) → k < 8 → get_or low k 0 ≡ get_or numbers k 0) → AreLanes text at low (starts_mask % 256) p.reach 0
low_lanes text at numbers low starts_mask used p long is j h =
    let here : 0 + j ≡ j = omega arith in
    let l : j < 8 = omega (arith, long) in
    rw (is j l, low_bits starts_mask j l, here) (p.lanes j (omega (arith, long)))

high_lanes : (text : List ℕ) (at : ℕ) (numbers high : List ℕ)
    (starts_mask used : ℕ) (p : AreStarting text at numbers starts_mask used) → length high ≡ 8 → ((k : ℕ) → k < 8
    → get_or high k 0 ≡ get_or numbers (8 + k) 0) → AreLanes text at high (starts_mask / 256) p.reach 8
high_lanes text at numbers high starts_mask used p long is j h =
    let l : j < 8 = omega (arith, long) in
    rw (is j l, high_bits starts_mask j) (p.lanes (8 + j) (omega (arith, long)))

-- the characters of both halves, one after the other
pub both_run : (text : List ℕ) (at : ℕ) (numbers low high : List ℕ) (starts_mask used : ℕ)
    (p : AreStarting text at numbers starts_mask used) → length low ≡ 8 → length high ≡ 8 → ((k : ℕ) → k < 8
    → get_or low k 0 ≡ get_or numbers k 0) → ((k : ℕ) → k < 8 → get_or high k 0 ≡ get_or numbers (8 + k) 0)
    → IsRun text at (kept (starts_mask % 256) low ++ kept (starts_mask / 256) high) used
both_run text at numbers low high starts_mask used p long also are these =
    let none : IsRun text at [] (p.reach 0) = (tt, tt, p.begins) in
    let first = all_lanes text [] at low (starts_mask % 256) p.reach 0 none
    (low_lanes text at numbers low starts_mask used p long are) in
    let middle : 0 + length low ≡ 8 = omega (arith, long) in
    let all = all_lanes text (kept (starts_mask % 256) low) at high (starts_mask / 256) p.reach 8 (rw middle at first)
    (high_lanes text at numbers high starts_mask used p also these) in
    let end : 8 + length high ≡ 16 = omega (arith, also) in
    rw (end, p.ends) at all

-- ---- what is true of all sixteen

-- Each of eight numbers is one of others.
abbrev AreAmong : List ℕ → List ℕ → Type 0
AreAmong chosen xs = (k : ℕ) → k < 8 → (j : ℕ) × (j < length xs) × (get_or chosen k 0 ≡ get_or xs j 0)

-- is true of those that are chosen from the lower half
pub low_all : (P : ℕ → Type 0) (numbers chosen : List ℕ) → length numbers ≡ 16
    → AreAmong chosen (take 8 (drop 0 numbers)) → ((k : ℕ) → k < 16 → P (get_or numbers k 0))
    → (k : ℕ) → k < 8 → P (get_or chosen k 0)
low_all P numbers chosen long among all k h =
    let one = among k h in
    let within : one.0 < 8 = omega (arith, one.1, length-chunk 0 8 numbers (omega (arith, long))) in
    subst P (sym (one.2 ∙ low_at numbers one.0 within)) (all one.0 (omega (arith, within)))

-- and from the higher half
pub high_all : (P : ℕ → Type 0) (numbers chosen : List ℕ) → length numbers ≡ 16
    → AreAmong chosen (take 8 (drop 0 (take 8 (drop 8 numbers))))
    → ((k : ℕ) → k < 16 → P (get_or numbers k 0)) → (k : ℕ) → k < 8 → P (get_or chosen k 0)
high_all P numbers chosen long among all k h =
    let one = among k h in
    let half : length (take 8 (drop 8 numbers)) ≡ 8 = length-chunk 8 8 numbers (omega (arith, long)) in
    let within : one.0 < 8 = omega (arith, one.1, length-chunk 0 8 (take 8 (drop 8 numbers)) (omega (arith, half))) in
    subst P (sym (one.2 ∙ high_at numbers one.0 within)) (all (8 + one.0) (omega (arith, within)))
