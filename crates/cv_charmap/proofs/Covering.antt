-- Entries that are known to be in the list stay in it, and are skipped.
use Rattle.std.proofs.Common.{◌≡◌, ℕ, zero, suc, ◌+◌, ◌-◌, ◌<◌, ◌≤◌, Bool, true, false, List, [], ◌∷◌, ◌++◌, length}
use Rattle.std.proofs.Common.{take, drop, append-nil, get_or, refl, sym, subst, ◌∙◌, ap, arith, inl, inr, length-take}
use Rattle.std.specs.Prelude.{Ok, Err, None, max, slice_set}
use Rattle.std.proofs.Math.Bool.{beq}
use Rattle.std.proofs.lemmas.Bool.{cases_lt, cases_eq}
use Rattle.std.proofs.lemmas.List.{get_or-take, get_or_push, get_or_append_left, length-append, get_or-set_same}
use Rattle.std.proofs.lemmas.List.{get_or-set_other, length-set, get_or-replicate, length-replicate, take_all, drop_all}
use Rattle.std.proofs.Math.ListN.{replicate}
use Rattle.std.proofs.Math.Seq.{get_or-append_right}
use Rattle.cv_byte_trie.specs.Entries.{bytes_at, AreApart}
use Rattle.cv_charmap.specs.Entries.{Pair, entry_at}
use Rattle.cv_charmap.specs.Lists.{entered, pair_cause}
use Rattle.cv_charmap.specs.Private.Covers.{pair_at, HasEntry, HasEntries, covered_at, AreCovered, no_run, IsFound}
use Rattle.cv_charmap.specs.Private.Covers.{AreFound, IsPairList}
use Rattle.cv_charmap.specs.Private.Runs.{run_entries, entries_from}
use Rattle.cv_charmap.specs.declared.covered.Covered.{Covered}
use Rattle.cv_charmap.specs.declared.covered.LookedUp.{LookedUp}
use Rattle.cv_charmap.proofs.Counting.{counted_on}
use Rattle.cv_charmap.specs.Private.Seen.{Enters, Passes, PassesOn}
use Rattle.cv_charmap.specs.declared.pair_list.EntryFault.{EntryFault}
use Rattle.cv_charmap.specs.declared.pair_list.EntryFault.TheVariants.{Faulty, Memory}
use Rattle.cv_charmap.proofs.EntryLemmas.{goes_on, range_ends, stops_at_pair}
use Rattle.cv_charmap.proofs.Meeting.{held_again}

-- ---- a list that grows

module _ (all new : List Pair) (stay : take (length all) new ≡ all) where
  -- the list is not shorter
  pub no_shorter : length all ≤ length new
  no_shorter = (let e = ap length stay in omega (arith, length-take (length all) new))

  -- a pair stays at its index
  pub pair_stays : (k : ℕ) → k < length all → pair_at new k ≡ pair_at all k
  pair_stays k low = sym (get_or-take (length all) new k ([], 0) low) ∙ ap (λ (x : List Pair). get_or x k ([], 0)) stay

  -- an entry that is in the old list is in the new one
  pub entry_stays : (hex : Bool) (first : ℕ) (bytes : List ℕ) (i : ℕ) → HasEntry all hex first bytes i
      → HasEntry new hex first bytes i
  entry_stays hex first bytes i h = (
    h.0,
    (let l = no_shorter in let m = h.1 in omega arith),
    h.2 ∙ ap (λ (x : Pair). Ok x) (sym (pair_stays h.0 h.1)),
  )

  -- what is known of the old list is known of the new one
  pub covered_stays : (notes : List Covered) → length notes ≤ length all → AreCovered all notes → AreCovered new notes
  covered_stays notes within c index low i less =
      let r = covered_at notes index in
      let bytes : bytes_at new index ≡ bytes_at all index = ap (λ (x : Pair). x.0) (pair_stays index (omega arith)) in
      subst (λ (b : List ℕ). HasEntry new r.hex r.number b i) (sym bytes)
      (entry_stays r.hex r.number (bytes_at all index) i (c index low i less))

  run_stays : (hex : Bool) (first : ℕ) (bytes : List ℕ) (end last : ℕ) (run : LookedUp) → end ≤ last
      → IsFound all hex first bytes end run → IsFound new hex first bytes last run
  run_stays hex first bytes end last run more s = (
    (let a = s.0 in omega arith),
    λ j less. (let h = s.1 j less in
        let l = no_shorter in
        let b = h.0 in
        (omega arith, h.1 ∙ ap (λ (x : Pair). Ok x) (sym (pair_stays (run.index + j) h.0)))),
  )

  -- entries that were entered or found stay at their indices
  pub found_stay : (hex : Bool) (first : ℕ) (bytes : List ℕ) (end last : ℕ) (found : List LookedUp) → end ≤ last
      → AreFound all hex first bytes end found → AreFound new hex first bytes last found
  found_stay hex first bytes end last found more s k low =
      run_stays hex first bytes end last (get_or found k no_run) more (s k low)

-- ---- entries that are in the list

-- the entries of a range from the one on whose pair is at an index
pub has_from : (all : List Pair) (hex : Bool) (first : ℕ) (bytes : List ℕ) (i index number known : ℕ) → entry_at hex
    first bytes i ≡ Ok (pair_at all index) → number ≡ first + i → HasEntries all hex number (bytes_at all index) known
    → (k : ℕ) → i ≤ k → k < i + known → HasEntry all hex first bytes k
has_from all hex first bytes i index number known e is has k from low =
    let h = has (k - i) (omega arith) in
    let same : entry_at hex number (bytes_at all index) (k - i) ≡ entry_at hex first bytes k =
    counted_on hex first bytes i (pair_at all index) e number (k - i) is
    ∙ ap (entry_at hex first bytes) (let m : i + (k - i) ≡ k = omega arith in m) in
    (h.0, h.1, sym same ∙ h.2)

-- a run skips them
pub skips : (all : List Pair) → AreApart all → (hex : Bool) (first : ℕ) (bytes : List ℕ) (count n m i : ℕ) → ((k : ℕ)
    → i ≤ k → k < i + m → HasEntry all hex first bytes k) → run_entries all n (entries_from hex first bytes i count)
    ≡ run_entries all n (entries_from hex first bytes (i + m) count)
skips all apart hex first bytes count n zero i has =
    ap (λ (x : ℕ). run_entries all n (entries_from hex first bytes x count)) (let e : i ≡ i + 0 = omega arith in e)
skips all apart hex first bytes count n (suc m) i has =
    let rest = skips all apart hex first bytes count n m (i + 1) (λ k from low. has k (omega arith) (omega arith)) in
    let last : run_entries all n (entries_from hex first bytes (i + 1 + m) count) ≡ run_entries all n (entries_from hex
    first bytes (i + suc m) count) = ap (λ (x : ℕ). run_entries all n (entries_from hex first bytes x count))
    (let e : i + 1 + m ≡ i + suc m = omega arith in e) in
    elim (cases_lt i count) [
      | inl lt ↦ (
          let h = has i (omega arith) (omega arith) in
          let q = pair_at all h.0 in
          let again = held_again all q apart h.0 h.1 refl refl in
          goes_on hex first bytes i count lt all n q h.2 again.0
          ∙ ap (λ (x : List Pair). run_entries x n (entries_from hex first bytes (i + 1) count)) again.1 ∙ rest ∙ last)
      | inr ge ↦ range_ends hex first bytes i count ge all n
          ∙ sym (range_ends hex first bytes (i + 1) count (omega arith) all n) ∙ rest ∙ last
    ]

-- ---- runs of entries

-- one more run
pub found_more : (all : List Pair) (hex : Bool) (first : ℕ) (bytes : List ℕ) (last : ℕ) (run : LookedUp)
    (found more : List LookedUp) → more ≡ found ++ run ∷ [] → AreFound all hex first bytes last found
    → IsFound all hex first bytes last run → AreFound all hex first bytes last more
found_more all hex first bytes last run found more is s new =
    subst (AreFound all hex first bytes last) (sym is) (λ k lk. elim (cases_lt k (length found)) [
      | inl l ↦ subst (IsFound all hex first bytes last) (sym (get_or_append_left found (run ∷ []) no_run k l)) (s k l)
      | inr l ↦ subst (IsFound all hex first bytes last)
          (sym (get_or_push found run no_run k (omega (arith, length-append found (run ∷ []))))) new
    ])

-- a single entry, as a pass over it and some after it
pub passed_alone : (all new : List Pair) (hex : Bool) (first : ℕ) (bytes : List ℕ) (i count index next : ℕ)
    → Passes all hex first bytes i count (Ok (index, next)) new
    → PassesOn all hex first bytes i count (Ok (record { at = i; index = index; size = 1 }, next)) new
passed_alone all new hex first bytes i count index next h = (
  h.0,
  h.1,
  h.2,
  (
    (let a = h.0 in omega arith),
    λ j less. (
        let a : index + j ≡ index = omega arith in
        let b : i + j ≡ i = omega arith in
        let low = h.3 in
        (omega arith, ap (entry_at hex first bytes) b ∙ h.4 ∙ ap (λ (x : ℕ). Ok (pair_at new x)) (sym a))),
  ),
  h.5,
)

-- something is noted for one more pair
pub covered_set : (all : List Pair) (notes : List Covered) (hex : Bool) (first : ℕ) (bytes : List ℕ)
    (end at index number count : ℕ) → AreCovered all notes → HasEntries all hex first bytes end
    → entry_at hex first bytes at ≡ Ok (pair_at all index) → at < end → number ≡ first + at → count ≤ end - at → index
    < length notes → AreCovered all (slice_set notes index (record { hex = hex; number = number; count = count }))
covered_set all notes hex first bytes end at index number count c has e below is few low k lk i less =
    let r : Covered = record { hex = hex; number = number; count = count } in
    let none : Covered = record { hex = true; number = 0; count = 0 } in
    elim (cases_eq k index) [
      | inl same ↦ (
          let f : covered_at (slice_set notes index r) k ≡ r = ap (covered_at (slice_set notes index r)) same
          ∙ get_or-set_same notes index r none low in
          let i_low : i < count = subst (λ (x : Covered). i < x.count) f less in
          let h = has (at + i) (omega arith) in
          let there : HasEntry all hex number (bytes_at all index) i =
          (h.0, h.1, counted_on hex first bytes at (pair_at all index) e number i is ∙ h.2) in
          subst (λ (x : Covered). HasEntry all x.hex x.number (bytes_at all k) i) (sym f) (rw same there))
      | inr other ↦ (
          let f : covered_at (slice_set notes index r) k ≡ covered_at notes k =
          get_or-set_other notes index k r none other in
          let l : k < length notes = (let g = lk in rw (length-set notes index r) at g) in
          subst (λ (x : Covered). HasEntry all x.hex x.number (bytes_at all k) i) (sym f)
          (c k l i (subst (λ (x : Covered). i < x.count) f less)))
    ]

-- ---- the result of entering an entry of a range

-- a pair that was entered is at its old index, or at a new one
pub passed_on : (all new : List Pair) (p : Pair) (index : ℕ) → (pair_cause all p ≡ None) × (new ≡ entered all p)
    × (index < length new) × (pair_at new index ≡ p) → AreApart new → (hex : Bool) (first : ℕ) (bytes : List ℕ)
    (i count known next number : ℕ) → i < count → entry_at hex first bytes i ≡ Ok p → number ≡ first + i
    → HasEntries new hex number (bytes_at new index) known → next ≡ max known 1
    → ((n : ℕ) → run_entries all n (entries_from hex first bytes i count) ≡ run_entries new n
    (entries_from hex first bytes (i + next) count)) × ((k : ℕ) → i ≤ k → k < i + next → HasEntry new hex first bytes k)
passed_on all new p index a apart hex first bytes i count known next number low e is has most =
    let here : entry_at hex first bytes i ≡ Ok (pair_at new index) = e ∙ ap (λ (x : Pair). Ok x) (sym a.3) in
    let each : (k : ℕ) → i ≤ k → k < i + next → HasEntry new hex first bytes k = λ k from less. elim (cases_eq k i) [
      | inl same ↦ (index, a.2, ap (entry_at hex first bytes) same ∙ here)
      | inr other ↦ has_from new hex first bytes i index number known here is has k from (omega arith)
    ] in
    let one : i + 1 + (next - 1) ≡ i + next = omega arith in (
      λ n. goes_on hex first bytes i count low all n p e a.0
          ∙ ap (λ (x : List Pair). run_entries x n (entries_from hex first bytes (i + 1) count)) (sym a.1) ∙ skips new
          apart hex first bytes count n (next - 1) (i + 1) (λ k from less. each k (omega arith) (omega arith))
          ∙ ap (λ (x : ℕ). run_entries new n (entries_from hex first bytes x count)) one,
      each,
    )

-- a pair that was refused ends the run
pub refused_run : (all new : List Pair) (p : Pair) (why : EntryFault) → Enters all p (Err why) new
    → (hex : Bool) (first : ℕ) (bytes : List ℕ) (i count : ℕ) → i < count → entry_at hex first bytes i ≡ Ok p
    → Passes all hex first bytes i count (Err why) new
refused_run all new p (Faulty cause) h hex first bytes i count low e = λ n.
    stops_at_pair hex first bytes i count low all n p cause e h
refused_run all new p Memory h hex first bytes i count low e = tt

-- what was noted for a pair that was read
pub covered_has : (all seen : List Pair) (notes read : List Covered) (index : ℕ) (r : Covered)
    (hex : Bool) (number known : ℕ) → AreCovered all notes → read ≡ notes → index < length read → ((d : Covered)
    → r ≡ get_or read index d) → beq r.hex hex ≡ true → r.number ≡ number → known ≡ r.count → all ≡ seen
    → HasEntries seen hex number (bytes_at seen index) known
covered_has all seen notes read index r hex number known c same low is h_is n_is k_is seen_is =
    let none : Covered = record { hex = true; number = 0; count = 0 } in
    let at : r ≡ covered_at notes index = is none ∙ ap (λ (x : List Covered). get_or x index none) same in
    let h : r.hex ≡ hex = same_flag r.hex hex h_is in
    subst (λ (x : List Pair). HasEntries x hex number (bytes_at x index) known) seen_is (λ i less.
    subst (λ (x : ℕ). HasEntry all hex x (bytes_at all index) i) n_is
    (subst (λ (x : Bool). HasEntry all x r.number (bytes_at all index) i) h
    (subst (λ (x : Covered). HasEntry all x.hex x.number (bytes_at all index) i) (sym at)
    (c index (rw same at low) i (subst (λ (x : Covered). i < x.count) at (rw k_is at less))))))
  where
    same_flag : (a b : Bool) → beq a b ≡ true → a ≡ b
    same_flag true true e = refl
    same_flag true false e = absurd (cc)
    same_flag false true e = absurd (cc)
    same_flag false false e = refl

-- the list of notes, made as long as that of the pairs
pub covered_padded : (all : List Pair) (notes new : List Covered) (n m : ℕ) → length notes ≤ n → new ≡ take n notes
    ++ replicate m (record { hex = true; number = 0; count = 0 }) → AreCovered all notes → AreCovered all new
covered_padded all notes new n m long is c =
    let none : Covered = record { hex = true; number = 0; count = 0 } in
    let same : new ≡ notes ++ replicate m none = is
    ∙ ap (λ (x : List Covered). x ++ replicate m none) (take_all n notes long) in
    subst (AreCovered all) (sym same) (λ index low i less. elim (cases_lt index (length notes)) [
      | inl l ↦ (let f : covered_at (notes ++ replicate m none) index ≡ covered_at notes index =
          get_or_append_left notes (replicate m none) none index l in
          subst (λ (x : Covered). HasEntry all x.hex x.number (bytes_at all index) i) (sym f)
          (c index l i (subst (λ (x : Covered). i < x.count) f less)))
      | inr l ↦ absurd (
          let size : length (notes ++ replicate m none) ≡ length notes + m = length-append notes (replicate m none)
          ∙ ap (λ (x : ℕ). length notes + x) (length-replicate m none) in
          let f : covered_at (notes ++ replicate m none) index ≡ none = get_or-append_right notes
          (replicate m none) index none l ∙ get_or-replicate m (index - length notes) none none (omega arith) in
          let z : i < 0 = subst (λ (x : Covered). i < x.count) f less in
          omega arith)
    ])

-- a slice as long as its list, put back into it, is the whole list
pub put_back : (n : ℕ) (slice items : List Covered) → length slice ≡ length items → n ≡ length items
    → take n (slice ++ drop (length slice) items) ≡ slice
put_back n slice items e f = ap (λ (x : List Covered). take n (slice ++ x))
    (drop_all (length slice) items (omega arith)) ∙ ap (take n) (append-nil slice) ∙ take_all n slice (omega arith)

-- a draft whose list of pairs stays
pub list_marked : (all : List Pair) (old notes : List Covered) → IsPairList all old → AreCovered all notes
    → length notes ≡ length all → IsPairList all notes
list_marked all old notes i c e = record { few = i.few; apart = i.apart; within = omega arith; covered = c }
