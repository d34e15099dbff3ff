-- Entries of a range that are entered at once.
use Rattle.std.proofs.Common.{◌≡◌, ℕ, zero, suc, ◌+◌, ◌-◌, ◌/◌, ◌%◌, ◌^◌, ◌<◌, ◌≤◌, Bool, true, false, not, cond, leb}
use Rattle.std.proofs.Common.{ltb, List, [], ◌∷◌, ◌++◌, length, take, get_or, append-nil, append_assoc, refl, sym}
use Rattle.std.proofs.Common.{subst, ◌∙◌, ap, arith, inl, inr, length-append}
use Rattle.std.specs.Prelude.{Ok, Err, ◌||◌, ◌&&◌}
use Rattle.std.proofs.Math.Nat.{pow-succ'}
use Rattle.std.proofs.Math.Seq.{take-append_seam}
use Rattle.std.proofs.lemmas.Bool.{lt-leb, le-leb, lt-ltb, cases_lt}
use Rattle.std.proofs.lemmas.List.{get_or_push, get_or-take, length-take-le}
use Rattle.cv_base.specs.Items.{Begins}
use Rattle.cv_base.specs.Scalars.{IsScalar}
use Rattle.cv_lex.specs.Names.{is_scalar}
use Rattle.cv_lex.specs.declared.cause.Cause.TheVariants.{NotScalar, Carry}
use Rattle.cv_byte_trie.specs.Entries.{bytes_at, AreApart}
use Rattle.cv_byte_trie.specs.Results.{MeetsNone}
use Rattle.cv_byte_trie.specs.Runs.{counted, run_of}
use Rattle.cv_byte_trie.proofs.Counted.{run_size, run_front, run_at}
use Rattle.cv_charmap.specs.Entries.{Pair, number_of, bytes_in, entry_at}
use Rattle.cv_charmap.specs.Lists.{most_pairs}
use Rattle.cv_charmap.specs.Private.Covers.{pair_at, HasEntry}
use Rattle.cv_charmap.specs.Private.Runs.{run_entries, entries_from}
use Rattle.cv_charmap.specs.Private.Seen.{PassesOn}
use Rattle.cv_charmap.proofs.Counting.{is_entry}
use Rattle.cv_charmap.proofs.Covering.{pair_stays}
use Rattle.cv_charmap.proofs.PairLists.{enters_new}
use Rattle.cv_charmap.proofs.EntryLemmas.{goes_on}

-- ---- their bytes

-- if the last byte of a number can count up, the others stay
last_counts : (s n k : ℕ) → n % 256 + k < 256 → bytes_in (suc s) (n + k) ≡ bytes_in s (n / 256) ++ (n % 256 + k) ∷ []
last_counts s n k low =
    let front : (n + k) / 256 ≡ n / 256 = omega arith in
    let last : (n + k) % 256 ≡ n % 256 + k = omega arith in
    ap (λ (x : ℕ). bytes_in s x ++ (n + k) % 256 ∷ []) front ∙ ap (λ (x : ℕ). bytes_in s (n / 256) ++ x ∷ []) last

-- bytes that count up in their last byte
bytes_count : (size n k : ℕ) (w : List ℕ) → 0 < size → w ≡ bytes_in size n → get_or w (length w - 1) 0 + k < 256
    → n < 256 ^ size
    → (bytes_in size (n + k) ≡ take (length w - 1) w ++ (get_or w (length w - 1) 0 + k) ∷ []) × (n + k < 256 ^ size)
bytes_count zero n k w some is low fits = absurd (omega arith)
bytes_count (suc s) n k w some is low fits =
    let v : List ℕ = bytes_in s (n / 256) in
    let x : ℕ = n % 256 in
    let whole : w ≡ v ++ x ∷ [] = is in
    let size : length w - 1 ≡ length v = omega (arith, ap length whole, length-append v (x ∷ [])) in
    let front : take (length w - 1) w ≡ v = ap (λ (j : ℕ). take j w) size ∙ ap (take (length v)) whole
    ∙ take-append_seam v (x ∷ []) in
    let last : get_or w (length w - 1) 0 ≡ x = ap (λ (j : ℕ). get_or w j 0) size
    ∙ ap (λ (l : List ℕ). get_or l (length v) 0) whole ∙ get_or_push v x 0 (length v) refl in
    let power = pow-succ' 256 s in (
      last_counts s n k (rw last at low) ∙ sym (ap (λ (y : List ℕ). y ++ (get_or w (length w - 1) 0 + k) ∷ []) front
          ∙ ap (λ (y : ℕ). v ++ (y + k) ∷ []) last),
      omega (arith, last),
    )

scalar_is : (n : ℕ) → IsScalar n → is_scalar n ≡ true
scalar_is n s = elim (cases_lt n 0xD800) [
  | inl l ↦ ap (λ (b : Bool). b || (leb 0xE000 n && ltb n 0x110000)) (lt-ltb n 0xD800 l)
  | inr l ↦ ap (λ (b : Bool). ltb n 0xD800 || (b && ltb n 0x110000)) (le-leb 0xE000 n (s.1 l))
      ∙ ap (λ (b : Bool). ltb n 0xD800 || b) (lt-ltb n 0x110000 s.0) ∙ either (ltb n 0xD800)
]
  where
    either : (b : Bool) → (b || true) ≡ true
    either true = refl
    either false = refl

-- the `k`th entry of a range after another, if only the last byte differs
counted_entry : (first : ℕ) (bytes w : List ℕ) (i c k : ℕ) → 0 < length bytes → entry_at true first bytes i ≡ Ok (w, c)
    → get_or w (length w - 1) 0 + k < 256 → IsScalar (c + k) → entry_at true first bytes (i + k) ≡ Ok (counted w c k)
unfolding entry_at
counted_entry first bytes w i c k some e low scalar =
    let p = is_entry true first bytes i (w, c) e in
    let b = bytes_count (length bytes) (number_of bytes + i) k w some p.bytes_are low p.fits in
    let number : number_of bytes + i + k ≡ number_of bytes + (i + k) = omega arith in
    let called : c ≡ first + i = p.character in
    let name : c + k ≡ first + (i + k) = omega arith in
    let s : is_scalar (first + (i + k)) ≡ true = ap is_scalar (sym name) ∙ scalar_is (c + k) scalar in
    let f : leb (256 ^ length bytes) (number_of bytes + (i + k)) ≡ false =
    lt-leb (256 ^ length bytes) (number_of bytes + (i + k)) (omega (arith, b.1)) in
    ap (λ (x : Bool). cond (not x) (Err NotScalar) (cond (leb (256 ^ length bytes) (number_of bytes + (i + k)))
    (Err Carry) (Ok (bytes_in (length bytes) (number_of bytes + (i + k)), first + (i + k))))) s ∙ ap (λ (x : Bool).
    cond x (Err Carry) (Ok (bytes_in (length bytes) (number_of bytes + (i + k)), first + (i + k)))) f ∙ ap (λ (x : ℕ).
    Ok (bytes_in (length bytes) x, first + (i + k))) (sym number) ∙ ap (λ (x : List ℕ). Ok (x, first + (i + k))) b.0
    ∙ ap (λ (x : ℕ). Ok (take (length w - 1) w ++ (get_or w (length w - 1) 0 + k) ∷ [], x)) (sym name)

-- ---- entering them

module _ (all new : List Pair) (first : ℕ) (bytes w : List ℕ) (i c m : ℕ) (some : 0 < length bytes)
    (e : entry_at true first bytes i ≡ Ok (w, c)) (low : get_or w (length w - 1) 0 + m ≤ 256)
    (scalars : (k : ℕ) → k < m → IsScalar (c + k)) (is : new ≡ all ++ run_of w c m) (apart : AreApart new)
    (few : length new ≤ most_pairs) where
  -- the list with the first of them
  abbrev with_first : ℕ → List Pair
  with_first k = all ++ run_of w c k

  stands : (k : ℕ) → k < m → entry_at true first bytes (i + k) ≡ Ok (counted w c k)
  stands k less = counted_entry first bytes w i c k some e (omega arith) (scalars k less)

  size : (k : ℕ) → length (with_first k) ≡ length all + k
  size k = length-append all (run_of w c k) ∙ ap (λ (x : ℕ). length all + x) (run_size w c k)

  new_size : length new ≡ length all + m
  new_size = ap length is ∙ size m

  front : (k : ℕ) → k ≤ m → take (length (with_first k)) new ≡ with_first k
  front k less = ap (take (length (with_first k))) is ∙ run_front all w c k m less

  placed : (k : ℕ) → k < m → pair_at new (length all + k) ≡ counted w c k
  placed k less = pair_stays (with_first (suc k)) new (front (suc k) (omega arith)) (length all + k)
      (omega (arith, size (suc k))) ∙ run_at all w c k ([], 0)

  -- the next meets none of those in the list
  meets : (k : ℕ) → k < m → MeetsNone (with_first k) (counted w c k).0
  meets k less p lp =
      let there : bytes_at new p ≡ bytes_at (with_first k) p =
      ap (λ (x : Pair). x.0) (pair_stays (with_first k) new (front k (omega arith)) p lp) in
      let mine : bytes_at new (length all + k) ≡ (counted w c k).0 = ap (λ (x : Pair). x.0) (placed k less) in
      let lq : p < length new = omega (arith, size k, new_size) in
      let lk : length all + k < length new = omega (arith, new_size) in (
        λ f. (let same =
            apart p (length all + k) lq lk (subst (λ (x : List ℕ). Begins x (bytes_at new (length all + k))) (sym there)
            (subst (λ (x : List ℕ). Begins (bytes_at (with_first k) p) x) (sym mine) f)) in omega (arith, size k)),
        λ f. (let same = apart (length all + k) p lk lq (subst (λ (x : List ℕ). Begins x (bytes_at new p)) (sym mine)
            (subst (λ (x : List ℕ). Begins (counted w c k).0 x) (sym there) f)) in omega (arith, size k)),
      )

  module _ (count : ℕ) (within : i + m ≤ count) (n : ℕ) where
    step : (k : ℕ) → k < m → run_entries (with_first k) n (entries_from true first bytes (i + k) count)
        ≡ run_entries (with_first (suc k)) n (entries_from true first bytes (i + suc k) count)
    step k less =
        let enters = enters_new (with_first k) (counted w c k) (meets k less) (omega (arith, size k, new_size)) in
        let next : i + k + 1 ≡ i + suc k = omega arith in
        goes_on true first bytes (i + k) count (omega arith) (with_first k) n (counted w c k) (stands k less) enters.0
        ∙ ap (λ (x : List Pair). run_entries x n (entries_from true first bytes (i + k + 1) count))
        (enters.1 ∙ append_assoc all (run_of w c k) (counted w c k ∷ []))
        ∙ ap (λ (x : ℕ). run_entries (with_first (suc k)) n (entries_from true first bytes x count)) next

    runs : (k : ℕ) → k ≤ m → run_entries all n (entries_from true first bytes i count)
        ≡ run_entries (with_first k) n (entries_from true first bytes (i + k) count)
    runs zero less = ap (λ (x : List Pair). run_entries x n (entries_from true first bytes i count))
        (sym (append-nil all)) ∙ ap (λ (x : ℕ). run_entries (with_first 0) n (entries_from true first bytes x count))
        (let z : i ≡ i + 0 = omega arith in z)
    runs (suc k) less = runs k (omega arith) ∙ step k (omega arith)

    pub run_on : run_entries all n (entries_from true first bytes i count)
        ≡ run_entries new n (entries_from true first bytes (i + m) count)
    run_on = runs m (omega arith)
        ∙ ap (λ (x : List Pair). run_entries x n (entries_from true first bytes (i + m) count)) (sym is)

  stays : take (length all) new ≡ all
  stays = ap (take (length all)) is ∙ take-append_seam all (run_of w c m)

  stood : (k : ℕ) → k < m
      → (length all + k < length new) × (entry_at true first bytes (i + k) ≡ Ok (pair_at new (length all + k)))
  stood k less = (omega (arith, new_size), stands k less ∙ ap (λ (x : Pair). Ok x) (sym (placed k less)))

  has : (k : ℕ) → i ≤ k → k < i + m → HasEntry new true first bytes k
  has k from less =
      let here : i + (k - i) ≡ k = omega arith in
      let s = stood (k - i) (omega arith) in
      (length all + (k - i), s.0, ap (entry_at true first bytes) (sym here) ∙ s.1)

  -- entries that were entered at once, as a pass over them
  passed_at_once : (count : ℕ) → i + m ≤ count → 0 < m
      → PassesOn all true first bytes i count (Ok (record { at = i; index = length all; size = m }, i + m)) new
  passed_at_once count within more = (omega arith, stays, run_on count within, (omega arith, stood), has)

-- the last byte of an entry that has other bytes after it
pub last_of : (word : List ℕ) (n : ℕ) → length word ≡ 8 → 0 < n → n ≤ 8
    → get_or (take n word) (length (take n word) - 1) 0 ≡ get_or word (n - 1) 0
last_of word n size more few =
    let cut : length (take n word) ≡ n = length-take-le n word (omega arith) in
    ap (λ (k : ℕ). get_or (take n word) (k - 1) 0) cut ∙ get_or-take n word (n - 1) 0 (omega arith)

-- entries that were entered at once, if the range counts in hexadecimal
pub at_once : (all new : List Pair) (hex : Bool) (first : ℕ) (bytes w : List ℕ) (i c m : ℕ) → hex ≡ true
    → 0 < length bytes → entry_at hex first bytes i ≡ Ok (w, c) → get_or w (length w - 1) 0 + m ≤ 256
    → ((k : ℕ) → k < m → IsScalar (c + k)) → new ≡ all ++ run_of w c m → AreApart new → length new ≤ most_pairs
    → (count : ℕ) → i + m ≤ count → 0 < m
    → PassesOn all hex first bytes i count (Ok (record { at = i; index = length all; size = m }, i + m)) new
at_once all new hex first bytes w i c m is_hex some e low scalars is apart few count within more = subst (λ (h : Bool).
    PassesOn all h first bytes i count (Ok (record { at = i; index = length all; size = m }, i + m)) new) (sym is_hex)
    (passed_at_once all new first bytes w i c m some
    (subst (λ (h : Bool). entry_at h first bytes i ≡ Ok (w, c)) is_hex e) low scalars is apart few count within more)

-- a list with `n` more pairs is not too long
pub run_room : (all new : List Pair) (bytes : List ℕ) (character n : ℕ) → new ≡ all ++ run_of bytes character n
    → length all + n ≤ most_pairs → length new ≤ most_pairs
run_room all new bytes character n is room =
    omega (arith, ap length is, length-append all (run_of bytes character n), run_size bytes character n)
