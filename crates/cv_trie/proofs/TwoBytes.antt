-- Strings of two bytes, in rows by their first byte, and read one after another.
use Rattle.std.proofs.Common.{◌≡◌, ◌≢◌, ℕ, suc, ◌+◌, ◌-◌, ◌<◌, ◌≤◌, List, [], ◌∷◌, length, drop, get_or, slice_set}
use Rattle.std.proofs.Common.{get_or-set_other, get_or-set_same, refl, subst, ◌∙◌, ap, arith, inl, inr, true}
use Rattle.std.specs.Set.{is_member}
use Rattle.std.proofs.Math.ListN.{replicate}
use Rattle.std.proofs.Math.Seq.{drop-cons}
use Rattle.std.proofs.lemmas.Bool.{cases_lt, cases_eq}
use Rattle.std.proofs.lemmas.List.{length-drop, length-set, length-replicate, get_or-replicate}
use Rattle.cv_byte_trie.specs.Entries.{Entry, AreEntries, bytes_at, character_at}
use Rattle.cv_trie.specs.Private.Longs.{IsLong}
use Rattle.cv_trie.specs.Private.Ones.{no_character, is_same, HasPair}
use Rattle.cv_trie.specs.Private.Twos.{row_of, two_at, AreRows, IsCell, AreTwos}
use Rattle.cv_trie.proofs.HeldPairs.{has_pair}
use Rattle.cv_trie.proofs.MapLaws.{holds_index}

-- ---- numbering rows

-- one more byte gets a number: that of no row, or of one that comes after the others
pub rows_set : (ones : List ℕ) (n size v to : ℕ) → AreRows ones n size → n < length ones → v - no_character + 256 ≤ to
    → size ≤ to → (0 < v - no_character → size ≤ v - no_character) → AreRows (slice_set ones n v) (n + 1) to
rows_set ones n size v to r low fits grows own =
    let here : row_of (slice_set ones n v) n ≡ v - no_character =
    ap (λ (x : ℕ). x - no_character) (get_or-set_same ones n v 0 low) in
    let other : (b : ℕ) → b < n → row_of (slice_set ones n v) b ≡ row_of ones b = λ b lower. (
    let ne : b ≢ n = omega arith in ap (λ (x : ℕ). x - no_character) (get_or-set_other ones n b v 0 ne)) in
    record {
      some = omega (arith, r.some);
      within = λ b l. elim (cases_lt b n) [
        | inl lower ↦ omega (arith, r.within b lower, other b lower)
        | inr upper ↦ (let e : b ≡ n = omega arith in rw (e, here) fits)
      ];
      behind = λ b l some. elim (cases_lt b n) [
        | inl lower ↦ rw (other b lower) (r.behind b lower (rw (other b lower) at some))
        | inr upper ↦ (
            let e : b ≡ n = omega arith in
            let after = own (rw (e, here) at some) in rw (e, here) (omega (arith, r.some)))
      ];
      apart = λ a b less l some. elim (cases_lt b n) [
        | inl lower ↦ rw (other b lower, other a (omega arith)) (r.apart a b less lower (rw (other b lower) at some))
        | inr upper ↦ (
            let e : b ≡ n = omega arith in
            let low_a : a < n = omega arith in
            let after = own (rw (e, here) at some) in rw (e, here, other a low_a) (omega (arith, r.within a low_a)))
      ];
    }

-- an index in a byte's own row is in that of no other
rows_own : (ones : List ℕ) (size a b c d : ℕ) → AreRows ones 256 size → a < 256 → b < 256 → c < 256 → d < 256
    → 0 < row_of ones b → row_of ones a + c ≡ row_of ones b + d → a ≡ b
rows_own ones size a b c d r la lb lc ld some e = elim (cases_lt a b) [
  | inl less ↦ absurd (let w = r.apart a b less lb some in omega arith)
  | inr more ↦ elim (cases_eq a b) [
    | inl same ↦ same
    | inr ne ↦ absurd (
        let less : b < a = omega arith in
        let first : 256 ≤ row_of ones b = r.behind b lb some in
        let above : 0 < row_of ones a = omega arith in
        let w = r.apart b a less la above in
        omega arith)
  ]
]

-- ---- filling rows

-- empty rows, and the cells after them
pub twos_none : (pairs : List Entry) (ones : List ℕ) (size : ℕ) → AreRows ones 256 size
    → AreTwos pairs ones (replicate (size + 128) no_character)
twos_none pairs ones size r = record {
  within = λ b l. (let w = r.within b l in rw length-replicate (omega arith));
  each = λ b c first second some. absurd (
      let w = r.within b first in
      let e : two_at ones (replicate (size + 128) no_character) b c ≡ no_character =
      get_or-replicate (size + 128) (row_of ones b + c) no_character 0 (omega arith) in
      omega arith);
}

-- a list of two bytes, by its elements
two_bytes : (bytes : List ℕ) → length bytes ≡ 2 → bytes ≡ get_or bytes 0 0 ∷ get_or bytes 1 0 ∷ []
two_bytes [] e = absurd (omega arith)
two_bytes (b ∷ []) e = absurd (omega arith)
two_bytes (b ∷ c ∷ []) e = refl
two_bytes (b ∷ c ∷ d ∷ rest) e = absurd (omega arith)

-- the character of one more entry is put into its cell
pub twos_more : (pairs : List Entry) → AreEntries pairs → (ones twos : List ℕ) (size : ℕ) → AreRows ones 256 size
    → AreTwos pairs ones twos → (index cell v : ℕ) → index < length pairs → v ≡ character_at pairs index
    → IsCell ones (bytes_at pairs index) cell → AreTwos pairs ones (slice_set twos cell v)
twos_more pairs a ones twos size r t index cell v low is here =
    let bytes = bytes_at pairs index in
    let first = get_or bytes 0 0 in
    let second = get_or bytes 1 0 in
    let fits : row_of ones first + 384 ≤ length twos = t.within first here.first in
    let inside : cell < length twos = (let c = here.at in let s = here.second in omega arith) in
    let entry : HasPair pairs (first ∷ second ∷ []) v = rw is (
      a.scalar index low,
      subst (λ (w : List ℕ). is_member is_same pairs (w, character_at pairs index) ≡ true)
          (two_bytes bytes here.two) ((has_pair pairs _).1 (holds_index pairs index low)),
    ) in
    record {
      within = λ b l. (let w = t.within b l in omega (arith, length-set twos cell v));
      each = λ b c lb lc l. elim (cases_eq (row_of ones b + c) cell) [
        | inl same ↦ (
            let own : b ≡ first =
            rows_own ones size b first c second r lb here.first lc here.second here.own (same ∙ here.at) in
            let row : row_of ones b ≡ row_of ones first = ap (row_of ones) own in
            let beside : c ≡ second = (let h = here.at in omega arith) in
            let e : two_at ones (slice_set twos cell v) b c ≡ v = rw same (get_or-set_same twos cell v 0 inside) in
            rw (e, own, beside) entry)
        | inr ne ↦ (
            let e : two_at ones (slice_set twos cell v) b c ≡ two_at ones twos b c =
            get_or-set_other twos cell (row_of ones b + c) v 0 ne in
            rw e (t.each b c lb lc (rw e at l)))
      ];
    }

-- ---- reading

-- the number of two bytes in the rows, if the number of the first and the second byte are added first
pub two_read : (ones twos : List ℕ) (b c : ℕ) → no_character ≤ get_or ones b 0
    → get_or twos (get_or ones b 0 + c - no_character) 0 ≡ two_at ones twos b c
two_read ones twos b c some = ap (λ (k : ℕ). get_or twos k 0) (omega arith)

-- two bytes that are a character are the next item where a text has them
pub two_long : (pairs : List Entry) (ones twos text : List ℕ) (p : ℕ) → AreTwos pairs ones twos → get_or text p 0 < 256
    → get_or text (p + 1) 0 < 256 → p + 1 < length text
    → two_at ones twos (get_or text p 0) (get_or text (p + 1) 0) < no_character
    → IsLong pairs (drop p text) 2 (two_at ones twos (get_or text p 0) (get_or text (p + 1) 0))
two_long pairs ones twos text p all byte next low some =
    let b = get_or text p 0 in
    let d = get_or text (p + 1) 0 in
    let c = two_at ones twos b d in
    let two = all.each b d byte next some in
    let first : p < length text = omega arith in
    let second : suc p < length text = omega arith in
    let at : d ≡ get_or text (suc p) 0 = ap (λ (k : ℕ). get_or text k 0) (omega arith) in
    record {
      scalar = two.0;
      stands = record {
        bytes = b ∷ d ∷ [];
        is_item = (c, (has_pair pairs (b ∷ d ∷ [], c)).0 two.1, refl);
        front = rw (drop-cons text p 0 first, drop-cons text (suc p) 0 second) (refl, (at, tt));
      };
      within = omega (arith, length-drop p text);
    }
