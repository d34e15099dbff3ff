-- Single bytes and pairs, read by one table.
use Rattle.std.proofs.Common.{◌≡◌, ℕ, ◌+◌, ◌<◌, ◌≤◌, Bool, cond, List, length, drop, get_or, slice_set, inl, inr}
use Rattle.std.proofs.Common.{◌∙◌, ap, arith}
use Rattle.std.proofs.lemmas.Bool.{cases_Bool, leb-true, leb-false}
use Rattle.cv_byte_trie.specs.Entries.{Entry}
use Rattle.cv_simd.specs.Splits.{leads, start_of, second_byte}
use Rattle.cv_simd.proofs.SplitStarts.{start_next}
use Rattle.cv_trie.specs.Private.Longs.{IsLong}
use Rattle.cv_trie.specs.Private.Ones.{no_character, AreOnes}
use Rattle.cv_trie.specs.Private.Twos.{row_of, two_at, AreTwos}
use Rattle.cv_trie.specs.Private.Starts.{AreStarts, number_at}
use Rattle.cv_trie.specs.Private.Prefixes.{IsRead}
use Rattle.cv_trie.proofs.Following.{read_more}
use Rattle.cv_trie.proofs.OneByte.{one_long}
use Rattle.cv_trie.proofs.TwoBytes.{two_long}

-- ---- starts

-- what is put after the rows changes none of them
pub rows_kept : (pairs : List Entry) (ones twos after : List ℕ) (index : ℕ) → index + 128 ≡ length twos
    → length after ≡ length twos → ((k : ℕ) → k < index → get_or after k 0 ≡ get_or twos k 0)
    → AreTwos pairs ones twos → AreTwos pairs ones after
rows_kept pairs ones twos after index behind size low t = record {
  within = λ b l. rw size (t.within b l);
  each = λ b c lb lc l. (
      let w = t.within b lb in
      let e : two_at ones after b c ≡ two_at ones twos b c = low (row_of ones b + c) (omega arith) in
      rw e (t.each b c lb lc (rw e at l)));
}

-- ---- reading

module _ (pairs : List Entry) (ones twos starts text : List ℕ) (singles : AreOnes pairs ones 256)
    (doubles : AreTwos pairs ones twos) (begins : AreStarts ones twos starts) (byte : (i : ℕ) → get_or text i 0 < 256)
  where
    -- if the number of the bytes at an index is a character, it is the next item
    pub number_long : (p : ℕ) → p + 1 < length text → number_at twos starts text p < no_character
        → IsLong pairs (drop p text) (1 + cond (leads (get_or text p 0)) 1 0) (number_at twos starts text p)
    number_long p low some =
        let f = get_or text p 0 in
        let s = get_or text (p + 1) 0 in
        let start = get_or starts f 0 in
        elim (cases_Bool (leads f)) [
          | inl first ↦ (
              let least : 128 ≤ f = leb-true 128 f first in
              let second : second_byte text p ≡ s = ap (λ (x : Bool). cond x s 0) first in
              let e : number_at twos starts text p ≡ two_at ones twos f s = ap (λ (x : ℕ). get_or twos (start + x) 0)
              second ∙ ap (λ (x : ℕ). get_or twos (x + s) 0) (begins.first f least (byte p)) in
              rw (e, first) (two_long pairs ones twos text p doubles (byte p) (byte (p + 1)) low (rw e at some)))
          | inr single ↦ (
              let less : f < 128 = leb-false 128 f single in
              let second : second_byte text p ≡ 0 = ap (λ (x : Bool). cond x s 0) single in
              let cell : start + 0 ≡ start = omega arith in
              let e : number_at twos starts text p ≡ get_or ones f 0 = ap (λ (x : ℕ). get_or twos (start + x) 0) second
              ∙ ap (λ (x : ℕ). get_or twos x 0) cell ∙ begins.single f less in
              rw (e, single) (one_long pairs ones text p singles (byte p) (omega arith) (rw e at some)))
        ]

    -- one more character of one or two bytes
    pub window_more : (buffer : List ℕ) (n used k : ℕ)
        → IsRead pairs text (record { n = n + k; used = start_of text used k }) buffer → n + k < length buffer
        → start_of text used k + 1 < length text → number_at twos starts text (start_of text used k) < no_character
        → IsRead pairs text (record { n = n + (k + 1); used = start_of text used (k + 1) })
        (slice_set buffer (n + k) (number_at twos starts text (start_of text used k)))
    window_more buffer n used k f room low some =
        let next_n : n + (k + 1) ≡ n + k + 1 = omega arith in
        rw (next_n, start_next text used k)
        (read_more pairs text buffer (n + k) (start_of text used k) _ _ f room
        (number_long (start_of text used k) low some))
