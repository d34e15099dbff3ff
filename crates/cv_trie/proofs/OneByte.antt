-- Bytes that are characters by themselves, read one after another.
use Rattle.std.proofs.Common.{◌≡◌, ◌≢◌, ℕ, ◌+◌, ◌<◌, List, [], ◌∷◌, length, drop, get_or, slice_set, get_or-set_other}
use Rattle.std.proofs.Common.{get_or-set_same, refl, subst, arith, inl, inr}
use Rattle.std.proofs.Math.Seq.{drop-cons}
use Rattle.std.proofs.lemmas.Bool.{cases_lt}
use Rattle.std.proofs.lemmas.List.{length-drop}
use Rattle.cv_byte_trie.specs.Entries.{Entry, AreEntries, bytes_at, character_at}
use Rattle.cv_byte_trie.specs.Tries.{StepsBy, tails, HasTrie}
use Rattle.cv_byte_trie.proofs.ReadEntries.{entry_character}
use Rattle.cv_trie.specs.Private.Longs.{IsLong}
use Rattle.cv_trie.specs.Private.Ones.{no_character, HasPair, AreOnes}
use Rattle.cv_trie.specs.Private.Prefixes.{IsRead}
use Rattle.cv_trie.proofs.HeldPairs.{has_pair}
use Rattle.cv_trie.proofs.MapLaws.{holds_index}
use Rattle.cv_trie.proofs.Following.{root_leaf, read_more}

-- a byte that is a character by itself is the next item where a text has it
pub one_long : (pairs : List Entry) (ones text : List ℕ) (p : ℕ) → AreOnes pairs ones 256 → get_or text p 0 < 256
    → p < length text → get_or ones (get_or text p 0) 0 < no_character
    → IsLong pairs (drop p text) 1 (get_or ones (get_or text p 0) 0)
one_long pairs ones text p all byte low some =
    let b = get_or text p 0 in
    let c = get_or ones b 0 in
    let one = all b byte some in
    record {
      scalar = one.0;
      stands = record {
        bytes = b ∷ [];
        is_item = (c, (has_pair pairs (b ∷ [], c)).0 one.1, refl);
        front = rw (drop-cons text p 0 low) (refl, tt);
      };
      within = omega (arith, length-drop p text);
    }

-- one more of them
pub one_more : (pairs : List Entry) (ones text buffer : List ℕ) (n used k : ℕ) → AreOnes pairs ones 256
    → IsRead pairs text (record { n = n + k; used = used + k }) buffer → n + k < length buffer → used + k < length text
    → get_or text (used + k) 0 < 256 → get_or ones (get_or text (used + k) 0) 0 < no_character
    → IsRead pairs text (record { n = n + (k + 1); used = used + (k + 1) })
    (slice_set buffer (n + k) (get_or ones (get_or text (used + k) 0) 0))
one_more pairs ones text buffer n used k all f room low byte some =
    let next_n : n + (k + 1) ≡ n + k + 1 = omega arith in
    let next_used : used + (k + 1) ≡ used + k + 1 = omega arith in
    rw (next_n, next_used) (read_more pairs text buffer (n + k) (used + k) 1 _ f room
    (one_long pairs ones text (used + k) all byte low some))

-- a byte that leads from the root to an entry's index is the entry's character by itself
pub one_led : (entries shown : List Entry) → shown ≡ entries → AreEntries shown → (S : StepsBy) (count : ℕ)
    → HasTrie S count entries → (b code : ℕ) (x : Entry) → b < 256 → code ≡ S 0 b → code < tails
    → x ≡ get_or shown code x → HasPair entries (b ∷ []) x.1
one_led entries shown same a S count t b code x byte e l at =
    let leaf = root_leaf entries S count t b code byte e l in
    subst (λ (es : List Entry). code < length es → bytes_at es code ≡ b ∷ [] → HasPair es (b ∷ []) x.1) same
    (λ low bytes. (
    let character = entry_character shown code x low at in (
      rw character at (a.scalar code low),
      rw (bytes, character) at ((has_pair shown (bytes_at shown code, character_at shown code)).1
          (holds_index shown code low)),
    ))) leaf.0 leaf.1

-- one more byte gets its number
pub ones_more : (pairs : List Entry) (ones : List ℕ) (n v : ℕ) → n < length ones → AreOnes pairs ones n
    → (v < no_character → HasPair pairs (n ∷ []) v) → AreOnes pairs (slice_set ones n v) (n + 1)
ones_more pairs ones n v low p q b h l = elim (cases_lt b n) [
  | inl lower ↦ (
      let ne : b ≢ n = omega arith in
      let e : get_or (slice_set ones n v) b 0 ≡ get_or ones b 0 = rw get_or-set_other refl in
      rw e (p b lower (rw e at l)))
  | inr upper ↦ (
      let same : b ≡ n = omega arith in
      let e : get_or (slice_set ones n v) b 0 ≡ v = rw same (rw get_or-set_same refl) in
      rw (e, same) (q (rw e at l)))
]
