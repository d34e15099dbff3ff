-- A charmap satisfies the laws of codecs.
use Rattle.std.proofs.Common.{◌≡◌, ◌==◌, ◌||◌, ℕ, ◌<◌, ◌≤◌, Bool, true, false, cond, List, [], ◌∷◌, suc, length}
use Rattle.std.proofs.Common.{get_or, refl, sym, ◌∙◌, ap, arith, inl, inr, Some, option_map}
use Rattle.std.specs.Prelude.{IsSome, IfSome, Contains}
use Rattle.std.specs.List.{find, list_any}
use Rattle.std.proofs.lemmas.Bool.{cases_lt, false≢true}
use Rattle.std.proofs.lemmas.List.{get_or_default}
use Rattle.cv_base.specs.Scalars.{question}
use Rattle.cv_base.specs.Items.{Taken, taken, Begins}
use Rattle.cv_base.specs.Codecs.{IsReadable, CanSubstitute, WritesAtMost}
use Rattle.cv_base.specs.declared.state.ReadState.{ReadState}
use Rattle.cv_base.specs.declared.state.ReadState.TheVariants as read
use Rattle.cv_base.proofs.Front.{Begins-meet}
use Rattle.cv_byte_trie.specs.Entries.{no_entry, bytes_at, character_at, AreEntries, AreApart}
use Rattle.cv_charmap.specs.Entries.{Pair}
use Rattle.cv_charmap.specs.Maps.{IsMap}
use Rattle.cv_trie.specs.Charmaps.{map_reads, as_written, map_writes}
use Rattle.cv_trie.specs.Private.Compiled.{HaveAtMost}

-- The index of a pair in a list.
pub record IsIndexOf (pairs : List Pair) (bytes : List ℕ) (character k : ℕ) : Type 0 where
  pub low : k < length pairs
  pub bytes_there : bytes_at pairs k ≡ bytes
  pub character_there : character_at pairs k ≡ character

-- a pair of the list has an index
pub index_in : (pairs : List Pair) (bytes : List ℕ) (character : ℕ) → (h : Contains pairs (bytes, character))
    → IsIndexOf pairs bytes character h.0
index_in pairs bytes character h =
    let e : get_or pairs h.0 no_entry ≡ (bytes, character) = get_or_default pairs h.0 no_entry (bytes, character) h.1
    ∙ h.2 in
    record { low = h.1; bytes_there = ap (λ (p : Pair). p.0) e; character_there = ap (λ (p : Pair). p.1) e }

-- the pair at an index is in the list
pub holds_index : (pairs : List Pair) (k : ℕ) → k < length pairs
    → Contains pairs (bytes_at pairs k, character_at pairs k)
holds_index pairs k low = (k, low, get_or_default pairs k (bytes_at pairs k, character_at pairs k) no_entry low)

-- if a text begins with the bytes of two pairs, they are the same pair
pub same_index : (pairs : List Pair) → AreApart pairs → (text a b : List ℕ) (c d j k : ℕ) → IsIndexOf pairs a c j
    → IsIndexOf pairs b d k → Begins a text → Begins b text → j ≡ k
same_index pairs apart text a b c d j k p q f g =
    elim (cases_lt (length a) (length b)) [
      | inl less ↦ apart j k p.low q.low (rw (p.bytes_there, q.bytes_there) (Begins-meet a b text f g (omega arith)))
      | inr more ↦ sym (apart k j q.low p.low (rw (p.bytes_there, q.bytes_there) (Begins-meet b a text g f more)))
    ]

one_item : (pairs : List Pair) → AreApart pairs → (s : ReadState) (text a b : List ℕ) (i j : Taken)
    → map_reads pairs s a i → map_reads pairs s b j → Begins a text → Begins b text → i ≡ j
one_item pairs apart s text a b i j p q f g =
    let x = index_in pairs a p.0 p.1 in
    let y = index_in pairs b q.0 q.1 in
    let same = same_index pairs apart text a b p.0 q.0 p.1.0 q.1.0 x y f g in
    let bytes : a ≡ b = sym x.bytes_there ∙ ap (bytes_at pairs) same ∙ y.bytes_there in
    let character : p.0 ≡ q.0 = sym x.character_there ∙ ap (character_at pairs) same ∙ y.character_there in
    p.2 ∙ ap (λ (w : List ℕ). taken (length w) (Some p.0) read.Start) bytes
    ∙ ap (λ (c : ℕ). taken (length b) (Some c) read.Start) character ∙ sym q.2

uses : (pairs : List Pair) → AreEntries pairs → (s : ReadState) (a : List ℕ) (i : Taken) → map_reads pairs s a i
    → (0 < i.used) × (i.used ≤ length a)
uses pairs e s a i p =
    let x = index_in pairs a p.0 p.1 in
    let used : i.used ≡ length a = ap (λ (t : Taken). t.used) p.2 in
    let some : 0 < length a = rw x.bytes_there at (e.some p.1.0 x.low) in
    (omega arith, omega arith)

-- a text has at most one next item, which uses at least one of its bytes
pub map_readable : (pairs : List Pair) → IsMap pairs → IsReadable (map_reads pairs)
map_readable pairs m = record { one_item = one_item pairs m.entries.apart; uses = uses pairs m.entries }

found_some : (pairs : List Pair) (c : ℕ) → list_any (λ (p : Pair). p.1 == c) pairs ≡ true
    → IsSome (option_map as_written (find (λ (p : Pair). p.1 == c) pairs))
found_some [] c h = absurd (false≢true h)
found_some (p ∷ pairs) c h = elim (p.1 == c) as (λ (b : Bool). (b || list_any (λ (q : Pair). q.1 == c) pairs) ≡ true
    → IsSome (option_map as_written (cond b (Some p) (find (λ (q : Pair). q.1 == c) pairs)))) [
      | true ↦ λ _. refl
      | false ↦ λ rest. found_some pairs c rest
    ] h

-- `?` can be written
pub map_substitutes : (pairs : List Pair) → IsMap pairs → CanSubstitute (map_writes pairs)
map_substitutes pairs m t = found_some pairs question m.substitute

found_short : (most : ℕ) (pairs : List Pair) (c : ℕ) → ((k : ℕ) → k < length pairs → length (bytes_at pairs k) ≤ most)
    → IfSome (option_map as_written (find (λ (p : Pair). p.1 == c) pairs)) (λ q. length q.0 ≤ most)
found_short most [] c h = tt
found_short most (p ∷ pairs) c h = elim (p.1 == c) as (λ (b : Bool).
    IfSome (option_map as_written (cond b (Some p) (find (λ (q : Pair). q.1 == c) pairs))) (λ q. length q.0 ≤ most)) [
      | true ↦ h 0 (omega arith)
      | false ↦ found_short most pairs c (λ k low. h (suc k) (omega arith))
    ]

-- no character is written as more bytes than the longest pair has
pub map_most : (most : ℕ) (pairs : List Pair) → HaveAtMost most pairs → WritesAtMost most (map_writes pairs)
map_most most pairs h t c = found_short most pairs c h.each
