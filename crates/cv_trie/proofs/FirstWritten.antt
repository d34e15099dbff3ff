-- Which bytes are written for a character, by the index that pages name for it.
use Rattle.std.proofs.Common.{◌≡◌, ◌≢◌, ◌==◌, ℕ, zero, suc, ◌<◌, List, [], ◌∷◌, length, get_or, refl, sym, ◌∙◌, ap}
use Rattle.std.proofs.Common.{arith, eq-eqb, Some, None, option_map}
use Rattle.std.proofs.lemmas.Bool.{ne_eqb}
use Rattle.std.specs.List.{find}
use Rattle.cv_base.specs.declared.state.WriteState.{WriteState}
use Rattle.cv_base.specs.declared.state.WriteState.TheVariants as write
use Rattle.cv_byte_trie.specs.Entries.{Entry, bytes_at, character_at}
use Rattle.cv_byte_trie.proofs.ReadEntries.{entry_bytes}
use Rattle.cv_pages.specs.Paging.{unmapped, NameFirst}
use Rattle.cv_pages.proofs.FirstIndices.{index_low}
use Rattle.cv_trie.specs.Charmaps.{as_written, map_writes}

find_first : (entries : List Entry) (c k : ℕ) → k < length entries
    → character_at entries k ≡ c → ((j : ℕ) → j < k → character_at entries j ≢ c)
    → option_map as_written (find (λ (p : Entry). p.1 == c) entries) ≡ Some (bytes_at entries k, write.Start)
find_first [] c k l e h = absurd (omega arith)
find_first (p ∷ entries) c zero l e h = rw (eq-eqb p.1 c e) refl
find_first (p ∷ entries) c (suc k) l e h =
    rw (ne_eqb p.1 c (h 0 (omega arith))) (find_first entries c k (omega arith) e (λ j m. h (suc j) (omega arith)))

find_none : (entries : List Entry) (c : ℕ) → ((j : ℕ) → j < length entries → character_at entries j ≢ c)
    → option_map as_written (find (λ (p : Entry). p.1 == c) entries) ≡ None
find_none [] c h = refl
find_none (p ∷ entries) c h =
    rw (ne_eqb p.1 c (h 0 (omega arith))) (find_none entries c (λ j m. h (suc j) (omega arith)))

module _ (entries : List Entry) (index : ℕ → ℕ) (h : NameFirst index (length entries) entries) (c k : ℕ)
    (is : k ≡ index c) where
  -- a character that has an index is written as the bytes of the pair there
  pub writes_index : k ≢ unmapped → (t : WriteState) → map_writes entries t c ≡ Some (bytes_at entries k, write.Start)
  writes_index has t =
      let some : index c ≢ unmapped = λ z. has (is ∙ z) in
      find_first entries c (index c) (h.low c some) (h.of c some) (λ j l. h.first c j some l)
      ∙ ap (λ (x : ℕ). Some (bytes_at entries x, write.Start)) (sym is)

  -- the pair there may be given as an element of the list
  pub writes_entry : k ≢ unmapped → (x : Entry) → x ≡ get_or entries k x
      → map_writes entries write.Start c ≡ Some (x.0, write.Start)
  writes_entry has x at =
      let low = index_low entries index h c k is has in
      writes_index has write.Start ∙ ap (λ (w : List ℕ). Some (w, write.Start)) (entry_bytes entries k x low at)

  -- a character that has none is lacking
  pub writes_nothing : k ≡ unmapped → (t : WriteState) → map_writes entries t c ≡ None
  writes_nothing none t = find_none entries c (λ j l. h.lacks c j (sym is ∙ none) l)
