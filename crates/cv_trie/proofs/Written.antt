-- Characters that are written one after another, by the pages of a charmap.
use Rattle.std.proofs.Common.{◌≡◌, ◌≢◌, ℕ, ◌+◌, ◌<◌, List, [], ◌∷◌, ◌++◌, length, take, get_or, refl, sym, ◌∙◌, ap}
use Rattle.std.proofs.Common.{arith, Some, None, Option, length-append}
use Rattle.std.proofs.Math.Seq.{drop-cons, take-add}
use Rattle.std.specs.Prelude.{IsSome}
use Rattle.cv_base.specs.Scalars.{question}
use Rattle.cv_base.specs.Codecs.{Writing}
use Rattle.cv_base.specs.Chains.{output, written, put_or, substituted, followed, output_for}
use Rattle.cv_base.specs.declared.state.WriteState.{WriteState}
use Rattle.cv_base.specs.declared.state.WriteState.TheVariants as write
use Rattle.cv_base.proofs.ChainLaws.{output_for-append, output_for-one}
use Rattle.cv_byte_trie.specs.Entries.{Entry, bytes_at}
use Rattle.cv_charmap.specs.Maps.{IsMap}
use Rattle.cv_pages.specs.Paging.{unmapped, NameFirst}
use Rattle.cv_trie.specs.Charmaps.{map_writes}
use Rattle.cv_trie.specs.Private.Prefixes.{IsWrittenPrefix}
use Rattle.cv_trie.proofs.MapLaws.{map_substitutes}
use Rattle.cv_trie.proofs.FirstWritten.{writes_index, writes_nothing}

not_none : {X : Type 0} (o : Option X) → IsSome o → o ≡ None → ⊥
not_none (Some x) h e = cc
not_none None h e = cc

module _ (entries : List Entry) (index : ℕ → ℕ) (h : NameFirst index (length entries) entries) where
  -- what is written for a character that the charmap has
  pub chosen : (c k : ℕ) → k ≡ index c → k ≢ unmapped
      → written (map_writes entries) write.Start (Some c) ≡ output (bytes_at entries k) 0 write.Start
  chosen c k is has = ap (put_or (substituted write.Start (map_writes entries write.Start question)))
      (writes_index entries index h c k is has write.Start)

  -- what is written for one that it lacks
  pub chosen_substitute : (c j k : ℕ) → j ≡ index c → j ≡ unmapped → k ≡ index question → k ≢ unmapped
      → written (map_writes entries) write.Start (Some c) ≡ output (bytes_at entries k) 1 write.Start
  chosen_substitute c j k none lacks is has = ap (put_or (substituted write.Start
      (map_writes entries write.Start question))) (writes_nothing entries index h c j none lacks write.Start)
      ∙ ap (substituted write.Start) (writes_index entries index h question k is has write.Start)

  -- the charmap has `?`
  pub substitute_has : IsMap entries → (k : ℕ) → k ≡ index question → k ≢ unmapped
  substitute_has m k is none = not_none (map_writes entries write.Start question)
      (map_substitutes entries m write.Start) (writes_nothing entries index h question k is none write.Start)

-- one more character is written
pub written_more : (writes : Writing) (characters buffer after w : List ℕ) (k used count m c size : ℕ)
    → IsWrittenPrefix writes (take k characters) buffer used count → k < length characters → c ≡ get_or characters k c
    → written writes write.Start (Some c) ≡ output w m write.Start → size ≡ length w → take (used + size) after
    ≡ take used buffer ++ w → IsWrittenPrefix writes (take (k + 1) characters) after (used + size) (count + m)
written_more writes characters buffer after w k used count m c size s low is e n stand =
    let o = output_for writes write.Start (take k characters) in
    let one : take (k + 1) characters ≡ take k characters ++ c ∷ [] =
    take-add k 1 characters ∙ ap (λ (x : List ℕ). take k characters ++ x)
    (ap (λ (x : List ℕ). take 1 x) (drop-cons characters k c low) ∙ ap (λ (d : ℕ). d ∷ []) (sym is)) in
    let all : output_for writes write.Start (take (k + 1) characters) ≡ followed o (output w m write.Start) =
    ap (output_for writes write.Start) one ∙ output_for-append writes write.Start (take k characters) (c ∷ []) ∙ ap
    (followed o) (output_for-one writes o.next c ∙ ap (λ (u : WriteState). written writes u (Some c)) s.next ∙ e) in
    record {
      bytes = rw all (stand ∙ ap (λ (x : List ℕ). x ++ w) s.bytes);
      uses = rw all (omega (arith, length-append o.bytes w, s.uses, n));
      counts = rw all (ap (λ (x : ℕ). x + m) s.counts);
      next = rw all refl;
    }

-- what was written stays if the buffer changes behind it
pub written_same : (writes : Writing) (characters before after : List ℕ) (used count : ℕ)
    → take used after ≡ take used before → IsWrittenPrefix writes characters before used count
    → IsWrittenPrefix writes characters after used count
written_same writes characters before after used count same w = record {
  bytes = same ∙ w.bytes;
  uses = w.uses;
  counts = w.counts;
  next = w.next;
}
