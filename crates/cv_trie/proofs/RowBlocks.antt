-- Blocks for longer strings, whose numbers are put into the rows of pairs.
use Rattle.std.proofs.Common.{◌≡◌, ℕ, ◌+◌, ◌<◌, List, length, get_or, slice_set, get_or-set_other}
use Rattle.std.proofs.Common.{get_or-set_same, refl, sym, ap, ◌∙◌, inl, inr}
use Rattle.std.proofs.lemmas.Bool.{cases_eq}
use Rattle.std.proofs.lemmas.List.{length-set}
use Rattle.cv_charmap.specs.Entries.{Pair}
use Rattle.cv_trie.specs.Private.Ones.{no_character}
use Rattle.cv_trie.specs.Private.Twos.{row_of, two_at, AreTwos, AddsNoCharacter}

-- nothing is changed
pub adds_none : (rows : List ℕ) → AddsNoCharacter rows rows
adds_none rows = record { size = refl; cells = λ k some. refl }

-- one more cell gets a number that is no character, or that it had before
pub adds_none_set : (before rows : List ℕ) (k v : ℕ) → AddsNoCharacter before rows
    → (v < no_character → v ≡ get_or rows k 0) → k < length rows → AddsNoCharacter before (slice_set rows k v)
adds_none_set before rows k v a none low = record {
  size = length-set rows k v ∙ a.size;
  cells = λ j some. elim (cases_eq j k) [
    | inl same ↦ (
        let e : get_or (slice_set rows k v) j 0 ≡ v = rw same (get_or-set_same rows k v 0 low) in
        let less : v < no_character = rw e at some in
        let there : get_or rows k 0 < no_character = rw (none less) at less in
        let here : get_or rows j 0 ≡ get_or before j 0 = rw same (a.cells k there) in
        e ∙ none less ∙ ap (λ (i : ℕ). get_or rows i 0) (sym same) ∙ here)
    | inr ne ↦ (
        let e : get_or (slice_set rows k v) j 0 ≡ get_or rows j 0 = get_or-set_other rows k j v 0 ne in
        e ∙ a.cells j (rw e at some))
  ];
}

-- cells are changed twice
pub adds_none_twice : (first second third : List ℕ) → AddsNoCharacter first second → AddsNoCharacter second third
    → AddsNoCharacter first third
adds_none_twice first second third a b = record {
  size = b.size ∙ a.size;
  cells = λ k some. (let e = b.cells k some in e ∙ a.cells k (rw e at some));
}

-- the characters of pairs stay
pub twos_stay : (pairs : List Pair) (ones before after : List ℕ) → AddsNoCharacter before after
    → AreTwos pairs ones before → AreTwos pairs ones after
twos_stay pairs ones before after a t = record {
  within = λ b l. rw a.size (t.within b l);
  each = λ b c first second some. (
      let e : two_at ones after b c ≡ two_at ones before b c = a.cells (row_of ones b + c) some in
      rw e (t.each b c first second (rw e at some)));
}
