-- Pages that are numbered, and the indices that they name.
use Rattle.std.proofs.Common.{◌≡◌, ◌≢◌, ℕ, ◌<◌, ◌+◌, ◌/◌, ◌%◌, List, length, get_or, slice_set, sym, ◌∙◌, ap, arith}
use Rattle.std.proofs.Common.{inl, inr}
use Rattle.std.proofs.lemmas.Bool.{cases_lt, cases_eq}
use Rattle.std.proofs.lemmas.List.{get_or-set_same, get_or-set_other, get_or_past}
use Rattle.cv_byte_trie.specs.Entries.{Entry, character_at}
use Rattle.cv_pages.specs.Paging.{unmapped, cell_of, index_of, NameFirst}
use Rattle.cv_pages.specs.Private.Numbered.{AreNumbered}

-- ---- numbered pages

-- 64 characters that have a page of their own are within `stage1`
pub has_page : (stage1 : List ℕ) (t : ℕ) → 0 < get_or stage1 t 0 → t < length stage1
has_page stage1 t some = elim (cases_lt t (length stage1)) [
  | inl low ↦ low
  | inr past ↦ absurd (let none = get_or_past stage1 t 0 past in omega arith)
]

-- ---- naming indices

-- two characters have different cells if one has a page of its own
cells_apart : (stage1 : List ℕ) (size c d : ℕ) → AreNumbered stage1 size → 0 < get_or stage1 (c / 64) 0
    → cell_of stage1 d ≡ cell_of stage1 c → d ≡ c
cells_apart stage1 size c d n some e =
    let page : get_or stage1 (d / 64) 0 ≡ get_or stage1 (c / 64) 0 =
    omega (arith, e, n.begins (c / 64), n.begins (d / 64)) in
    let within : d % 64 ≡ c % 64 = omega arith in
    let top : d / 64 ≡ c / 64 = n.apart (d / 64) (c / 64) page some in
    omega arith

-- the next entry's index is put into the cell of its character, if the cell is vacant
pub named_more : (stage1 stage2 : List ℕ) (size k c : ℕ) (entries : List Entry) → AreNumbered stage1 size
    → 0 < get_or stage1 (c / 64) 0 → cell_of stage1 c < length stage2 → k < unmapped → c ≡ character_at entries k
    → index_of stage1 stage2 c ≡ unmapped → NameFirst (index_of stage1 stage2) k entries
    → NameFirst (index_of stage1 (slice_set stage2 (cell_of stage1 c) k)) (k + 1) entries
named_more stage1 stage2 size k c entries n some within small is vacant h =
    let q : ℕ → ℕ = index_of stage1 (slice_set stage2 (cell_of stage1 c) k) in
    let mine : q c ≡ k = get_or-set_same stage2 (cell_of stage1 c) k unmapped within in
    let other : (d : ℕ) → d ≢ c → q d ≡ index_of stage1 stage2 d = λ d ne. get_or-set_other stage2 (cell_of stage1 c)
    (cell_of stage1 d) k unmapped (λ e. ne (cells_apart stage1 size c d n some e)) in
    record {
      low = λ d has. elim (cases_eq d c) [
        | inl e ↦ (let now : q d ≡ k = ap q e ∙ mine in omega arith)
        | inr ne ↦ (let now = other d ne in let l = h.low d (λ z. has (now ∙ z)) in omega arith)
      ];
      of = λ d has. elim (cases_eq d c) [
        | inl e ↦ (let now : q d ≡ k = ap q e ∙ mine in ap (character_at entries) now ∙ sym is ∙ sym e)
        | inr ne ↦ (let now = other d ne in ap (character_at entries) now ∙ h.of d (λ z. has (now ∙ z)))
      ];
      first = λ d j has l. elim (cases_eq d c) [
        | inl e ↦ (let now : q d ≡ k = ap q e ∙ mine in λ z. h.lacks c j vacant (omega arith) (z ∙ e))
        | inr ne ↦ (let now = other d ne in h.first d j (λ z. has (now ∙ z)) (omega arith))
      ];
      lacks = λ d j none l. elim (cases_eq d c) [
        | inl e ↦ absurd (let now : q d ≡ k = ap q e ∙ mine in omega arith)
        | inr ne ↦ elim (cases_lt j k) [
          | inl lower ↦ h.lacks d j (sym (other d ne) ∙ none) lower
          | inr upper ↦ (let last : j ≡ k = omega arith in λ z. ne (sym z ∙ ap (character_at entries) last ∙ sym is))
        ]
      ];
    }

-- the next entry's character has an index already
pub named_kept : (index : ℕ → ℕ) (k c : ℕ) (entries : List Entry) → c ≡ character_at entries k → index c ≢ unmapped
    → NameFirst index k entries → NameFirst index (k + 1) entries
named_kept index k c entries is has h = record {
  low = λ d some. (let l = h.low d some in omega arith);
  of = h.of;
  first = h.first;
  lacks = λ d j none l. elim (cases_lt j k) [
    | inl lower ↦ h.lacks d j none lower
    | inr upper ↦
        (let last : j ≡ k = omega arith in λ z. has (ap index (is ∙ sym (ap (character_at entries) last) ∙ z) ∙ none))
  ];
}

-- the index of a character is within the list
pub index_low : (entries : List Entry) (index : ℕ → ℕ) → NameFirst index (length entries) entries → (c k : ℕ)
    → k ≡ index c → k ≢ unmapped → k < length entries
index_low entries index h c k is has = let l = h.low c (λ z. has (is ∙ z)) in omega arith
