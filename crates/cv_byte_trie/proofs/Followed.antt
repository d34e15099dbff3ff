-- Where the bytes of a text lead.
use Rattle.std.proofs.Common.{◌≡◌, ℕ, ◌<◌, ◌≤◌, ◌+◌, List, [], ◌∷◌, ◌++◌, length, take, get_or, refl, sym, subst, ◌∙◌}
use Rattle.std.proofs.Common.{ap, arith, inl, inr}
use Rattle.std.proofs.lemmas.Bool.{cases_lt}
use Rattle.std.proofs.lemmas.List.{length-take-le}
use Rattle.cv_base.specs.Items.{Begins}
use Rattle.cv_base.proofs.Front.{Begins-trans, Begins-meet, Begins-length, Begins-take, Begins-same, Begins-refl}
use Rattle.cv_byte_trie.specs.Entries.{Entry, bytes_at, AreEntries}
use Rattle.cv_byte_trie.specs.Results.{MeetsNone, GoesOnBehind}
use Rattle.cv_byte_trie.specs.Tries.{StepsBy, tails, tail_code, none, node_code, IsAlone, IsAt}
use Rattle.cv_byte_trie.specs.Private.Reading.{IsVacant, IsTail}
use Rattle.cv_byte_trie.specs.declared.walking.Tail.{Tail}
use Rattle.cv_byte_trie.proofs.Ways.{Begins-more, longer_by_one}

module _ (entries : List Entry) (a : AreEntries entries) (S : StepsBy) (count : ℕ) (x : List ℕ) (d i : ℕ)
    (r : IsAt S count entries x d i) where
  -- the text begins with no entry of this length or less
  short : (p : ℕ) → p < length entries → Begins (bytes_at entries p) x → length (bytes_at entries p) ≤ d → ⊥
  short p low front l =
      let some = a.some p low in
      let on = r.trie.on_way i r.low (omega (arith, r.deep)) in
      let more = on.1 in
      let same : p ≡ on.0 =
      a.apart p on.0 low more.low (Begins-trans (bytes_at entries p) (r.way i) (bytes_at entries on.0)
      (Begins-meet (bytes_at entries p) (r.way i) x front r.at (omega (arith, r.deep))) more.front) in
      let size : length (bytes_at entries p) ≡ length (bytes_at entries on.0) =
      ap (λ (k : ℕ). length (bytes_at entries k)) same in
      omega (arith, more.longer, r.deep)

  -- the text ends at the node
  pub ends_inside : length x ≤ d → 0 < length x → (p : ℕ) × GoesOnBehind entries x p
  ends_inside l some =
      let e : r.way i ≡ x = Begins-same (r.way i) x x r.at (Begins-refl x) (let m = Begins-length (r.way i) x r.at in
      omega (arith, r.deep)) in
      let some_way : 0 < length (r.way i) = rw e some in
      let on = r.trie.on_way i r.low some_way in
      (on.0, subst (λ (w : List ℕ). GoesOnBehind entries w on.0) e on.1)

  module _ (b : ℕ) (more : d < length x) (is : b ≡ get_or x d 0) (byte : b < 256) where
    begun : Begins (r.way i ++ b ∷ []) x
    begun = Begins-more (r.way i) x d b r.at r.deep more is

    size : length (r.way i ++ b ∷ []) ≡ d + 1
    size = longer_by_one (r.way i) b ∙ ap (λ (n : ℕ). n + 1) r.deep

    -- the text begins with the bytes that lead to a node and the next byte
    pub front : r.way i ++ b ∷ [] ≡ take (d + 1) x
    front = Begins-same (r.way i ++ b ∷ []) (take (d + 1) x) x begun (Begins-take (d + 1) x)
        (size ∙ sym (length-take-le (d + 1) x (omega arith)))

    -- to an entry
    pub leads_to_leaf : (p : ℕ) → p ≡ S i b → p < tails → (p < length entries) × (bytes_at entries p ≡ take (d + 1) x)
    leads_to_leaf p e l = let q = r.trie.leaf i b p r.low byte (sym e) l in (q.0, q.1 ∙ front)

    -- to an entry that has bytes after this one
    pub leads_to_tail : (p : ℕ) → S i b ≡ tail_code p → p < tails
        → IsTail S count entries x (record { node = i; depth = d; index = p })
    leads_to_tail p e l = record { here = r; more = more; byte = rw is at byte; code = rw is at e; few = l }

    -- to a node
    pub leads_to_node : (j : ℕ) → S i b ≡ node_code j → IsAt S count entries x (d + 1) j
    leads_to_node j e =
        let n = r.trie.node i b j r.low byte e in
        record { way = r.way; trie = r.trie; low = n.0; at = rw n.1 begun; deep = ap length n.1 ∙ size }

    -- nowhere
    pub leads_nowhere : S i b ≡ none → IsVacant S count entries x d i
    leads_nowhere e = record { here = r; more = more; byte = rw is at byte; vacant = rw is at e }

    none_begins : S i b ≡ none → (p : ℕ) → p < length entries → Begins (bytes_at entries p) x → ⊥
    none_begins e p low f = elim (cases_lt d (length (bytes_at entries p))) [
      | inl l ↦ r.trie.there i b p r.low byte low
          (Begins-meet (r.way i ++ b ∷ []) (bytes_at entries p) x begun f (omega (arith, size))) e
      | inr l ↦ short p low f l
    ]

    -- if the next byte leads nowhere, no entry begins with the bytes up to it
    pub begins_none : S i b ≡ none → (p : ℕ) → p < length entries → Begins (r.way i ++ b ∷ []) (bytes_at entries p) → ⊥
    begins_none e p low f = r.trie.there i b p r.low byte low f e

    -- if the next byte leads nowhere, the text meets no entry
    pub meets_none : S i b ≡ none → MeetsNone entries x
    meets_none e p low = (
      none_begins e p low,
      λ f. begins_none e p low (Begins-trans (r.way i ++ b ∷ []) x (bytes_at entries p) begun f),
    )

-- a text that leads nowhere meets no entry
pub vacant_meets_none : (entries : List Entry) → AreEntries entries → (S : StepsBy) (count : ℕ) (x : List ℕ) (d i : ℕ)
    → IsVacant S count entries x d i → MeetsNone entries x
vacant_meets_none entries a S count x d i v =
    meets_none entries a S count x d i v.here (get_or x d 0) v.more refl v.byte v.vacant

-- The next byte leads to an entry that has bytes after it.
module _ (entries : List Entry) (a : AreEntries entries) (S : StepsBy) (count : ℕ) (x : List ℕ) (tail : Tail)
    (t : IsTail S count entries x tail) where
  -- it is the only entry that begins with these bytes
  pub tail_alone : IsAlone entries (t.here.way tail.node ++ get_or x tail.depth 0 ∷ []) tail.index
  tail_alone = t.here.trie.tail tail.node (get_or x tail.depth 0) tail.index t.here.low t.byte t.code t.few

  -- there is such an entry
  pub tail_low : tail.index < length entries
  tail_low = tail_alone.on.low

  -- the text begins with the bytes that lead to it
  pub tail_begun : Begins (t.here.way tail.node ++ get_or x tail.depth 0 ∷ []) x
  tail_begun = Begins-more (t.here.way tail.node) x tail.depth (get_or x tail.depth 0) t.here.at t.here.deep t.more refl

  pub tail_size : length (t.here.way tail.node ++ get_or x tail.depth 0 ∷ []) ≡ tail.depth + 1
  tail_size = longer_by_one (t.here.way tail.node) (get_or x tail.depth 0) ∙ ap (λ (n : ℕ). n + 1) t.here.deep

  -- a text that does not meet that entry meets none
  pub tail_meets_none : (Begins (bytes_at entries tail.index) x → ⊥) → (Begins x (bytes_at entries tail.index) → ⊥)
      → MeetsNone entries x
  tail_meets_none not_held not_begun p low = (
    λ f. elim (cases_lt tail.depth (length (bytes_at entries p))) [
      | inl l ↦ (
          let same : p ≡ tail.index = tail_alone.alone p low (Begins-meet (t.here.way tail.node
          ++ get_or x tail.depth 0 ∷ []) (bytes_at entries p) x tail_begun f (omega (arith, tail_size))) in
          not_held (subst (λ (k : ℕ). Begins (bytes_at entries k) x) same f))
      | inr l ↦ short entries a S count x tail.depth tail.node t.here p low f l
    ],
    λ f. (
        let same : p ≡ tail.index = tail_alone.alone p low
        (Begins-trans (t.here.way tail.node ++ get_or x tail.depth 0 ∷ []) x (bytes_at entries p) tail_begun f) in
        not_begun (subst (λ (k : ℕ). Begins x (bytes_at entries k)) same f)),
  )
