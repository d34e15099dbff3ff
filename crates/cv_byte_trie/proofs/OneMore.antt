-- One more entry, and the trie with it.
use Rattle.std.proofs.Common.{◌≡◌, ◌≢◌, ◌⊎◌, ℕ, ◌<◌, ◌≤◌, ◌+◌, Bool, cond, List, [], ◌∷◌, ◌++◌, length, take, get_or}
use Rattle.std.proofs.Common.{refl, sym, subst, ◌∙◌, ap, arith, inl, inr, eq-eqb, length-append}
use Rattle.std.proofs.lemmas.Bool.{cases_lt, cases_eq, ne_eqb}
use Rattle.std.proofs.lemmas.List.{same_from_push, get_or_push, get_or_append_left, length-take-le, take_all}
use Rattle.cv_base.specs.Items.{Begins}
use Rattle.cv_base.specs.Scalars.{IsScalar}
use Rattle.cv_base.proofs.Front.{Begins-trans, Begins-meet, Begins-length, Begins-take, Begins-front, Begins-same}
use Rattle.cv_byte_trie.specs.Entries.{Entry, no_entry, bytes_at, character_at, AreEntries}
use Rattle.cv_byte_trie.specs.Results.{MeetsNone, GoesOnBehind}
use Rattle.cv_byte_trie.specs.Tries.{StepsBy, tails, tail_code, none, node_code, IsAlone, IsTrie, HasTrie, IsAt}
use Rattle.cv_byte_trie.specs.Private.Growth.{end_code}
use Rattle.cv_byte_trie.proofs.Ways.{longer_by_one}
use Rattle.cv_byte_trie.proofs.Followed.{begins_none, front}

-- ---- the list

module _ (entries : List Entry) (e : Entry) where
  -- the bytes of an old entry
  pub bytes_old : (p : ℕ) → p < length entries → bytes_at (entries ++ e ∷ []) p ≡ bytes_at entries p
  bytes_old p low = ap (λ (x : Entry). x.0) (get_or_append_left entries (e ∷ []) no_entry p low)

  -- the bytes of the new entry
  pub bytes_new : (p : ℕ) → p ≡ length entries → bytes_at (entries ++ e ∷ []) p ≡ e.0
  bytes_new p is = ap (λ (x : Entry). x.0) (get_or_push entries e no_entry p (sym is))

  character_old : (p : ℕ) → p < length entries → character_at (entries ++ e ∷ []) p ≡ character_at entries p
  character_old p low = ap (λ (x : Entry). x.1) (get_or_append_left entries (e ∷ []) no_entry p low)

  character_new : (p : ℕ) → p ≡ length entries → character_at (entries ++ e ∷ []) p ≡ e.1
  character_new p is = ap (λ (x : Entry). x.1) (get_or_push entries e no_entry p (sym is))

  -- there is one entry more
  pub longer : length (entries ++ e ∷ []) ≡ length entries + 1
  longer = length-append entries (e ∷ [])

  -- a fact that holds of each old entry and of the new one holds of all
  each : (P : ℕ → Type 0) → ((p : ℕ) → p < length entries → P p) → ((p : ℕ) → p ≡ length entries → P p) → (p : ℕ)
      → p < length (entries ++ e ∷ []) → P p
  each P old new p low = elim (cases_lt p (length entries)) [ inl l ↦ old p l | inr l ↦ new p (omega (arith, longer)) ]

  -- entries stay apart if the new one meets none
  pub one_more_entry : AreEntries entries → MeetsNone entries e.0 → 0 < length e.0 → length e.0 ≤ 8 → IsScalar e.1
      → AreEntries (entries ++ e ∷ [])
  one_more_entry a meets some short scalar = record {
    some = each (λ p. 0 < length (bytes_at (entries ++ e ∷ []) p)) (λ p l. rw (bytes_old p l) (a.some p l))
        (λ p is. rw (bytes_new p is) some);
    short = each (λ p. length (bytes_at (entries ++ e ∷ []) p) ≤ 8) (λ p l. rw (bytes_old p l) (a.short p l))
        (λ p is. rw (bytes_new p is) short);
    scalar = each (λ p. IsScalar (character_at (entries ++ e ∷ []) p)) (λ p l. subst IsScalar (sym (character_old p l))
        (a.scalar p l)) (λ p is. subst IsScalar (sym (character_new p is)) scalar);
    apart = λ j k lj lk f. elim (cases_lt j (length entries)) [
      | inl l ↦ elim (cases_lt k (length entries)) [
        | inl h ↦ a.apart j k l h (rw (bytes_old j l, bytes_old k h) at f)
        | inr h ↦ absurd ((meets j l).0 (rw (bytes_old j l, bytes_new k (omega (arith, longer))) at f))
      ]
      | inr l ↦ elim (cases_lt k (length entries)) [
        | inl h ↦ absurd ((meets k h).1 (rw (bytes_new j (omega (arith, longer)), bytes_old k h) at f))
        | inr h ↦ omega (arith, longer)
      ]
    ];
  }

-- ---- the trie

-- whether two edges are the same
pub cases_same : (i b n c : ℕ) → ((n ≡ i) × (c ≡ b)) ⊎ ((n ≡ i) × (c ≡ b) → ⊥)
cases_same i b n c = elim (cases_eq n i) [
  | inl p ↦ elim (cases_eq c b) [ inl q ↦ inl (p, q) | inr q ↦ inr (λ h. q h.1) ]
  | inr p ↦ inr (λ h. p h.0)
]

-- the code that leads to an entry, by its last byte or by another
pub end_cases : (size depth index : ℕ) → ((size ≡ depth + 1) × (end_code size depth index ≡ index))
    ⊎ ((size ≢ depth + 1) × (end_code size depth index ≡ tail_code index))
end_cases size depth index = elim (cases_eq size (depth + 1)) [
  | inl e ↦ inl (e, ap (λ (t : Bool). cond t index (tail_code index)) (eq-eqb size (depth + 1) e))
  | inr e ↦ inr (e, ap (λ (t : Bool). cond t index (tail_code index)) (ne_eqb size (depth + 1) e))
]

-- it is below the code of no edge
pub end_low : (size depth index : ℕ) → index < tails → end_code size depth index < none
end_low size depth index l =
    elim (end_cases size depth index) [ inl e ↦ rw e.1 (omega arith) | inr e ↦ rw e.1 (omega arith) ]

-- if it is an index, it is the entry's own, and the byte is the entry's last
pub end_whole : (size depth index p : ℕ) → end_code size depth index ≡ p → p < tails → (size ≡ depth + 1) × (p ≡ index)
end_whole size depth index p is low = elim (end_cases size depth index) [
  | inl e ↦ (e.0, sym is ∙ e.1)
  | inr e ↦ absurd (let f : p ≡ tail_code index = sym is ∙ e.1 in omega arith)
]

-- if it is the code of an entry with bytes after the edge's, it is the entry's own, and the byte is not its last
pub end_tail : (size depth index p : ℕ) → index < tails → end_code size depth index ≡ tail_code p
    → (size ≢ depth + 1) × (p ≡ index)
end_tail size depth index p low is = elim (end_cases size depth index) [
  | inl e ↦ absurd (let f : index ≡ tail_code p = sym e.1 ∙ is in omega arith)
  | inr e ↦ (let f : tail_code index ≡ tail_code p = sym e.1 ∙ is in (e.0, omega arith))
]

-- A byte string whose first `d` bytes lead to a node, which has no edge for the next.
module _ (entries : List Entry) (a : AreEntries entries) (S : StepsBy) (count : ℕ) (w : List ℕ) (d i : ℕ)
    (r : IsAt S count entries w d i) (b : ℕ) (more : d < length w) (is : b ≡ get_or w d 0) (byte : b < 256)
    (vacant : S i b ≡ none) (small : length entries < tails) where
  here : r.way i ++ b ∷ [] ≡ take (d + 1) w
  here = front entries a S count w d i r b more is byte

  cut : length (take (d + 1) w) ≡ d + 1
  cut = length-take-le (d + 1) w (omega arith)

  -- no entry begins with the bytes up to the vacant edge, and no node is reached by them
  begins_no_entry : (p : ℕ) → p < length entries → Begins (r.way i ++ b ∷ []) (bytes_at entries p) → ⊥
  begins_no_entry p low f = begins_none entries a S count w d i r b more is byte vacant p low f

  begins_no_way : (n : ℕ) → n < count → Begins (r.way i ++ b ∷ []) (r.way n) → ⊥
  begins_no_way n low f =
      let long = Begins-length (r.way i ++ b ∷ []) (r.way n) f in
      let on = r.trie.on_way n low (omega (arith, longer_by_one (r.way i) b)) in
      let behind = on.1 in
      begins_no_entry on.0 behind.low
      (Begins-trans (r.way i ++ b ∷ []) (r.way n) (bytes_at entries on.0) f behind.front)

  begun : Begins (r.way i ++ b ∷ []) w
  begun = rw here (Begins-take (d + 1) w)

  module _ (character : ℕ) (T : StepsBy) (same : (n c : ℕ) → n < count → c < 256 → ((n ≡ i) × (c ≡ b) → ⊥)
      → T n c ≡ S n c) (set : T i b ≡ end_code (length w) d (length entries)) where
    abbrev all : List Entry
    all = entries ++ (w, character) ∷ []

    at_set : (n c : ℕ) → (n ≡ i) × (c ≡ b) → T n c ≡ end_code (length w) d (length entries)
    at_set n c h = ap (λ (y : ℕ). T y c) h.0 ∙ ap (λ (y : ℕ). T i y) h.1 ∙ set

    way_set : (n c : ℕ) → (n ≡ i) × (c ≡ b) → r.way n ++ c ∷ [] ≡ r.way i ++ b ∷ []
    way_set n c h = ap (λ (y : ℕ). r.way y ++ c ∷ []) h.0 ∙ ap (λ (y : ℕ). r.way i ++ y ∷ []) h.1

    -- another edge over which the new bytes lead comes before the vacant one, and leads to a node
    before : (n c : ℕ) → n < count → ((n ≡ i) × (c ≡ b) → ⊥) → Begins (r.way n ++ c ∷ []) w
        → Begins (r.way n ++ c ∷ []) (r.way i) × (length (r.way n) < d)
    before n c l h f =
        let one : length (r.way n ++ c ∷ []) ≡ length (r.way n) + 1 = longer_by_one (r.way n) c in
        let own : length (r.way i) ≡ d = r.deep in
        elim (cases_lt (length (r.way n)) d) [
          | inl less ↦ (Begins-meet (r.way n ++ c ∷ []) (r.way i) w f r.at (omega arith), less)
          | inr past ↦ elim (cases_eq (length (r.way n)) d) [
            | inl e ↦ absurd (
                let both = same_from_push (r.way n) (r.way i) c b (Begins-same (r.way n ++ c ∷ [])
                (r.way i ++ b ∷ []) w f begun (omega (arith, longer_by_one (r.way i) b))) in
                h (r.trie.one n i l r.low both.0, both.1))
            | inr e ↦ absurd (begins_no_way n l (Begins-meet (r.way i ++ b ∷ []) (r.way n) w begun
                (Begins-front (r.way n) (c ∷ []) w f) (omega (arith, longer_by_one (r.way i) b))))
          ]
        ]

    -- so there is such an edge
    path : (n c : ℕ) → n < count → c < 256 → ((n ≡ i) × (c ≡ b) → ⊥) → Begins (r.way n ++ c ∷ []) w → S n c ≢ none
    path n c l cb h f z =
        let g = before n c l h f in
        let own : length (r.way i) ≡ d = r.deep in
        let up = r.trie.on_way i r.low (omega (arith, g.1)) in
        let behind = up.1 in
        r.trie.there n c up.0 l cb behind.low
        (Begins-trans (r.way n ++ c ∷ []) (r.way i) (bytes_at entries up.0) g.0 behind.front) z

    -- and does not lead to an entry
    no_tail : (n c p : ℕ) → n < count → c < 256 → ((n ≡ i) × (c ≡ b) → ⊥) → Begins (r.way n ++ c ∷ []) w
        → S n c ≡ tail_code p → p < tails → ⊥
    no_tail n c p l cb h f e few = r.trie.ends n c p i l cb e few r.low (before n c l h f).0

    node_T : (n c x : ℕ) → n < count → c < 256 → T n c ≡ node_code x → (x < count) × (r.way x ≡ r.way n ++ c ∷ [])
    node_T n c x l cb e = elim (cases_same i b n c) [
      | inl h ↦ absurd (let low = end_low (length w) d (length entries) small in
          let f : end_code (length w) d (length entries) ≡ node_code x = sym (at_set n c h) ∙ e in omega arith)
      | inr h ↦ r.trie.node n c x l cb (sym (same n c l cb h) ∙ e)
    ]

    leaf_T : (n c p : ℕ) → n < count → c < 256 → T n c ≡ p → p < tails
        → (p < length all) × (bytes_at all p ≡ r.way n ++ c ∷ [])
    leaf_T n c p l cb e lp = elim (cases_same i b n c) [
      | inl h ↦ (
          let q = end_whole (length w) d (length entries) p (sym (at_set n c h) ∙ e) lp in (
            omega (arith, q.1, longer entries (w, character)),
            bytes_new entries (w, character) p q.1 ∙ sym (take_all (d + 1) w (omega (arith, q.0))) ∙ sym here
                ∙ sym (way_set n c h),
          ))
      | inr h ↦ (
          let q = r.trie.leaf n c p l cb (sym (same n c l cb h) ∙ e) lp in
          (omega (arith, q.0, longer entries (w, character)), bytes_old entries (w, character) p q.0 ∙ q.1))
    ]

    alone_new : (p : ℕ) → length w ≢ d + 1 → p ≡ length entries → IsAlone all (r.way i ++ b ∷ []) p
    alone_new p long e = record {
      on = record {
        low = omega (arith, longer entries (w, character));
        front = rw (bytes_new entries (w, character) p e) begun;
        longer = rw (bytes_new entries (w, character) p e) (omega (arith, longer_by_one (r.way i) b, r.deep));
      };
      alone = λ q lq f. elim (cases_lt q (length entries)) [
        | inl l ↦ absurd (begins_no_entry q l (rw (bytes_old entries (w, character) q l) at f))
        | inr l ↦ omega (arith, longer entries (w, character))
      ];
    }

    alone_old : (n c p : ℕ) → n < count → c < 256 → ((n ≡ i) × (c ≡ b) → ⊥) → S n c ≡ tail_code p → p < tails
        → IsAlone all (r.way n ++ c ∷ []) p
    alone_old n c p l cb h e few =
        let was = r.trie.tail n c p l cb e few in
        let on = was.on in
        record {
          on = record {
            low = omega (arith, on.low, longer entries (w, character));
            front = rw (bytes_old entries (w, character) p on.low) on.front;
            longer = rw (bytes_old entries (w, character) p on.low) on.longer;
          };
          alone = λ q lq f. elim (cases_lt q (length entries)) [
            | inl lo ↦ was.alone q lo (rw (bytes_old entries (w, character) q lo) at f)
            | inr lo ↦ absurd (no_tail n c p l cb h
                (rw (bytes_new entries (w, character) q (omega (arith, longer entries (w, character)))) at f) e few)
          ];
        }

    tail_T : (n c p : ℕ) → n < count → c < 256 → T n c ≡ tail_code p → p < tails → IsAlone all (r.way n ++ c ∷ []) p
    tail_T n c p l cb e few = elim (cases_same i b n c) [
      | inl h ↦ (
          let q = end_tail (length w) d (length entries) p small (sym (at_set n c h) ∙ e) in
          subst (λ (y : List ℕ). IsAlone all y p) (sym (way_set n c h)) (alone_new p q.0 q.1))
      | inr h ↦ alone_old n c p l cb h (sym (same n c l cb h) ∙ e) few
    ]

    ends_T : (n c p j : ℕ) → n < count → c < 256 → T n c ≡ tail_code p → p < tails → j < count
        → Begins (r.way n ++ c ∷ []) (r.way j) → ⊥
    ends_T n c p j l cb e few lj f = elim (cases_same i b n c) [
      | inl h ↦ begins_no_way j lj (subst (λ (y : List ℕ). Begins y (r.way j)) (way_set n c h) f)
      | inr h ↦ r.trie.ends n c p j l cb (sym (same n c l cb h) ∙ e) few lj f
    ]

    there_T : (n c p : ℕ) → n < count → c < 256 → p < length all → Begins (r.way n ++ c ∷ []) (bytes_at all p)
        → T n c ≢ none
    there_T n c p l cb lp f = elim (cases_same i b n c) [
      | inl h ↦ λ z. (let low = end_low (length w) d (length entries) small in
          let g : end_code (length w) d (length entries) ≡ none = sym (at_set n c h) ∙ z in omega arith)
      | inr h ↦ λ z. elim (cases_lt p (length entries)) [
        | inl lq ↦
            r.trie.there n c p l cb lq (rw (bytes_old entries (w, character) p lq) at f) (sym (same n c l cb h) ∙ z)
        | inr lq ↦ path n c l cb h (rw (bytes_new entries (w, character) p
            (omega (arith, longer entries (w, character)))) at f) (sym (same n c l cb h) ∙ z)
      ]
    ]

    on_way_T : (n : ℕ) → n < count → 0 < length (r.way n) → (p : ℕ) × GoesOnBehind all (r.way n) p
    on_way_T n low some =
        let up = r.trie.on_way n low some in
        let behind = up.1 in (
          up.0,
          record {
            low = omega (arith, behind.low, longer entries (w, character));
            front = rw (bytes_old entries (w, character) up.0 behind.low) behind.front;
            longer = rw (bytes_old entries (w, character) up.0 behind.low) behind.longer;
          },
        )

    is_trie : IsTrie T r.way count all
    is_trie = record {
      some = r.trie.some;
      root = r.trie.root;
      node = node_T;
      leaf = leaf_T;
      tail = tail_T;
      ends = ends_T;
      there = there_T;
      one = r.trie.one;
      on_way = on_way_T;
    }

    -- the steps are those of the trie with one more entry
    pub one_more_trie : HasTrie T count all
    one_more_trie = record { way = r.way; trie = is_trie }

    -- the bytes before the vacant edge lead to the same node
    pub one_more_at : IsAt T count all w d i
    one_more_at = record { way = r.way; trie = is_trie; low = r.low; at = r.at; deep = r.deep }

-- a root with no edge is the trie of no entries
pub root_alone : (S : StepsBy) → ((b : ℕ) → b < 256 → S 0 b ≡ none) → HasTrie S 1 []
root_alone S empty =
    let all : (i b : ℕ) → i < 1 → b < 256
    → S i b ≡ none = λ i b l byte. ap (λ (x : ℕ). S x b) (let o : i ≡ 0 = omega arith in o) ∙ empty b byte in
    record {
      way = λ _. [];
      trie = record {
        some = omega arith;
        root = refl;
        node = λ i b j l byte e. absurd (let r : none ≡ node_code j = sym (all i b l byte) ∙ e in omega arith);
        leaf = λ i b p l byte e small. absurd (let r : none ≡ p = sym (all i b l byte) ∙ e in omega arith);
        tail = λ i b p l byte e small. absurd (let r : none ≡ tail_code p = sym (all i b l byte) ∙ e in omega arith);
        ends = λ i b p j l byte e small lj f. (let r : none ≡ tail_code p = sym (all i b l byte) ∙ e in omega arith);
        there = λ i b p l byte lp f. absurd (omega arith);
        one = λ i j l h e. omega arith;
        on_way = λ i l some. absurd (omega arith);
      };
    }
