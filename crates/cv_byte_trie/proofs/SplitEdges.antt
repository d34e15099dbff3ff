-- An edge that leads to an entry, lowered: new nodes lead over bytes of the entry, and the last of them to it.
use Rattle.std.proofs.Common.{◌≡◌, ◌≢◌, ◌⊎◌, ℕ, ◌<◌, ◌+◌, ◌-◌, cond, ltb, List, [], ◌∷◌, ◌++◌, length, take, get_or}
use Rattle.std.proofs.Common.{refl, sym, subst, ◌∙◌, ap, arith, inl, inr}
use Rattle.std.proofs.lemmas.Bool.{cases_lt, cases_eq, lt-ltb, le-ltb}
use Rattle.std.proofs.lemmas.List.{same_from_push, take_more, length-take-le, take_all}
use Rattle.cv_base.specs.Items.{Begins}
use Rattle.cv_base.proofs.Front.{Begins-trans, Begins-meet, Begins-length, Begins-take, Begins-front, Begins-same}
use Rattle.cv_byte_trie.specs.Entries.{Entry, bytes_at, AreEntries}
use Rattle.cv_byte_trie.specs.Results.{GoesOnBehind}
use Rattle.cv_byte_trie.specs.Tries.{StepsBy, tails, tail_code, none, node_code, IsAlone, IsTrie, IsAt}
use Rattle.cv_byte_trie.specs.Private.Growth.{end_code, code_behind}
use Rattle.cv_byte_trie.proofs.Ways.{longer_by_one}
use Rattle.cv_byte_trie.proofs.Followed.{front}
use Rattle.cv_byte_trie.proofs.Chains.{behind_some}
use Rattle.cv_byte_trie.proofs.OneMore.{cases_same, end_low, end_whole, end_tail}

-- A byte `b` leads from node `i` to the entry at `p`, which has bytes after it. `m` new nodes lead over its bytes up to
-- index `l`.
module _ (entries : List Entry) (a : AreEntries entries) (S : StepsBy) (count p : ℕ) (lp : p < length entries) (d i : ℕ)
    (r : IsAt S count entries (bytes_at entries p) d i) (b : ℕ) (more : d < length (bytes_at entries p))
    (is : b ≡ get_or (bytes_at entries p) d 0) (byte : b < 256) (leads : S i b ≡ tail_code p) (few : p < tails)
    (l m : ℕ) (size : d + m ≡ l) (some : 0 < m) (fits : l < length (bytes_at entries p)) where
  abbrev v : List ℕ
  v = bytes_at entries p

  abbrev last : ℕ
  last = end_code (length v) l p

  here : r.way i ++ b ∷ [] ≡ take (d + 1) v
  here = front entries a S count v d i r b more is byte

  cut : length (take (d + 1) v) ≡ d + 1
  cut = length-take-le (d + 1) v (omega arith)

  -- only this entry begins with the bytes up to that edge, and they are no prefix of the bytes that lead to a node
  only_this : (q : ℕ) → q < length entries → Begins (take (d + 1) v) (bytes_at entries q) → q ≡ p
  only_this q low f = (r.trie.tail i b p r.low byte leads few).alone q low (rw here f)

  no_way : (n : ℕ) → n < count → Begins (take (d + 1) v) (r.way n) → ⊥
  no_way n low f = r.trie.ends i b p n r.low byte leads few low (rw here f)

  -- the codes of new edges
  code_last : (j : ℕ) → j ≡ 0 → code_behind last count j ≡ last
  code_last j e = ap (code_behind last count) e

  code_some : (j : ℕ) → code_behind last count j ≢ none
  code_some j z = elim (cases_eq j 0) [
    | inl e ↦ (let low = end_low (length v) l p few in let f : last ≡ none = sym (code_last j e) ∙ z in omega arith)
    | inr e ↦
        (let f : node_code (count + j - 1) ≡ none = sym (behind_some last count j (omega arith)) ∙ z in omega arith)
  ]

  code_node : (j x : ℕ) → code_behind last count j ≡ node_code x → (0 < j) × (x ≡ count + (j - 1))
  code_node j x e = elim (cases_eq j 0) [
    | inl z ↦ absurd (let low = end_low (length v) l p few in let f : last ≡ node_code x = sym (code_last j z) ∙ e in
        omega arith)
    | inr z ↦ (let f : node_code (count + j - 1) ≡ node_code x = sym (behind_some last count j (omega arith)) ∙ e in
        (omega arith, omega arith))
  ]

  code_entry : (j q : ℕ) → code_behind last count j ≡ q → q < tails → (j ≡ 0) × (q ≡ p) × (length v ≡ l + 1)
  code_entry j q e low = elim (cases_eq j 0) [
    | inl z ↦ (let h = end_whole (length v) l p q (sym (code_last j z) ∙ e) low in (z, h.1, h.0))
    | inr z ↦
        absurd (let f : node_code (count + j - 1) ≡ q = sym (behind_some last count j (omega arith)) ∙ e in omega arith)
  ]

  code_tail : (j q : ℕ) → code_behind last count j ≡ tail_code q → q < tails → (j ≡ 0) × (q ≡ p) × (length v ≢ l + 1)
  code_tail j q e low = elim (cases_eq j 0) [
    | inl z ↦ (let h = end_tail (length v) l p q few (sym (code_last j z) ∙ e) in (z, h.1, h.0))
    | inr z ↦ absurd (let f : node_code (count + j - 1) ≡ tail_code q = sym (behind_some last count j (omega arith))
        ∙ e in omega arith)
  ]

  -- the bytes that lead to each node
  pub way_with : ℕ → List ℕ
  way_with n = cond (ltb n count) (r.way n) (take (l - (n - count)) v)

  way_old : (n : ℕ) → n < count → way_with n ≡ r.way n
  unfolding way_with
  way_old n low = rw (lt-ltb n count low) refl

  pub way_new : (j : ℕ) → way_with (count + j) ≡ take (l - j) v
  unfolding way_with
  way_new j = rw (le-ltb (count + j) count (omega arith))
      (ap (λ (x : ℕ). take (l - x) v) (let e : count + j - count ≡ j = omega arith in e))

  way_size : (j : ℕ) → length (take (l - j) v) ≡ l - j
  way_size j = length-take-le (l - j) v (omega arith)

  -- the bytes that lead to a new node, and its next byte
  way_on : (j c : ℕ) → c ≡ get_or v (l - j) 0 → way_with (count + j) ++ c ∷ [] ≡ take (l - j + 1) v
  way_on j c e = ap (λ (x : List ℕ). x ++ c ∷ []) (way_new j) ∙ ap (λ (x : ℕ). take (l - j) v ++ x ∷ []) e
      ∙ sym (take_more v (l - j) 0 (omega arith))

  -- a node is an old or a new one
  cases_node : (n : ℕ) → n < count + m → (n < count) ⊎ ((j : ℕ) × (j < m) × (n ≡ count + j))
  cases_node n low = elim (cases_lt n count) [ inl l ↦ inl l | inr l ↦ inr (n - count, omega arith, omega arith) ]

  -- the bytes that lead to a new node begin with those up to the edge
  longer_front : (j : ℕ) → j < m → Begins (take (d + 1) v) (take (l - j) v)
  longer_front j low = Begins-meet (take (d + 1) v) (take (l - j) v) v (Begins-take (d + 1) v) (Begins-take (l - j) v)
      (omega (arith, cut, way_size j))

  module _ (T : StepsBy) (same : (n c : ℕ) → n < count → c < 256 → ((n ≡ i) × (c ≡ b) → ⊥) → T n c ≡ S n c)
      (set : T i b ≡ code_behind last count m)
      (on : (j : ℕ) → j < m → get_or v (l - j) 0 < 256 → T (count + j) (get_or v (l - j) 0) ≡ code_behind last count j)
      (off : (j c : ℕ) → j < m → c < 256 → c ≢ get_or v (l - j) 0 → T (count + j) c ≡ none) where
    at_set : (n c : ℕ) → (n ≡ i) × (c ≡ b) → T n c ≡ code_behind last count m
    at_set n c h = ap (λ (y : ℕ). T y c) h.0 ∙ ap (λ (y : ℕ). T i y) h.1 ∙ set

    at_new : (j n c : ℕ) → j < m → n ≡ count + j → c < 256 → c ≡ get_or v (l - j) 0 → T n c ≡ code_behind last count j
    at_new j n c low e cb f = ap (λ (y : ℕ). T y c) e ∙ ap (T (count + j)) f ∙ on j low (rw f at cb)

    at_off : (j n c : ℕ) → j < m → n ≡ count + j → c < 256 → c ≢ get_or v (l - j) 0 → T n c ≡ none
    at_off j n c low e cb f = ap (λ (y : ℕ). T y c) e ∙ off j c low cb f

    way_set : (n c : ℕ) → n < count → (n ≡ i) × (c ≡ b) → way_with n ++ c ∷ [] ≡ take (d + 1) v
    way_set n c low h = ap (λ (y : List ℕ). y ++ c ∷ []) (way_old n low) ∙ ap (λ (y : ℕ). r.way y ++ c ∷ []) h.0
        ∙ ap (λ (y : ℕ). r.way i ++ y ∷ []) h.1 ∙ here

    -- the bytes that lead to a new node, and the byte of the entry after them
    way_from : (j n c : ℕ) → n ≡ count + j → c ≡ get_or v (l - j) 0 → way_with n ++ c ∷ [] ≡ take (l - j + 1) v
    way_from j n c e f = ap (λ (y : ℕ). way_with y ++ c ∷ []) e ∙ way_on j c f

    node_T : (n c x : ℕ) → n < count + m → c < 256 → T n c ≡ node_code x
        → (x < count + m) × (way_with x ≡ way_with n ++ c ∷ [])
    node_T n c x low cb e = elim (cases_node n low) [
      | inl lo ↦ elim (cases_same i b n c) [
        | inl h ↦ (
            let q = code_node m x (sym (at_set n c h) ∙ e) in
            let len : l - (m - 1) ≡ d + 1 = omega arith in (
              omega (arith, q.0, q.1),
              ap way_with q.1 ∙ way_new (m - 1) ∙ ap (λ (y : ℕ). take y v) len ∙ sym (way_set n c lo h),
            ))
        | inr h ↦ (
            let q = r.trie.node n c x lo cb (sym (same n c lo cb h) ∙ e) in
            (omega (arith, q.0), way_old x q.0 ∙ q.1 ∙ ap (λ (y : List ℕ). y ++ c ∷ []) (sym (way_old n lo))))
      ]
      | inr h ↦ elim (cases_eq c (get_or v (l - h.0) 0)) [
        | inl f ↦ (
            let j = h.0 in
            let q = code_node j x (sym (at_new j n c h.1 h.2 cb f) ∙ e) in
            let len : l - (j - 1) ≡ l - j + 1 = omega (arith, q.0, h.1) in (
              omega (arith, q.1, h.1),
              ap way_with q.1 ∙ way_new (j - 1) ∙ ap (λ (y : ℕ). take y v) len ∙ sym (way_from j n c h.2 f),
            ))
        | inr f ↦ absurd (let z : none ≡ node_code x = sym (at_off h.0 n c h.1 h.2 cb f) ∙ e in omega arith)
      ]
    ]

    leaf_T : (n c q : ℕ) → n < count + m → c < 256 → T n c ≡ q → q < tails
        → (q < length entries) × (bytes_at entries q ≡ way_with n ++ c ∷ [])
    leaf_T n c q low cb e lq = elim (cases_node n low) [
      | inl lo ↦ elim (cases_same i b n c) [
        | inl h ↦ absurd (let z = code_entry m q (sym (at_set n c h) ∙ e) lq in omega (arith, z.0))
        | inr h ↦ (let z = r.trie.leaf n c q lo cb (sym (same n c lo cb h) ∙ e) lq in
            (z.0, z.1 ∙ ap (λ (y : List ℕ). y ++ c ∷ []) (sym (way_old n lo))))
      ]
      | inr h ↦ elim (cases_eq c (get_or v (l - h.0) 0)) [
        | inl f ↦ (
            let j = h.0 in
            let z = code_entry j q (sym (at_new j n c h.1 h.2 cb f) ∙ e) lq in (
              rw z.1 lp,
              ap (bytes_at entries) z.1 ∙ sym (take_all (l - j + 1) v (omega (arith, z.0, z.2)))
                  ∙ sym (way_from j n c h.2 f),
            ))
        | inr f ↦ absurd (let z : none ≡ q = sym (at_off h.0 n c h.1 h.2 cb f) ∙ e in omega arith)
      ]
    ]

    -- the entry is the only one that begins with the bytes up to the last new node
    alone_last : (y : List ℕ) (q : ℕ) → length v ≢ l + 1 → q ≡ p → y ≡ take (l + 1) v → IsAlone entries y q
    alone_last y q long e f =
        let own : length (take (l + 1) v) ≡ l + 1 = length-take-le (l + 1) v (omega arith) in
        subst (λ (x : List ℕ). IsAlone entries x q) (sym f)
        (subst (λ (k : ℕ). IsAlone entries (take (l + 1) v) k) (sym e) (record {
          on = record { low = lp; front = Begins-take (l + 1) v; longer = omega arith };
          alone = λ k lk g. only_this k lk
              (Begins-trans (take (d + 1) v) (take (l + 1) v) (bytes_at entries k) (Begins-meet (take (d + 1) v)
              (take (l + 1) v) v (Begins-take (d + 1) v) (Begins-take (l + 1) v) (omega (arith, cut))) g);
        }))

    last_way : (j n c : ℕ) → j ≡ 0 → n ≡ count + j → c ≡ get_or v (l - j) 0 → way_with n ++ c ∷ [] ≡ take (l + 1) v
    last_way j n c z e f = way_from j n c e f
        ∙ ap (λ (y : ℕ). take y v) (let len : l - j + 1 ≡ l + 1 = omega arith in len)

    tail_T : (n c q : ℕ) → n < count + m → c < 256 → T n c ≡ tail_code q → q < tails
        → IsAlone entries (way_with n ++ c ∷ []) q
    tail_T n c q low cb e lq = elim (cases_node n low) [
      | inl lo ↦ elim (cases_same i b n c) [
        | inl h ↦ absurd (let z = code_tail m q (sym (at_set n c h) ∙ e) lq in omega (arith, z.0))
        | inr h ↦ subst (λ (y : List ℕ). IsAlone entries (y ++ c ∷ []) q) (sym (way_old n lo))
            (r.trie.tail n c q lo cb (sym (same n c lo cb h) ∙ e) lq)
      ]
      | inr h ↦ elim (cases_eq c (get_or v (l - h.0) 0)) [
        | inl f ↦ (
            let z = code_tail h.0 q (sym (at_new h.0 n c h.1 h.2 cb f) ∙ e) lq in
            alone_last (way_with n ++ c ∷ []) q z.2 z.1 (last_way h.0 n c z.0 h.2 f))
        | inr f ↦ absurd (let z : none ≡ tail_code q = sym (at_off h.0 n c h.1 h.2 cb f) ∙ e in omega arith)
      ]
    ]

    -- no other edge to an entry is on the way to this one
    no_other : (n c q : ℕ) → n < count → c < 256 → ((n ≡ i) × (c ≡ b) → ⊥) → S n c ≡ tail_code q → q < tails
        → Begins (r.way n ++ c ∷ []) v → ⊥
    no_other n c q lo cb h e lq f =
        let one : length (r.way n ++ c ∷ []) ≡ length (r.way n) + 1 = longer_by_one (r.way n) c in
        let own : length (r.way i) ≡ d = r.deep in
        elim (cases_lt (length (r.way n)) d) [
          | inl less ↦
              r.trie.ends n c q i lo cb e lq r.low (Begins-meet (r.way n ++ c ∷ []) (r.way i) v f r.at (omega arith))
          | inr past ↦ elim (cases_eq (length (r.way n)) d) [
            | inl g ↦ (
                let both = same_from_push (r.way n) (r.way i) c b (Begins-same (r.way n ++ c ∷ []) (take (d + 1) v) v f
                (Begins-take (d + 1) v) (omega (arith, cut)) ∙ sym here) in
                h (r.trie.one n i lo r.low both.0, both.1))
            | inr g ↦ no_way n lo (Begins-meet (take (d + 1) v) (r.way n) v (Begins-take (d + 1) v)
                (Begins-front (r.way n) (c ∷ []) v f) (omega (arith, cut)))
          ]
        ]

    ends_T : (n c q x : ℕ) → n < count + m → c < 256 → T n c ≡ tail_code q → q < tails → x < count + m
        → Begins (way_with n ++ c ∷ []) (way_with x) → ⊥
    ends_T n c q x low cb e lq lx f = elim (cases_node n low) [
      | inl lo ↦ elim (cases_same i b n c) [
        | inl h ↦ (let z = code_tail m q (sym (at_set n c h) ∙ e) lq in omega (arith, z.0))
        | inr h ↦ (
            let was : S n c ≡ tail_code q = sym (same n c lo cb h) ∙ e in
            let g : Begins (r.way n ++ c ∷ []) (way_with x) =
            subst (λ (y : List ℕ). Begins (y ++ c ∷ []) (way_with x)) (way_old n lo) f in
            elim (cases_node x lx) [
              | inl lz ↦ r.trie.ends n c q x lo cb was lq lz
                  (subst (λ (y : List ℕ). Begins (r.way n ++ c ∷ []) y) (way_old x lz) g)
              | inr k ↦ no_other n c q lo cb h was lq (Begins-trans (r.way n ++ c ∷ []) (take (l - k.0) v) v
                  (subst (λ (y : List ℕ). Begins (r.way n ++ c ∷ []) y) (ap way_with k.2 ∙ way_new k.0) g)
                  (Begins-take (l - k.0) v))
            ])
      ]
      | inr h ↦ elim (cases_eq c (get_or v (l - h.0) 0)) [
        | inl t ↦ (
            let z = code_tail h.0 q (sym (at_new h.0 n c h.1 h.2 cb t) ∙ e) lq in
            let g : Begins (take (l + 1) v) (way_with x) =
            subst (λ (y : List ℕ). Begins y (way_with x)) (last_way h.0 n c z.0 h.2 t) f in
            let own : length (take (l + 1) v) ≡ l + 1 = length-take-le (l + 1) v (omega arith) in
            let long = Begins-length (take (l + 1) v) (way_with x) g in
            elim (cases_node x lx) [
              | inl lz ↦ no_way x lz (Begins-trans (take (d + 1) v) (take (l + 1) v) (r.way x)
                  (Begins-meet (take (d + 1) v) (take (l + 1) v) v (Begins-take (d + 1) v) (Begins-take (l + 1) v)
                  (omega (arith, cut))) (subst (λ (y : List ℕ). Begins (take (l + 1) v) y) (way_old x lz) g))
              | inr k ↦ (let size_x : length (way_with x) ≡ l - k.0 = ap length (ap way_with k.2 ∙ way_new k.0)
                  ∙ way_size k.0 in omega arith)
            ])
        | inr t ↦ (let z : none ≡ tail_code q = sym (at_off h.0 n c h.1 h.2 cb t) ∙ e in omega arith)
      ]
    ]

    there_T : (n c q : ℕ) → n < count + m → c < 256 → q < length entries
        → Begins (way_with n ++ c ∷ []) (bytes_at entries q) → T n c ≢ none
    there_T n c q low cb lq f = elim (cases_node n low) [
      | inl lo ↦ elim (cases_same i b n c) [
        | inl h ↦ λ z. code_some m (sym (at_set n c h) ∙ z)
        | inr h ↦ λ z. r.trie.there n c q lo cb lq (subst (λ (y : List ℕ). Begins (y ++ c ∷ []) (bytes_at entries q))
            (way_old n lo) f) (sym (same n c lo cb h) ∙ z)
      ]
      | inr h ↦ elim (cases_eq c (get_or v (l - h.0) 0)) [
        | inl g ↦ λ z. code_some h.0 (sym (at_new h.0 n c h.1 h.2 cb g) ∙ z)
        | inr g ↦ λ z. (
            let j = h.0 in
            let mine : Begins (take (l - j) v ++ c ∷ []) (bytes_at entries q) =
            subst (λ (y : List ℕ). Begins (y ++ c ∷ []) (bytes_at entries q)) (ap way_with h.2 ∙ way_new j) f in
            let this : q ≡ p = only_this q lq (Begins-trans (take (d + 1) v) (take (l - j) v) (bytes_at entries q)
            (longer_front j h.1) (Begins-front (take (l - j) v) (c ∷ []) (bytes_at entries q) mine)) in
            let whole : Begins (take (l - j) v ++ c ∷ []) v =
            subst (λ (k : ℕ). Begins (take (l - j) v ++ c ∷ []) (bytes_at entries k)) this mine in
            let next : length (take (l - j + 1) v) ≡ l - j + 1 = length-take-le (l - j + 1) v (omega (arith, h.1)) in
            let eq : take (l - j) v ++ c ∷ [] ≡ take (l - j) v ++ get_or v (l - j) 0 ∷ [] =
            Begins-same (take (l - j) v ++ c ∷ []) (take (l - j + 1) v) v whole (Begins-take (l - j + 1) v)
            (omega (arith, longer_by_one (take (l - j) v) c, way_size j, next)) ∙ take_more v (l - j) 0 (omega arith) in
            let both = same_from_push (take (l - j) v) (take (l - j) v) c (get_or v (l - j) 0) eq in
            g both.1)
      ]
    ]

    -- an old and a new node are not reached by the same bytes
    apart_T : (n j : ℕ) → n < count → j < m → r.way n ≡ take (l - j) v → ⊥
    apart_T n j lo lj e = no_way n lo (rw e (longer_front j lj))

    one_T : (x y : ℕ) → x < count + m → y < count + m → way_with x ≡ way_with y → x ≡ y
    one_T x y lx ly e = elim (cases_node x lx) [
      | inl lo ↦ elim (cases_node y ly) [
        | inl h ↦ r.trie.one x y lo h (sym (way_old x lo) ∙ e ∙ way_old y h)
        | inr h ↦ absurd (apart_T x h.0 lo h.1 (sym (way_old x lo) ∙ e ∙ ap way_with h.2 ∙ way_new h.0))
      ]
      | inr k ↦ elim (cases_node y ly) [
        | inl h ↦ absurd (apart_T y k.0 h k.1 (sym (way_old y h) ∙ sym e ∙ ap way_with k.2 ∙ way_new k.0))
        | inr h ↦ (
            let len : l - k.0 ≡ l - h.0 = sym (way_size k.0)
            ∙ ap length (sym (ap way_with k.2 ∙ way_new k.0) ∙ e ∙ ap way_with h.2 ∙ way_new h.0) ∙ way_size h.0 in
            omega (arith, k.1, k.2, h.1, h.2))
      ]
    ]

    on_way_T : (n : ℕ) → n < count + m → 0 < length (way_with n) → (q : ℕ) × GoesOnBehind entries (way_with n) q
    on_way_T n low long = elim (cases_node n low) [
      | inl lo ↦ (
          let up = r.trie.on_way n lo (rw (way_old n lo) at long) in
          (up.0, subst (λ (y : List ℕ). GoesOnBehind entries y up.0) (sym (way_old n lo)) up.1))
      | inr h ↦ (
        p,
        subst (λ (y : List ℕ). GoesOnBehind entries y p) (sym (ap way_with h.2 ∙ way_new h.0))
            (record { low = lp; front = Begins-take (l - h.0) v; longer = omega (arith, way_size h.0) }),
      )
    ]

    -- the steps are still those of a trie of the entries
    lowered : IsTrie T way_with (count + m) entries
    lowered = record {
      some = (let h = r.trie.some in omega arith);
      root = way_old 0 r.trie.some ∙ r.trie.root;
      node = node_T;
      leaf = leaf_T;
      tail = tail_T;
      ends = ends_T;
      there = there_T;
      one = one_T;
      on_way = on_way_T;
    }

    -- a text with the same bytes up to the last new node leads there
    pub at_split : (x : List ℕ) → take l v ≡ take l x → IsAt T (count + m) entries x l count
    at_split x e =
        let zero_on : count ≡ count + 0 = omega arith in
        let none_less : l - 0 ≡ l = omega arith in
        let way : way_with count ≡ take l v = ap way_with zero_on ∙ way_new 0 ∙ ap (λ (y : ℕ). take y v) none_less in
        record {
          way = way_with;
          trie = lowered;
          low = omega arith;
          at = rw (way, e) (Begins-take l x);
          deep = ap length way ∙ length-take-le l v (omega arith);
        }
