-- The last block is doubled where it is.
use Rattle.std.proofs.Common.{◌≡◌, ◌≢◌, ◌⊎◌, ℕ, ◌+◌, ◌*◌, ◌-◌, ◌<◌, ◌≤◌, List, ◌++◌, length, take, get_or, refl, sym}
use Rattle.std.proofs.Common.{◌∙◌, ap, arith, inl, inr, slice_set, length-append}
use Rattle.std.proofs.Math.ListN.{replicate}
use Rattle.std.proofs.lemmas.Bool.{cases_eq, cases_lt}
use Rattle.std.proofs.lemmas.List.{get_or-set_same, get_or-set_other, get_or-append_right, get_or-take}
use Rattle.std.proofs.lemmas.List.{get_or-replicate, length-set, length-take-le, length-replicate}
use Rattle.cv_byte_trie.specs.Tries.{none}
use Rattle.cv_byte_trie.specs.Tables.{coded, edge_in, node_at, edge_at, edge_of}
use Rattle.cv_byte_trie.specs.Private.Sound.{IsSound}
use Rattle.cv_byte_trie.specs.Private.Growth.{SetsEdge}
use Rattle.cv_byte_trie.specs.declared.node.Edge.{Edge}
use Rattle.cv_byte_trie.specs.declared.node.Node.{Node}
use Rattle.cv_byte_trie.specs.declared.node.Node.TheVariants.{One, Few, Table}
use Rattle.cv_byte_trie.specs.declared.steps.Steps.{Steps}
use Rattle.cv_byte_trie.proofs.Coded.{coded_same, coded_more}
use Rattle.cv_byte_trie.proofs.GrownBlocks.{nothing}
use Rattle.cv_byte_trie.proofs.Setting.{block_before, block_sets}
use Rattle.cv_byte_trie.proofs.Keeping.{IsBlock}

module _ (t u : Steps) (s : IsSound t) (n : ℕ) (low : n < length t.nodes.items) (more : List Edge)
    (edges : u.edges.items ≡ t.edges.items ++ more) (tables : u.tables.items ≡ t.tables.items) (size start b code x : ℕ)
    (few : node_at t n ≡ Few size start) (last : length t.edges.items ≡ start + size) (small : size ≤ 16)
    (lacks : (j : ℕ) → j < size → (edge_in t.edges.items (start + j)).byte ≢ b) (byte : b < 256) (leads : code ≢ none)
    (here : x < size) (long : length more ≡ size) (there : get_or more x nothing ≡ record { byte = b; code = code })
    (room : (j : ℕ) → j < size → j ≢ x → get_or more j nothing ≡ nothing)
    (nodes : u.nodes.items ≡ slice_set t.nodes.items n (Few (2 * size) start)) where
  -- ---- the block

  at_old : (j : ℕ) → j < size → edge_in u.edges.items (start + j) ≡ edge_in t.edges.items (start + j)
  at_old = block_before t u more edges size start (omega (arith, last))

  at_upper : (j : ℕ) → size ≤ j → edge_in u.edges.items (start + j) ≡ get_or more (j - size) nothing
  at_upper j m =
      let place : start + j - length t.edges.items ≡ j - size = omega (arith, last) in
      ap (λ (y : List Edge). get_or y (start + j) nothing) edges
      ∙ get_or-append_right t.edges.items more (length t.edges.items) (start + j) nothing refl (omega (arith, last))
      ∙ ap (λ (i : ℕ). get_or more i nothing) place

  at_new : edge_in u.edges.items (start + (size + x)) ≡ record { byte = b; code = code }
  at_new = at_upper (size + x) (omega arith)
      ∙ ap (λ (i : ℕ). get_or more i nothing) (let e : size + x - size ≡ x = omega arith in e) ∙ there

  at_room : (j : ℕ) → size ≤ j → j < 2 * size → j ≢ size + x → (edge_in u.edges.items (start + j)).byte ≡ 256
  at_room j l m h = ap (λ (y : Edge). y.byte) (at_upper j l ∙ room (j - size) (omega arith) (λ e. h (omega arith)))

  byte_new : (j : ℕ) → j ≡ size + x → (edge_in u.edges.items (start + j)).byte ≡ b
  byte_new j e = ap (λ (i : ℕ). (edge_in u.edges.items (start + i)).byte) e ∙ ap (λ (y : Edge). y.byte) at_new

  the_only : (j : ℕ) → j < 2 * size → (edge_in u.edges.items (start + j)).byte ≡ b → j ≡ size + x
  the_only j l e = elim (cases_lt j size) [
    | inl m ↦ absurd (lacks j m (ap (λ (y : Edge). y.byte) (sym (at_old j m)) ∙ e))
    | inr m ↦ elim (cases_eq j (size + x)) [ inl p ↦ p | inr p ↦ absurd (let r = at_room j m l p in omega arith) ]
  ]

  -- an edge of the new block is one of the old block or the new one
  which_place : (j : ℕ) → j < 2 * size → (edge_in u.edges.items (start + j)).byte < 256 → (j < size) ⊎ (j ≡ size + x)
  which_place j l m = elim (cases_lt j size) [
    | inl h ↦ inl h
    | inr h ↦ elim (cases_eq j (size + x)) [ inl p ↦ inr p | inr p ↦ absurd (let r = at_room j h l p in omega arith) ]
  ]

  longer : length u.edges.items ≡ start + 2 * size
  longer = omega (arith, ap length edges, length-append t.edges.items more, long, last)

  stretched : IsBlock u.edges.items start (2 * size)
  stretched = record {
    some = omega arith;
    small = omega arith;
    within = omega (arith, longer);
    once = λ i j li lj e m. elim (which_place i li (rw e m)) [
      | inl p ↦ elim (which_place j lj m) [
        | inl q ↦ s.once n size start i j low few p q (ap (λ (y : Edge). y.byte) (sym (at_old i p)) ∙ e
            ∙ ap (λ (y : Edge). y.byte) (at_old j q)) (rw (at_old j q) at m)
        | inr q ↦ absurd (lacks i p (ap (λ (y : Edge). y.byte) (sym (at_old i p)) ∙ e ∙ byte_new j q))
      ]
      | inr p ↦ sym (the_only j lj (sym e ∙ byte_new i p) ∙ sym p)
    ];
    led = λ j lj m z. elim (which_place j lj m) [
      | inl p ↦ s.led n size start j low few p (rw (at_old j p) at m) (ap (λ (y : Edge). y.code) (sym (at_old j p)) ∙ z)
      | inr p ↦ leads
          (sym (ap (λ (i : ℕ). (edge_in u.edges.items (start + i)).code) p ∙ ap (λ (y : Edge). y.code) at_new) ∙ z)
    ];
  }

  rest : (c : ℕ) → c < 256 → c ≢ b → coded u.edges.items start (2 * size) c ≡ edge_of t n c
  rest c lc h =
      coded_more u.edges.items start size (2 * size) c (omega arith) (λ j l m f. elim (cases_eq j (size + x)) [
        | inl p ↦ h (sym f ∙ byte_new j p)
        | inr p ↦ (let r = at_room j l m p in omega arith)
      ]) ∙ coded_same t.edges.items u.edges.items start start size c at_old ∙ sym (ap (edge_at t n c) few)

  pub grown_sets : SetsEdge t u n b code
  grown_sets = block_sets t u s n low (Few (2 * size) start) nodes tables more edges b code (2 * size) start
      (size + x) refl (omega arith) (byte_new (size + x) refl) (ap (λ (y : Edge). y.code) at_new) the_only rest

  -- ---- all nodes

  count : length u.nodes.items ≡ length t.nodes.items
  count = ap length nodes ∙ length-set t.nodes.items n (Few (2 * size) start)

  now : node_at u n ≡ Few (2 * size) start
  now = ap (λ (y : List Node). get_or y n (Table 0)) nodes
      ∙ get_or-set_same t.nodes.items n (Few (2 * size) start) (Table 0) low

  -- a node is the changed one, or the same as in the old list
  which : (m : ℕ) (y : Node) → m < length u.nodes.items → node_at u m ≡ y
      → ((m ≡ n) × (Few (2 * size) start ≡ y)) ⊎ ((m < length t.nodes.items) × (node_at t m ≡ y))
  which m y lm e = elim (cases_eq m n) [
    | inl p ↦ inl (p, sym now ∙ ap (node_at u) (sym p) ∙ e)
    | inr p ↦ inr (
      omega (arith, count),
      sym (ap (λ (z : List Node). get_or z m (Table 0)) nodes
          ∙ get_or-set_other t.nodes.items n m (Few (2 * size) start) (Table 0) p) ∙ e,
    )
  ]

  -- a table is an old one
  table_stays : (m k : ℕ) → m < length u.nodes.items → node_at u m ≡ Table k
      → (m < length t.nodes.items) × (node_at t m ≡ Table k)
  table_stays m k lm e = elim (which m (Table k) lm e) [
    | inl p ↦ absurd (let bad : Few (2 * size) start ≡ Table k = p.1 in cc)
    | inr p ↦ p
  ]

  block : (m width from : ℕ) → m < length u.nodes.items → node_at u m ≡ Few width from
      → IsBlock u.edges.items from width
  block m width from lm e = elim (which m (Few width from) lm e) [
    | inl p ↦ (let both : Few (2 * size) start ≡ Few width from = p.1 in let f : start ≡ from = cc in
        let g : 2 * size ≡ width = cc in rw (← f, ← g) stretched)
    | inr p ↦ (
        let kept = block_before t u more edges width from (s.within m width from p.0 p.1) in
        record {
          some = s.filled m width from p.0 p.1;
          small = s.small m width from p.0 p.1;
          within = (let w = s.within m width from p.0 p.1 in omega (arith, longer, last));
          once = λ j k lj lk same c. s.once m width from j k p.0 p.1 lj lk (ap (λ (y : Edge). y.byte) (sym (kept j lj))
              ∙ same ∙ ap (λ (y : Edge). y.byte) (kept k lk)) (rw (kept k lk) at c);
          led = λ k lk c z.
              s.led m width from k p.0 p.1 lk (rw (kept k lk) at c) (ap (λ (y : Edge). y.code) (sym (kept k lk)) ∙ z);
        })
  ]

  -- an old block with an edge at the start of the new block or after it is the block of the same node
  met : (m width from k : ℕ) → (m < length t.nodes.items) × (node_at t m ≡ Few width from) → from ≤ k → k < from + width
      → start ≤ k → m ≡ n
  met m width from k h a c d = let w = s.within m width from h.0 h.1 in
      s.own m n width from size start k h.0 low h.1 few a c d (omega (arith, last))

  pub grown_sound : IsSound u
  grown_sound = record {
    some = (let h = s.some in omega (arith, count));
    root = (
        let other : 0 ≢ n = λ e.
        absurd (let bad : Table 0 ≡ Few size start = sym s.root ∙ ap (node_at t) e ∙ few in cc) in
        ap (λ (y : List Node). get_or y 0 (Table 0)) nodes
        ∙ get_or-set_other t.nodes.items n 0 (Few (2 * size) start) (Table 0) other ∙ s.root);
    full = rw tables s.full;
    whole = λ m k lm e. (let p = table_stays m k lm e in rw tables (s.whole m k p.0 p.1));
    apart = λ m p k lm lp e f.
        (let a = table_stays m k lm e in let c = table_stays p k lp f in s.apart m p k a.0 c.0 a.1 c.1);
    filled = λ m width from lm e. (block m width from lm e).some;
    small = λ m width from lm e. (block m width from lm e).small;
    within = λ m width from lm e. (block m width from lm e).within;
    own = λ m p width from wide since k lm lp e f a c d g. elim (which m (Few width from) lm e) [
      | inl q ↦ elim (which p (Few wide since) lp f) [
        | inl r ↦ q.0 ∙ sym r.0
        | inr r ↦ (let both : Few (2 * size) start ≡ Few width from = q.1 in let same : start ≡ from = cc in
            q.0 ∙ sym (met p wide since k r d g (omega (arith, same))))
      ]
      | inr q ↦ elim (which p (Few wide since) lp f) [
        | inl r ↦ (let both : Few (2 * size) start ≡ Few wide since = r.1 in let same : start ≡ since = cc in
            met m width from k q a c (omega (arith, same)) ∙ sym r.0)
        | inr r ↦ s.own m p width from wide since k q.0 r.0 q.1 r.1 a c d g
      ]
    ];
    once = λ m width from j k lm e. (block m width from lm e).once j k;
    led_one = λ m c d lm e z. elim (which m (One c d) lm e) [
      | inl p ↦ absurd (let bad : Few (2 * size) start ≡ One c d = p.1 in cc)
      | inr p ↦ s.led_one m c d p.0 p.1 z
    ];
    led = λ m width from k lm e. (block m width from lm e).led k;
  }

-- free edges, as many as the block had, with the new edge among them
module _ (size x : ℕ) (e : Edge) (small : size ≤ 16) (low : x < size) where
  abbrev pub one_more : List Edge
  one_more = take size (slice_set (replicate 16 nothing) x e)

  pub one_more_size : length one_more ≡ size
  one_more_size = length-take-le size (slice_set (replicate 16 nothing) x e)
      (omega (arith, length-set (replicate 16 nothing) x e, length-replicate 16 nothing))

  pub one_more_new : get_or one_more x nothing ≡ e
  one_more_new = get_or-take size (slice_set (replicate 16 nothing) x e) x nothing low
      ∙ get_or-set_same (replicate 16 nothing) x e nothing (omega (arith, length-replicate 16 nothing))

  pub one_more_room : (k : ℕ) → k < size → k ≢ x → get_or one_more k nothing ≡ nothing
  one_more_room k l h = get_or-take size (slice_set (replicate 16 nothing) x e) k nothing l
      ∙ get_or-set_other (replicate 16 nothing) x k e nothing h ∙ get_or-replicate 16 k nothing nothing (omega arith)
