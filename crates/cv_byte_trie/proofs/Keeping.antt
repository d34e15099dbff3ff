-- The invariant of nodes, blocks and tables stays when a node or an edge of a block changes.
use Rattle.std.proofs.Common.{◌≡◌, ◌≢◌, ◌⊎◌, ℕ, ◌+◌, ◌*◌, ◌/◌, ◌<◌, ◌≤◌, List, ◌++◌, length, get_or, sym, ◌∙◌, ap}
use Rattle.std.proofs.Common.{arith, inl, inr, slice_set, length-append}
use Rattle.std.proofs.lemmas.Bool.{cases_eq}
use Rattle.std.proofs.lemmas.List.{get_or-set_same, get_or-set_other, length-set}
use Rattle.cv_byte_trie.specs.Tries.{none}
use Rattle.cv_byte_trie.specs.Tables.{edge_in, node_at}
use Rattle.cv_byte_trie.specs.Private.Sound.{IsSound}
use Rattle.cv_byte_trie.specs.declared.node.Edge.{Edge}
use Rattle.cv_byte_trie.specs.declared.node.Node.{Node}
use Rattle.cv_byte_trie.specs.declared.node.Node.TheVariants.{One, Few, Table}
use Rattle.cv_byte_trie.specs.declared.steps.Steps.{Steps}
use Rattle.cv_byte_trie.proofs.Setting.{block_before}

-- A block has each byte once at most, and its edges lead somewhere.
pub record IsBlock (edges : List Edge) (start size : ℕ) : Type 0 where
  pub some : 0 < size
  pub small : size ≤ 32
  pub within : start + size ≤ length edges
  pub once : (j k : ℕ) → j < size → k < size → (edge_in edges (start + j)).byte ≡ (edge_in edges (start + k)).byte
      → (edge_in edges (start + k)).byte < 256 → j ≡ k
  pub led : (k : ℕ) → k < size → (edge_in edges (start + k)).byte < 256 → (edge_in edges (start + k)).code ≢ none

-- A node's block or table comes after all old ones.
pub record IsNew (t u : Steps) (x : Node) : Type 0 where
  pub one : (b code : ℕ) → x ≡ One b code → code ≢ none
  pub few : (size start : ℕ) → x ≡ Few size start → IsBlock u.edges.items start size
  pub behind : (size start : ℕ) → x ≡ Few size start → length t.edges.items ≤ start
  pub table : (k : ℕ) → x ≡ Table k → length t.tables.items ≡ k * 256
  pub whole : (k : ℕ) → x ≡ Table k → k * 256 + 256 ≤ length u.tables.items

module _ (t u : Steps) (s : IsSound t) (n : ℕ) (low : n < length t.nodes.items) (x : Node)
    (nodes : u.nodes.items ≡ slice_set t.nodes.items n x) (inner : 0 < n) (more : List Edge)
    (edges : u.edges.items ≡ t.edges.items ++ more) (rows : List ℕ) (tables : u.tables.items ≡ t.tables.items ++ rows)
    (full : length u.tables.items / 256 * 256 ≡ length u.tables.items) (new : IsNew t u x) where
  count : length u.nodes.items ≡ length t.nodes.items
  count = ap length nodes ∙ length-set t.nodes.items n x

  longer : length t.edges.items ≤ length u.edges.items
  longer = omega (arith, ap length edges, length-append t.edges.items more)

  wider : length t.tables.items ≤ length u.tables.items
  wider = omega (arith, ap length tables, length-append t.tables.items rows)

  now : node_at u n ≡ x
  now = ap (λ (y : List Node). get_or y n (Table 0)) nodes ∙ get_or-set_same t.nodes.items n x (Table 0) low

  -- a node is the changed one, or the same as in the old list
  which : (m : ℕ) (y : Node) → m < length u.nodes.items → node_at u m ≡ y
      → ((m ≡ n) × (x ≡ y)) ⊎ ((m < length t.nodes.items) × (node_at t m ≡ y))
  which m y lm e = elim (cases_eq m n) [
    | inl p ↦ inl (p, sym now ∙ ap (node_at u) (sym p) ∙ e)
    | inr p ↦ inr (
      omega (arith, count),
      sym (ap (λ (z : List Node). get_or z m (Table 0)) nodes ∙ get_or-set_other t.nodes.items n m x (Table 0) p) ∙ e,
    )
  ]

  -- an old block
  kept : (m size start k : ℕ) → m < length t.nodes.items → node_at t m ≡ Few size start → k < size
      → edge_in u.edges.items (start + k) ≡ edge_in t.edges.items (start + k)
  kept m size start k lm e lk = block_before t u more edges size start (s.within m size start lm e) k lk

  block : (m size start : ℕ) → m < length u.nodes.items → node_at u m ≡ Few size start
      → IsBlock u.edges.items start size
  block m size start lm e = elim (which m (Few size start) lm e) [
    | inl p ↦ new.few size start p.1
    | inr p ↦ record {
      some = s.filled m size start p.0 p.1;
      small = s.small m size start p.0 p.1;
      within = (let w = s.within m size start p.0 p.1 in omega (arith, longer));
      once = λ j k lj lk same b. (
          let f = kept m size start j p.0 p.1 lj in
          let g = kept m size start k p.0 p.1 lk in
          s.once m size start j k p.0 p.1 lj lk (ap (λ (y : Edge). y.byte) (sym f) ∙ same ∙ ap (λ (y : Edge). y.byte) g)
          (rw g at b));
      led = λ k lk b. (
          let g = kept m size start k p.0 p.1 lk in
          λ z. s.led m size start k p.0 p.1 lk (rw g at b) (ap (λ (y : Edge). y.code) (sym g) ∙ z));
    }
  ]

  apart_new : (m p size start width from k : ℕ) → (m < length t.nodes.items) × (node_at t m ≡ Few size start)
      → x ≡ Few width from → start ≤ k → k < start + size → from ≤ k → ⊥
  apart_new m p size start width from k h e a b c = let w = s.within m size start h.0 h.1 in
      let v = new.behind width from e in omega arith

  -- a node may change to one whose block or table comes after all old ones
  pub node_keeps : IsSound u
  node_keeps = record {
    some = (let h = s.some in omega (arith, count));
    root = ap (λ (y : List Node). get_or y 0 (Table 0)) nodes
        ∙ get_or-set_other t.nodes.items n 0 x (Table 0) (λ e. omega arith) ∙ s.root;
    full = full;
    whole = λ m k lm e. elim (which m (Table k) lm e) [
      | inl p ↦ new.whole k p.1
      | inr p ↦ (let w = s.whole m k p.0 p.1 in omega (arith, wider))
    ];
    apart = λ m p k lm lp e f. elim (which m (Table k) lm e) [
      | inl a ↦ elim (which p (Table k) lp f) [
        | inl b ↦ a.0 ∙ sym b.0
        | inr b ↦ absurd (let w = s.whole p k b.0 b.1 in let v = new.table k a.1 in omega arith)
      ]
      | inr a ↦ elim (which p (Table k) lp f) [
        | inl b ↦ absurd (let w = s.whole m k a.0 a.1 in let v = new.table k b.1 in omega arith)
        | inr b ↦ s.apart m p k a.0 b.0 a.1 b.1
      ]
    ];
    filled = λ m size start lm e. (block m size start lm e).some;
    small = λ m size start lm e. (block m size start lm e).small;
    within = λ m size start lm e. (block m size start lm e).within;
    own = λ m p size start width from k lm lp e f a b c d. elim (which m (Few size start) lm e) [
      | inl g ↦ elim (which p (Few width from) lp f) [
        | inl h ↦ g.0 ∙ sym h.0
        | inr h ↦ absurd (apart_new p m width from size start k h g.1 c d a)
      ]
      | inr g ↦ elim (which p (Few width from) lp f) [
        | inl h ↦ absurd (apart_new m p size start width from k g h.1 a b c)
        | inr h ↦ s.own m p size start width from k g.0 h.0 g.1 h.1 a b c d
      ]
    ];
    once = λ m size start j k lm e. (block m size start lm e).once j k;
    led_one = λ m b code lm e z. elim (which m (One b code) lm e) [
      | inl p ↦ new.one b code p.1 z
      | inr p ↦ s.led_one m b code p.0 p.1 z
    ];
    led = λ m size start k lm e. (block m size start lm e).led k;
  }

-- an edge of a block may change to another
pub slot_keeps : (t u : Steps) → IsSound t → (n b code size start k : ℕ) → n < length t.nodes.items → node_at t n ≡ Few
    size start → k < size → ((j : ℕ) → j < size → (edge_in t.edges.items (start + j)).byte ≡ b → j ≡ k) → code ≢ none
    → u.nodes.items ≡ t.nodes.items → u.tables.items ≡ t.tables.items
    → u.edges.items ≡ slice_set t.edges.items (start + k) (record { byte = b; code = code }) → IsSound u
slot_keeps t u s n b code size start k low few here once leads nodes tables edges =
    let within = s.within n size start low few in
    let e : Edge = record { byte = b; code = code } in
    let nothing : Edge = record { byte = 256; code = none } in
    let long : length u.edges.items ≡ length t.edges.items = ap length edges ∙ length-set t.edges.items (start + k) e in
    let there : edge_in u.edges.items (start + k) ≡ e = ap (λ (y : List Edge). get_or y (start + k) nothing) edges
    ∙ get_or-set_same t.edges.items (start + k) e nothing (omega arith) in
    let apart : (i : ℕ) → i ≢ start + k → edge_in u.edges.items i ≡ edge_in t.edges.items i = λ i h.
    ap (λ (y : List Edge). get_or y i nothing) edges ∙ get_or-set_other t.edges.items (start + k) i e nothing h in
    let stays : (m : ℕ) → node_at u m ≡ node_at t m = λ m. ap (λ (y : List Node). get_or y m (Table 0)) nodes in
    let mine : (m width from j : ℕ) → m < length t.nodes.items → node_at t m ≡ Few width from → j < width
    → from + j ≡ start + k → (from ≡ start) × (width ≡ size) × (j ≡ k) = λ m width from j lm is lj q. (
    let same : m ≡ n =
    s.own m n width from size start (start + k) lm low is few (omega arith) (omega arith) (omega arith) (omega arith) in
    let both : Few width from ≡ Few size start = sym is ∙ ap (node_at t) same ∙ few in
    let f : from ≡ start = cc in
    let g : width ≡ size = cc in
    (f, g, omega arith)) in
    let byte_at : (m width from j : ℕ) → m < length t.nodes.items → node_at t m ≡ Few width from → j < width
    → ((from ≡ start) × (width ≡ size) × (j ≡ k) × (edge_in u.edges.items (from + j) ≡ e))
    ⊎ (edge_in u.edges.items (from + j) ≡ edge_in t.edges.items (from + j)) × ((from ≡ start) × (j ≡ k) → ⊥) =
    λ m width from j lm is lj. elim (cases_eq (from + j) (start + k)) [
      | inl q ↦ (let h = mine m width from j lm is lj q in inl (h.0, h.1, h.2, ap (edge_in u.edges.items) q ∙ there))
      | inr q ↦ inr (apart (from + j) q, λ h. q (omega (arith, h.0, h.1)))
    ] in
    record {
      some = rw nodes s.some;
      root = stays 0 ∙ s.root;
      full = rw tables s.full;
      whole = λ m j lm f. rw tables (s.whole m j (rw nodes at lm) (sym (stays m) ∙ f));
      apart = λ m p j lm lp f g.
          s.apart m p j (rw nodes at lm) (rw nodes at lp) (sym (stays m) ∙ f) (sym (stays p) ∙ g);
      filled = λ m width from lm f. s.filled m width from (rw nodes at lm) (sym (stays m) ∙ f);
      small = λ m width from lm f. s.small m width from (rw nodes at lm) (sym (stays m) ∙ f);
      within = λ m width from lm f. rw long (s.within m width from (rw nodes at lm) (sym (stays m) ∙ f));
      own = λ m p width from wide since j lm lp f g.
          s.own m p width from wide since j (rw nodes at lm) (rw nodes at lp) (sym (stays m) ∙ f) (sym (stays p) ∙ g);
      once = λ m width from i j lm f li lj same byte. (
          let lo : m < length t.nodes.items = rw nodes at lm in
          let is : node_at t m ≡ Few width from = sym (stays m) ∙ f in
          elim (byte_at m width from i lo is li) [
            | inl p ↦ elim (byte_at m width from j lo is lj) [
              | inl q ↦ p.2 ∙ sym q.2
              | inr q ↦ absurd (q.1 (
                p.0,
                once j (omega (arith, p.1)) (ap (λ (x : ℕ). (edge_in t.edges.items (x + j)).byte) (sym p.0)
                    ∙ ap (λ (y : Edge). y.byte) (sym q.0) ∙ sym same ∙ ap (λ (y : Edge). y.byte) p.3),
              ))
            ]
            | inr p ↦ elim (byte_at m width from j lo is lj) [
              | inl q ↦ absurd (p.1 (
                q.0,
                once i (omega (arith, q.1)) (ap (λ (x : ℕ). (edge_in t.edges.items (x + i)).byte) (sym q.0)
                    ∙ ap (λ (y : Edge). y.byte) (sym p.0) ∙ same ∙ ap (λ (y : Edge). y.byte) q.3),
              ))
              | inr q ↦ s.once m width from i j lo is li lj
                  (ap (λ (y : Edge). y.byte) (sym p.0) ∙ same ∙ ap (λ (y : Edge). y.byte) q.0) (rw q.0 at byte)
            ]
          ]);
      led_one = λ m c d lm f. s.led_one m c d (rw nodes at lm) (sym (stays m) ∙ f);
      led = λ m width from j lm f lj byte. (
          let lo : m < length t.nodes.items = rw nodes at lm in
          let is : node_at t m ≡ Few width from = sym (stays m) ∙ f in
          elim (byte_at m width from j lo is lj) [
            | inl p ↦ λ z. leads (ap (λ (y : Edge). y.code) (sym p.3) ∙ z)
            | inr p ↦ λ z. s.led m width from j lo is lj (rw p.0 at byte) (ap (λ (y : Edge). y.code) (sym p.0) ∙ z)
          ]);
    }
