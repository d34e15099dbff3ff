-- Setting an edge of a node.
use Rattle.std.proofs.Common.{◌≡◌, ◌≢◌, ℕ, ◌+◌, ◌*◌, ◌<◌, ◌≤◌, Bool, List, ◌++◌, length, get_or, refl, sym, ◌∙◌, ap}
use Rattle.std.proofs.Common.{arith, inl, inr, slice_set, eq-eqb, cond}
use Rattle.std.proofs.lemmas.Bool.{cases_eq, ne_eqb}
use Rattle.std.proofs.lemmas.List.{get_or-set_same, get_or-set_other, get_or_append_left}
use Rattle.cv_byte_trie.specs.Tries.{none}
use Rattle.cv_byte_trie.specs.Tables.{coded, edge_in, node_at, edge_at, edge_of}
use Rattle.cv_byte_trie.specs.Private.Sound.{IsSound}
use Rattle.cv_byte_trie.specs.Private.Growth.{SetsEdge}
use Rattle.cv_byte_trie.specs.declared.node.Edge.{Edge}
use Rattle.cv_byte_trie.specs.declared.node.Node.{Node}
use Rattle.cv_byte_trie.specs.declared.node.Node.TheVariants.{One, Few, Table}
use Rattle.cv_byte_trie.specs.declared.steps.Steps.{Steps}
use Rattle.cv_byte_trie.proofs.Coded.{coded_same, coded_other, coded_at}

-- the edges of a block stay
abbrev pub SameBlock : Steps → Steps → ℕ → ℕ → Type 0
SameBlock t u size start = (k : ℕ) → k < size → edge_in u.edges.items (start + k) ≡ edge_in t.edges.items (start + k)

-- a node's edges stay if its block and the tables do
pub edge_same : (t u : Steps) (n b : ℕ) (x : Node) → u.tables.items ≡ t.tables.items
    → ((size start : ℕ) → x ≡ Few size start → SameBlock t u size start) → edge_at u n b x ≡ edge_at t n b x
edge_same t u n b (One byte code) e f = refl
edge_same t u n b (Few size start) e f = coded_same t.edges.items u.edges.items start start size b (f size start refl)
edge_same t u n b (Table number) e f = ap (λ (x : List ℕ). get_or x (number * 256 + b) none) e

-- a block stays if more edges are appended
pub block_before : (t u : Steps) (more : List Edge) → u.edges.items ≡ t.edges.items ++ more → (size start : ℕ)
    → start + size ≤ length t.edges.items → SameBlock t u size start
block_before t u more e size start within k low =
    ap (λ (x : List Edge). get_or x (start + k) (record { byte = 256; code = none })) e
    ∙ get_or_append_left t.edges.items more (record { byte = 256; code = none }) (start + k) (omega arith)

module _ (t u : Steps) (s : IsSound t) (n : ℕ) (low : n < length t.nodes.items) (x : Node)
    (nodes : u.nodes.items ≡ slice_set t.nodes.items n x) (tables : u.tables.items ≡ t.tables.items) where
  now : node_at u n ≡ x
  now = ap (λ (y : List Node). get_or y n (Table 0)) nodes ∙ get_or-set_same t.nodes.items n x (Table 0) low

  other : (m : ℕ) → m ≢ n → node_at u m ≡ node_at t m
  other m h = ap (λ (y : List Node). get_or y m (Table 0)) nodes ∙ get_or-set_other t.nodes.items n m x (Table 0) h

  -- the edges of another node stay if more edges are appended
  others : (more : List Edge) → u.edges.items ≡ t.edges.items ++ more → (m b : ℕ) → m < length t.nodes.items → m ≢ n
      → edge_of u m b ≡ edge_of t m b
  others more e m b lm h = ap (edge_at u m b) (other m h) ∙ edge_same t u m b (node_at t m) tables
      (λ size start is. block_before t u more e size start (s.within m size start lm is))

  -- A node gets a block of so many edges after all others. Its edge at index `k` has the byte `b`, and each other byte
  -- leads as in the old block.
  pub block_sets : (more : List Edge) → u.edges.items ≡ t.edges.items ++ more → (b code size start k : ℕ) → x ≡ Few size
      start → k < size → (edge_in u.edges.items (start + k)).byte ≡ b → (edge_in u.edges.items (start + k)).code ≡ code
      → ((j : ℕ) → j < size → (edge_in u.edges.items (start + j)).byte ≡ b → j ≡ k)
      → ((c : ℕ) → c < 256 → c ≢ b → coded u.edges.items start size c ≡ edge_of t n c) → SetsEdge t u n b code
  block_sets more e b code size start k is here has leads once rest = record {
    set = ap (edge_at u n b) (now ∙ is) ∙ coded_at u.edges.items start size b k here has once ∙ leads;
    same = λ m c lm lc h. elim (cases_eq m n) [
      | inl p ↦ ap (λ (y : ℕ). edge_of u y c) p ∙ ap (edge_at u n c) (now ∙ is) ∙ rest c lc (λ q. h (p, q))
          ∙ ap (λ (y : ℕ). edge_of t y c) (sym p)
      | inr p ↦ others more e m c lm p
    ];
  }

  -- the only edge of a node is set to another code
  pub one_turns : (b led code : ℕ) → node_at t n ≡ One b led → x ≡ One b code → u.edges.items ≡ t.edges.items
      → SetsEdge t u n b code
  one_turns b led code was is edges = record {
    set = ap (edge_at u n b) (now ∙ is) ∙ ap (λ (y : Bool). cond y code none) (eq-eqb b b refl);
    same = λ m c lm lc h. elim (cases_eq m n) [
      | inl p ↦ (
          let apart : c ≢ b = λ q. h (p, q) in
          ap (λ (y : ℕ). edge_of u y c) p ∙ ap (edge_at u n c) (now ∙ is) ∙ ap (λ (y : Bool). cond y code none)
          (ne_eqb c b apart) ∙ sym (ap (λ (y : Bool). cond y led none) (ne_eqb c b apart))
          ∙ sym (ap (edge_at t n c) was) ∙ ap (λ (y : ℕ). edge_of t y c) (sym p))
      | inr p ↦ ap (edge_at u m c) (other m p) ∙ edge_same t u m c (node_at t m) tables
          (λ size start _ k _. ap (λ (y : List Edge). edge_in y (start + k)) edges)
    ];
  }

-- an edge in a block is set
pub slot_sets : (t u : Steps) → IsSound t → (n b code size start k : ℕ) → n < length t.nodes.items → b < 256
    → node_at t n ≡ Few size start → k < size
    → ((j : ℕ) → j < size → (edge_in t.edges.items (start + j)).byte ≡ b → j ≡ k) → ((c : ℕ) → c < 256 → c ≢ b
    → (edge_in t.edges.items (start + k)).byte ≢ c) → u.nodes.items ≡ t.nodes.items → u.tables.items ≡ t.tables.items
    → u.edges.items ≡ slice_set t.edges.items (start + k) (record { byte = b; code = code }) → SetsEdge t u n b code
slot_sets t u s n b code size start k low byte few here once was nodes tables edges =
    let within = s.within n size start low few in
    let e : Edge = record { byte = b; code = code } in
    let nothing : Edge = record { byte = 256; code = none } in
    let there : edge_in u.edges.items (start + k) ≡ e = ap (λ (y : List Edge). get_or y (start + k) nothing) edges
    ∙ get_or-set_same t.edges.items (start + k) e nothing (omega arith) in
    let apart : (i : ℕ) → i ≢ start + k → edge_in u.edges.items i ≡ edge_in t.edges.items i = λ i h.
    ap (λ (y : List Edge). get_or y i nothing) edges ∙ get_or-set_other t.edges.items (start + k) i e nothing h in
    let stays : (m : ℕ) → node_at u m ≡ node_at t m = λ m. ap (λ (y : List Node). get_or y m (Table 0)) nodes in
    record {
      set = ap (edge_at u n b) (stays n ∙ few)
          ∙ coded_at u.edges.items start size b k here (ap (λ (y : Edge). y.byte) there) (λ j l h. elim (cases_eq j k) [
            | inl p ↦ p
            | inr p ↦ once j l (ap (λ (y : Edge). y.byte) (sym (apart (start + j) (λ q. p (omega arith)))) ∙ h)
          ]) ∙ ap (λ (y : Edge). y.code) there;
      same = λ m c lm lc h. elim (cases_eq m n) [
        | inl p ↦ (
            let other : c ≢ b = λ q. h (p, q) in
            ap (λ (y : ℕ). edge_of u y c) p ∙ ap (edge_at u n c) (stays n ∙ few)
            ∙ coded_other t.edges.items u.edges.items start size c k (λ j l q. apart (start + j) (λ r. q (omega arith)))
            (was c lc other) (λ q. other (sym q ∙ ap (λ (y : Edge). y.byte) there))
            ∙ sym (ap (edge_at t n c) few) ∙ ap (λ (y : ℕ). edge_of t y c) (sym p))
        | inr p ↦ ap (edge_at u m c) (stays m)
            ∙ edge_same t u m c (node_at t m) tables (λ width from is j l. apart (from + j) (λ q. p (s.own m n width
            from size start (from + j) lm low is few (omega arith) (omega arith) (omega arith) (omega arith))))
      ];
    }
