-- Blocks of twice the size.
use Rattle.std.proofs.Common.{◌≡◌, ◌≢◌, ◌⊎◌, ℕ, ◌+◌, ◌*◌, ◌-◌, ◌<◌, ◌≤◌, Bool, List, [], ◌++◌, length, take, drop}
use Rattle.std.proofs.Common.{get_or, refl, sym, ◌∙◌, ap, arith, inl, inr, slice_set, cond, eq-eqb, length-append}
use Rattle.std.proofs.Common.{append-nil, length-drop}
use Rattle.std.proofs.Math.ListN.{replicate}
use Rattle.std.proofs.lemmas.Bool.{cases_eq, cases_lt, ne_eqb}
use Rattle.std.proofs.lemmas.List.{get_or-set_same, get_or-set_other, get_or_append_left, get_or-append-add}
use Rattle.std.proofs.lemmas.List.{get_or-append_right, get_or-take, get_or-drop, get_or-replicate, length-set}
use Rattle.std.proofs.lemmas.List.{length-take-le, length-replicate}
use Rattle.cv_byte_trie.specs.Tries.{none}
use Rattle.cv_byte_trie.specs.Tables.{coded, edge_in, node_at, edge_at, edge_of}
use Rattle.cv_byte_trie.specs.Private.Sound.{IsSound}
use Rattle.cv_byte_trie.specs.Private.Growth.{SetsEdge}
use Rattle.cv_byte_trie.specs.declared.node.Edge.{Edge}
use Rattle.cv_byte_trie.specs.declared.node.Node.{Node}
use Rattle.cv_byte_trie.specs.declared.node.Node.TheVariants.{One, Few, Table}
use Rattle.cv_byte_trie.specs.declared.steps.Steps.{Steps}
use Rattle.cv_byte_trie.proofs.Coded.{coded_none, coded_at, coded_same, coded_more}
use Rattle.cv_byte_trie.proofs.Setting.{block_sets}
use Rattle.cv_byte_trie.proofs.Keeping.{IsBlock, IsNew, node_keeps}

-- a free edge
abbrev pub nothing : Edge
nothing = record { byte = 256; code = none }

-- a node whose block comes after all others
new_few : (t u : Steps) (x : Node) (size start : ℕ) → x ≡ Few size start → length t.edges.items ≡ start
    → IsBlock u.edges.items start size → IsNew t u x
new_few t u x size start is at block = record {
  one = λ b code e. absurd (let bad : One b code ≡ Few size start = sym e ∙ is in cc);
  few = λ width from e. (let both : Few size start ≡ Few width from = sym is ∙ e in let f : start ≡ from = cc in
      let g : size ≡ width = cc in rw (← f, ← g) block);
  behind = λ width from e.
      (let both : Few size start ≡ Few width from = sym is ∙ e in let f : start ≡ from = cc in omega arith);
  table = λ k e. absurd (let bad : Table k ≡ Few size start = sym e ∙ is in cc);
  whole = λ k e. absurd (let bad : Table k ≡ Few size start = sym e ∙ is in cc);
}

-- a node whose table comes after all others
pub new_table : (t u : Steps) (k : ℕ) → length t.tables.items ≡ k * 256
    → length u.tables.items ≡ length t.tables.items + 256 → IsNew t u (Table k)
new_table t u k at more = record {
  one = λ b code e. absurd (let bad : Table k ≡ One b code = e in cc);
  few = λ size start e. absurd (let bad : Table k ≡ Few size start = e in cc);
  behind = λ size start e. absurd (let bad : Table k ≡ Few size start = e in cc);
  table = λ j e. (let both : Table k ≡ Table j = e in let f : k ≡ j = cc in omega arith);
  whole = λ j e. (let both : Table k ≡ Table j = e in let f : k ≡ j = cc in omega arith);
}

-- a node of one edge
pub new_one : (t u : Steps) (b code : ℕ) → code ≢ none → IsNew t u (One b code)
new_one t u b code leads = record {
  one = λ c d e. (let both : One b code ≡ One c d = e in let f : code ≡ d = cc in λ z. leads (f ∙ z));
  few = λ size start e. absurd (let bad : One b code ≡ Few size start = e in cc);
  behind = λ size start e. absurd (let bad : One b code ≡ Few size start = e in cc);
  table = λ j e. absurd (let bad : One b code ≡ Table j = e in cc);
  whole = λ j e. absurd (let bad : One b code ≡ Table j = e in cc);
}

-- a node that has no table is not the root
pub not_root : (t : Steps) → IsSound t → (n : ℕ) (y : Node) → node_at t n ≡ y → ((k : ℕ) → y ≢ Table k) → 0 < n
not_root t s n y e h =
    elim (cases_eq n 0) [ inl z ↦ absurd (h 0 (sym e ∙ ap (node_at t) z ∙ s.root)) | inr z ↦ omega arith ]

module _ (t u : Steps) (s : IsSound t) (n : ℕ) (low : n < length t.nodes.items) (more : List Edge)
    (edges : u.edges.items ≡ t.edges.items ++ more) (tables : u.tables.items ≡ t.tables.items) (start : ℕ)
    (at : length t.edges.items ≡ start) where
  -- the edges of a block after all others
  place : (k : ℕ) → edge_in u.edges.items (start + k) ≡ get_or more k nothing
  place k = rw (← at) (ap (λ (y : List Edge). get_or y (length t.edges.items + k) nothing) edges
      ∙ get_or-append-add t.edges.items more k nothing)

  long : length u.edges.items ≡ start + length more
  long = rw (← at) (ap length edges ∙ length-append t.edges.items more)

  no_rows : u.tables.items ≡ t.tables.items ++ []
  no_rows = tables ∙ sym (append-nil t.tables.items)

  -- ---- a block of two, in either order

  module _ (own led b code k : ℕ) (one : node_at t n ≡ One own led) (byte : own < 256) (apart : b ≢ own)
      (leads : code ≢ none) (here : k < 2) (two : length more ≡ 2)
      (there : get_or more k nothing ≡ record { byte = b; code = code }) (beside : get_or more (1 - k) nothing
      ≡ record { byte = own; code = led }) (nodes : u.nodes.items ≡ slice_set t.nodes.items n (Few 2 start)) where
    at_there : edge_in u.edges.items (start + k) ≡ record { byte = b; code = code }
    at_there = place k ∙ there

    at_beside : edge_in u.edges.items (start + (1 - k)) ≡ record { byte = own; code = led }
    at_beside = place (1 - k) ∙ beside

    which_two : (j : ℕ) → j < 2 → (j ≡ k) ⊎ (j ≡ 1 - k)
    which_two j l = elim (cases_eq j k) [ inl e ↦ inl e | inr e ↦ inr (omega arith) ]

    byte_there : (j : ℕ) → j ≡ k → (edge_in u.edges.items (start + j)).byte ≡ b
    byte_there j e = ap (λ (i : ℕ). (edge_in u.edges.items (start + i)).byte) e ∙ ap (λ (y : Edge). y.byte) at_there

    byte_beside : (j : ℕ) → j ≡ 1 - k → (edge_in u.edges.items (start + j)).byte ≡ own
    byte_beside j e = ap (λ (i : ℕ). (edge_in u.edges.items (start + i)).byte) e ∙ ap (λ (y : Edge). y.byte) at_beside

    once_two : (i j : ℕ) → i < 2 → j < 2
        → (edge_in u.edges.items (start + i)).byte ≡ (edge_in u.edges.items (start + j)).byte → i ≡ j
    once_two i j li lj e = elim (which_two i li) [
      | inl p ↦ elim (which_two j lj) [
        | inl q ↦ p ∙ sym q
        | inr q ↦ absurd (apart (sym (byte_there i p) ∙ e ∙ byte_beside j q))
      ]
      | inr p ↦ elim (which_two j lj) [
        | inl q ↦ absurd (apart (sym (byte_there j q) ∙ sym e ∙ byte_beside i p))
        | inr q ↦ p ∙ sym q
      ]
    ]

    block_two : IsBlock u.edges.items start 2
    block_two = record {
      some = omega arith;
      small = omega arith;
      within = omega (arith, long);
      once = λ i j li lj e _. once_two i j li lj e;
      led = λ j lj _ z. elim (which_two j lj) [
        | inl p ↦ leads
            (sym (ap (λ (i : ℕ). (edge_in u.edges.items (start + i)).code) p ∙ ap (λ (y : Edge). y.code) at_there) ∙ z)
        | inr p ↦ s.led_one n own led low one
            (sym (ap (λ (i : ℕ). (edge_in u.edges.items (start + i)).code) p ∙ ap (λ (y : Edge). y.code) at_beside) ∙ z)
      ];
    }

    rest_two : (c : ℕ) → c < 256 → c ≢ b → coded u.edges.items start 2 c ≡ edge_of t n c
    rest_two c lc h = elim (cases_eq c own) [
      | inl e ↦ coded_at u.edges.items start 2 c (1 - k) (omega arith) (byte_beside (1 - k) refl ∙ sym e) (λ j l f.
          once_two j (1 - k) l (omega arith) (f ∙ e ∙ sym (byte_beside (1 - k) refl))) ∙ ap (λ (y : Edge). y.code)
          at_beside ∙ sym (ap (edge_at t n c) one ∙ ap (λ (y : Bool). cond y led none) (eq-eqb c own e))
      | inr e ↦ coded_none u.edges.items start 2 c (λ j l f. elim (which_two j l) [
        | inl p ↦ h (sym f ∙ byte_there j p)
        | inr p ↦ e (sym f ∙ byte_beside j p)
      ]) ∙ sym (ap (edge_at t n c) one ∙ ap (λ (y : Bool). cond y led none) (ne_eqb c own e))
    ]

    pub to_block_sets : SetsEdge t u n b code
    to_block_sets = block_sets t u s n low (Few 2 start) nodes tables more edges b code 2 start k refl here
        (byte_there k refl) (ap (λ (y : Edge). y.code) at_there)
        (λ j l f. once_two j k l here (f ∙ sym (byte_there k refl))) rest_two

    pub to_block_sound : IsSound u
    to_block_sound = node_keeps t u s n low (Few 2 start) nodes (not_root t s n (One own led) one (λ k e. absurd (cc)))
        more edges [] no_rows (rw tables s.full) (new_few t u (Few 2 start) 2 start refl at block_two)

  -- ---- a block of twice the size

  module _ (size from b code k : ℕ) (few : node_at t n ≡ Few size from) (small : size ≤ 16)
      (lacks : (j : ℕ) → j < size → (edge_in t.edges.items (from + j)).byte ≢ b) (byte : b < 256) (leads : code ≢ none)
      (here : k < 2 * size) (upper : size ≤ k) (twice : length more ≡ 2 * size)
      (there : get_or more k nothing ≡ record { byte = b; code = code })
      (lower : (j : ℕ) → j < size → get_or more j nothing ≡ edge_in t.edges.items (from + j))
      (room : (j : ℕ) → size ≤ j → j < 2 * size → j ≢ k → get_or more j nothing ≡ nothing)
      (nodes : u.nodes.items ≡ slice_set t.nodes.items n (Few (2 * size) start)) where
    at_new : edge_in u.edges.items (start + k) ≡ record { byte = b; code = code }
    at_new = place k ∙ there

    at_old : (j : ℕ) → j < size → edge_in u.edges.items (start + j) ≡ edge_in t.edges.items (from + j)
    at_old j l = place j ∙ lower j l

    at_room : (j : ℕ) → size ≤ j → j < 2 * size → j ≢ k → (edge_in u.edges.items (start + j)).byte ≡ 256
    at_room j l m h = ap (λ (y : Edge). y.byte) (place j ∙ room j l m h)

    byte_new : (j : ℕ) → j ≡ k → (edge_in u.edges.items (start + j)).byte ≡ b
    byte_new j e = ap (λ (i : ℕ). (edge_in u.edges.items (start + i)).byte) e ∙ ap (λ (y : Edge). y.byte) at_new

    the_only : (j : ℕ) → j < 2 * size → (edge_in u.edges.items (start + j)).byte ≡ b → j ≡ k
    the_only j l e = elim (cases_lt j size) [
      | inl m ↦ absurd (lacks j m (ap (λ (y : Edge). y.byte) (sym (at_old j m)) ∙ e))
      | inr m ↦ elim (cases_eq j k) [ inl p ↦ p | inr p ↦ absurd (let r = at_room j m l p in omega arith) ]
    ]

    -- an edge of the new block is one of the old block or the new one
    which_place : (j : ℕ) → j < 2 * size → (edge_in u.edges.items (start + j)).byte < 256 → (j < size) ⊎ (j ≡ k)
    which_place j l m = elim (cases_lt j size) [
      | inl h ↦ inl h
      | inr h ↦ elim (cases_eq j k) [ inl p ↦ inr p | inr p ↦ absurd (let r = at_room j h l p in omega arith) ]
    ]

    block_twice : IsBlock u.edges.items start (2 * size)
    block_twice = record {
      some = omega arith;
      small = omega arith;
      within = omega (arith, long);
      once = λ i j li lj e m. elim (which_place i li (rw e m)) [
        | inl p ↦ elim (which_place j lj m) [
          | inl q ↦ s.once n size from i j low few p q (ap (λ (y : Edge). y.byte) (sym (at_old i p)) ∙ e
              ∙ ap (λ (y : Edge). y.byte) (at_old j q)) (rw (at_old j q) at m)
          | inr q ↦ absurd (lacks i p (ap (λ (y : Edge). y.byte) (sym (at_old i p)) ∙ e ∙ byte_new j q))
        ]
        | inr p ↦ sym (the_only j lj (sym e ∙ byte_new i p) ∙ sym p)
      ];
      led = λ j lj m z. elim (which_place j lj m) [
        | inl p ↦
            s.led n size from j low few p (rw (at_old j p) at m) (ap (λ (y : Edge). y.code) (sym (at_old j p)) ∙ z)
        | inr p ↦ leads
            (sym (ap (λ (i : ℕ). (edge_in u.edges.items (start + i)).code) p ∙ ap (λ (y : Edge). y.code) at_new) ∙ z)
      ];
    }

    rest_twice : (c : ℕ) → c < 256 → c ≢ b → coded u.edges.items start (2 * size) c ≡ edge_of t n c
    rest_twice c lc h =
        coded_more u.edges.items start size (2 * size) c (omega arith) (λ j l m f. elim (cases_eq j k) [
          | inl p ↦ h (sym f ∙ byte_new j p)
          | inr p ↦ (let r = at_room j l m p in omega arith)
        ]) ∙ coded_same t.edges.items u.edges.items from start size c at_old ∙ sym (ap (edge_at t n c) few)

    pub grow_block_sets : SetsEdge t u n b code
    grow_block_sets = block_sets t u s n low (Few (2 * size) start) nodes tables more edges b code
        (2 * size) start k refl here (byte_new k refl) (ap (λ (y : Edge). y.code) at_new) the_only rest_twice

    pub grow_block_sound : IsSound u
    grow_block_sound = node_keeps t u s n low (Few (2 * size) start) nodes
        (not_root t s n (Few size from) few (λ k e. absurd (cc))) more edges [] no_rows (rw tables s.full)
        (new_few t u (Few (2 * size) start) (2 * size) start refl at block_twice)

-- the edges of a block, as many free ones after them, and the new edge among these
module _ (edges : List Edge) (start size x : ℕ) (e : Edge) (within : start + size ≤ length edges) (small : size ≤ 16)
    (low : x < size) where
  abbrev filled : List Edge
  filled = take size (drop start edges) ++ drop size (replicate 32 nothing)

  front : length (take size (drop start edges)) ≡ size
  front = length-take-le size (drop start edges) (omega (arith, length-drop start edges))

  all : length filled ≡ 32
  all = length-append (take size (drop start edges)) (drop size (replicate 32 nothing))
      ∙ (omega (arith, front, length-drop size (replicate 32 nothing), length-replicate 32 nothing))

  abbrev pub doubled : List Edge
  doubled = take (2 * size) (slice_set filled (size + x) e)

  pub doubled_size : length doubled ≡ 2 * size
  doubled_size =
      length-take-le (2 * size) (slice_set filled (size + x) e) (omega (arith, length-set filled (size + x) e, all))

  pub doubled_new : get_or doubled (size + x) nothing ≡ e
  doubled_new = get_or-take (2 * size) (slice_set filled (size + x) e) (size + x) nothing (omega arith)
      ∙ get_or-set_same filled (size + x) e nothing (omega (arith, all))

  other : (k : ℕ) → k < 2 * size → k ≢ size + x → get_or doubled k nothing ≡ get_or filled k nothing
  other k l h = get_or-take (2 * size) (slice_set filled (size + x) e) k nothing l
      ∙ get_or-set_other filled (size + x) k e nothing h

  pub doubled_old : (k : ℕ) → k < size → get_or doubled k nothing ≡ edge_in edges (start + k)
  doubled_old k l = other k (omega arith) (λ h. omega arith) ∙ get_or_append_left (take size (drop start edges))
      (drop size (replicate 32 nothing)) nothing k (omega (arith, front))
      ∙ get_or-take size (drop start edges) k nothing l ∙ get_or-drop start edges k nothing

  pub doubled_room : (k : ℕ) → size ≤ k → k < 2 * size → k ≢ size + x → get_or doubled k nothing ≡ nothing
  doubled_room k m l h = other k l h ∙ get_or-append_right (take size (drop start edges))
      (drop size (replicate 32 nothing)) size k nothing front m ∙ get_or-drop size (replicate 32 nothing)
      (k - size) nothing ∙ get_or-replicate 32 (size + (k - size)) nothing nothing (omega arith)
