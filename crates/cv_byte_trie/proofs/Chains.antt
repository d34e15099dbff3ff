-- New nodes that lead over bytes, one for each byte, from the last byte on.
use Rattle.std.proofs.Common.{◌≡◌, ◌≢◌, ℕ, ◌+◌, ◌-◌, ◌<◌, ◌≤◌, Bool, cond, List, [], ◌∷◌, ◌++◌, length, take, get_or}
use Rattle.std.proofs.Common.{sym, ◌∙◌, ap, arith, inl, inr, length-append}
use Rattle.std.proofs.lemmas.Bool.{cases_lt, ne_eqb}
use Rattle.std.proofs.lemmas.List.{get_or_push, get_or_append_left, take-append-le}
use Rattle.cv_byte_trie.specs.Tries.{none, node_code}
use Rattle.cv_byte_trie.specs.Tables.{node_at, edge_at, edge_of}
use Rattle.cv_byte_trie.specs.Private.Sound.{IsSound}
use Rattle.cv_byte_trie.specs.Private.Growth.{code_behind, LeadsOver}
use Rattle.cv_byte_trie.specs.declared.node.Node.{Node}
use Rattle.cv_byte_trie.specs.declared.node.Node.TheVariants.{One, Few, Table}
use Rattle.cv_byte_trie.specs.declared.steps.Steps.{Steps}

-- There are nodes for all bytes but the first n, and this code leads to them.
pub record IsLeading (old new : Steps) (bytes : List ℕ) (code n first : ℕ) : Type 0 where
  pub count : length new.nodes.items + n ≡ length old.nodes.items + length bytes
  pub front : take (length old.nodes.items) new.nodes.items ≡ old.nodes.items
  pub chain : (j : ℕ) → j + n < length bytes → node_at new (length old.nodes.items + j)
      ≡ One (get_or bytes (length bytes - 1 - j) 0) (code_behind code (length old.nodes.items) j)
  pub leads : first ≡ code_behind code (length old.nodes.items) (length bytes - n)

-- the code that leads over one byte or more is that of the newest node
pub behind_some : (code count j : ℕ) → 0 < j → code_behind code count j ≡ node_code (count + j - 1)
behind_some code count j some =
    ap (λ (b : Bool). cond b code (node_code (count + j - 1))) (ne_eqb j 0 (let h : j ≢ 0 = omega arith in h))

-- a byte that the chain does not have leads nowhere from its nodes
pub chain_off : (old new : Steps) (bytes : List ℕ) (code : ℕ) → LeadsOver old new bytes code → (j c : ℕ)
    → j < length bytes → c ≢ get_or bytes (length bytes - 1 - j) 0 → edge_of new (length old.nodes.items + j) c ≡ none
chain_off old new bytes code l j c low h = ap (edge_at new (length old.nodes.items + j) c) (l.chain j low)
    ∙ ap (λ (b : Bool). cond b (code_behind code (length old.nodes.items) j) none)
    (ne_eqb c (get_or bytes (length bytes - 1 - j) 0) h)

module _ (old t u : Steps) (bytes : List ℕ) (code n first : ℕ) (some : 0 < n) (within : n ≤ length bytes)
    (l : IsLeading old t bytes code n first) (byte : ℕ) (is : byte ≡ get_or bytes (n - 1) 0)
    (pushed : u.nodes.items ≡ t.nodes.items ++ One byte first ∷ []) where
  longer : length u.nodes.items ≡ length t.nodes.items + 1
  longer = ap length pushed ∙ length-append t.nodes.items (One byte first ∷ [])

  below : (m : ℕ) → m < length t.nodes.items → node_at u m ≡ node_at t m
  below m low = ap (λ (x : List Node). get_or x m (Table 0)) pushed
      ∙ get_or_append_left t.nodes.items (One byte first ∷ []) (Table 0) m low

  last : (m : ℕ) → m ≡ length t.nodes.items → node_at u m ≡ One byte first
  last m e = ap (λ (x : List Node). get_or x m (Table 0)) pushed
      ∙ get_or_push t.nodes.items (One byte first) (Table 0) m (sym e)

  -- one more node
  pub leads_more : (next : ℕ) → next ≡ node_code (length t.nodes.items) → IsLeading old u bytes code (n - 1) next
  leads_more next next_is =
      let count = l.count in
      let o = length old.nodes.items in
      let reach : o ≤ length t.nodes.items = omega arith in
      record {
        count = omega (arith, longer);
        front = ap (take o) pushed ∙ take-append-le o t.nodes.items (One byte first ∷ []) reach ∙ l.front;
        chain = λ j low. elim (cases_lt (j + n) (length bytes)) [
          | inl less ↦ below (o + j) (omega arith) ∙ l.chain j less
          | inr here ↦ (
              let at : length bytes - n ≡ j = omega arith in
              let place : n - 1 ≡ length bytes - 1 - j = omega arith in
              last (o + j) (omega arith) ∙ ap (λ (x : ℕ). One x first) (is ∙ ap (λ (x : ℕ). get_or bytes x 0) place)
              ∙ ap (One (get_or bytes (length bytes - 1 - j) 0)) (l.leads ∙ ap (code_behind code o) at))
        ];
        leads = (let e : length t.nodes.items ≡ o + (length bytes - (n - 1)) - 1 = omega arith in
            next_is ∙ ap node_code e ∙ sym (behind_some code o (length bytes - (n - 1)) (omega arith)));
      }

  -- the node has no block and no table
  pub one_more_sound : IsSound t → first ≢ none → u.edges.items ≡ t.edges.items → u.tables.items ≡ t.tables.items
      → IsSound u
  one_more_sound s leads edges tables =
      let not_table : (m k : ℕ) → m < length u.nodes.items → node_at u m ≡ Table k
      → (m < length t.nodes.items) × (node_at t m ≡ Table k) = λ m k low e. elim (cases_lt m (length t.nodes.items)) [
        | inl l ↦ (l, sym (below m l) ∙ e)
        | inr l ↦ absurd (let bad : One byte first ≡ Table k = sym (last m (omega (arith, longer))) ∙ e in cc)
      ] in
      let not_few : (m w c : ℕ) → m < length u.nodes.items → node_at u m ≡ Few w c
      → (m < length t.nodes.items) × (node_at t m ≡ Few w c) = λ m w c low e. elim (cases_lt m (length t.nodes.items)) [
        | inl l ↦ (l, sym (below m l) ∙ e)
        | inr l ↦ absurd (let bad : One byte first ≡ Few w c = sym (last m (omega (arith, longer))) ∙ e in cc)
      ] in
      record {
        some = omega (arith, longer);
        root = below 0 s.some ∙ s.root;
        full = rw tables s.full;
        whole = λ m k low e. (let h = not_table m k low e in rw tables (s.whole m k h.0 h.1));
        apart = λ m k j lm lk e f.
            (let h = not_table m j lm e in let g = not_table k j lk f in s.apart m k j h.0 g.0 h.1 g.1);
        filled = λ m w c low e. (let h = not_few m w c low e in s.filled m w c h.0 h.1);
        small = λ m w c low e. (let h = not_few m w c low e in s.small m w c h.0 h.1);
        within = λ m w c low e. rw edges (let h = not_few m w c low e in s.within m w c h.0 h.1);
        own = λ m n w c v d k lm ln e f.
            (let h = not_few m w c lm e in let g = not_few n v d ln f in s.own m n w c v d k h.0 g.0 h.1 g.1);
        once = λ m w c j k low e lj lk same b.
            (let h = not_few m w c low e in s.once m w c j k h.0 h.1 lj lk (rw edges at same) (rw edges at b));
        led_one = λ m b c low e z. elim (cases_lt m (length t.nodes.items)) [
          | inl l ↦ s.led_one m b c l (sym (below m l) ∙ e) z
          | inr l ↦ leads (let same : One byte first ≡ One b c = sym (last m (omega (arith, longer))) ∙ e in cc)
        ];
        led = λ m w c k low e lk b. rw edges (let h = not_few m w c low e in s.led m w c k h.0 h.1 lk (rw edges at b));
      }
