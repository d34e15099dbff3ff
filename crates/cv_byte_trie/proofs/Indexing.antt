-- The invariant of a byte trie stays when entries are added.
use Rattle.std.proofs.Common.{◌≡◌, ◌≢◌, ◌==◌, ◌&&◌, ℕ, ◌<◌, ◌≤◌, ◌+◌, ◌-◌, cond, List, [], ◌∷◌, ◌++◌, length, take}
use Rattle.std.proofs.Common.{drop, get_or, refl, sym, subst, ◌∙◌, ap, arith, inl, inr, eq-eqb, length-drop}
use Rattle.std.proofs.lemmas.Bool.{cases_eq, ne_eqb}
use Rattle.std.proofs.lemmas.List.{get_or-drop, get_or-take, length-take-le}
use Rattle.cv_base.specs.Items.{Begins}
use Rattle.cv_base.specs.Scalars.{IsScalar}
use Rattle.cv_base.proofs.Front.{Begins-take, Begins-front}
use Rattle.cv_byte_trie.specs.Entries.{Entry, bytes_at, AreEntries}
use Rattle.cv_byte_trie.specs.Results.{MeetsNone}
use Rattle.cv_byte_trie.specs.Tries.{StepsBy, tails, none, IsAlone, HasTrie, IsAt}
use Rattle.cv_byte_trie.specs.Tables.{edge_in, node_at, edge_at, edge_of}
use Rattle.cv_byte_trie.specs.Private.Sound.{IsSound}
use Rattle.cv_byte_trie.specs.Private.Growth.{IsUnchanged, SetsEdge, Splits, end_code, code_behind}
use Rattle.cv_byte_trie.specs.Private.Reading.{IsVacant, IsTail}
use Rattle.cv_byte_trie.specs.Private.Comparisons.{AgreeFor}
use Rattle.cv_byte_trie.specs.Private.Indexed.{IsIndexed}
use Rattle.cv_byte_trie.specs.declared.node.Edge.{Edge}
use Rattle.cv_byte_trie.specs.declared.node.Node.{Node}
use Rattle.cv_byte_trie.specs.declared.node.Node.TheVariants.{Table}
use Rattle.cv_byte_trie.specs.declared.steps.Steps.{Steps}
use Rattle.cv_byte_trie.specs.declared.walking.Tail.{Tail}
use Rattle.cv_byte_trie.proofs.Agreeing.{agree_flip, agree_not, agree_deep}
use Rattle.cv_byte_trie.proofs.Followed.{vacant_meets_none, tail_alone, tail_begun, tail_size, tail_meets_none}
use Rattle.cv_byte_trie.proofs.OneMore.{cases_same, one_more_entry, one_more_trie, one_more_at, longer, root_alone}
use Rattle.cv_byte_trie.proofs.SplitEdges.{at_split}
use Rattle.cv_byte_trie.proofs.Setting.{edge_same}

-- ---- if nothing changed

module _ (old new : Steps) (u : IsUnchanged old new) where
  node_unchanged : (n : ℕ) → node_at new n ≡ node_at old n
  node_unchanged n = ap (λ (x : List Node). get_or x n (Table 0)) u.nodes

  edge_unchanged : (n b : ℕ) → edge_of new n b ≡ edge_of old n b
  edge_unchanged n b = ap (edge_at new n b) (node_unchanged n) ∙ edge_same old new n b (node_at old n) u.tables
      (λ size start _ k _. ap (λ (x : List Edge). edge_in x (start + k)) u.edges)

  sound_unchanged : IsSound old → IsSound new
  sound_unchanged s = record {
    some = rw u.nodes s.some;
    root = node_unchanged 0 ∙ s.root;
    full = rw u.tables s.full;
    whole = λ n k low e. rw u.tables (s.whole n k (rw u.nodes at low) (sym (node_unchanged n) ∙ e));
    apart = λ m n k lm ln e f.
        s.apart m n k (rw u.nodes at lm) (rw u.nodes at ln) (sym (node_unchanged m) ∙ e) (sym (node_unchanged n) ∙ f);
    filled = λ n size start low e. s.filled n size start (rw u.nodes at low) (sym (node_unchanged n) ∙ e);
    small = λ n size start low e. s.small n size start (rw u.nodes at low) (sym (node_unchanged n) ∙ e);
    within = λ n size start low e. rw u.edges (s.within n size start (rw u.nodes at low) (sym (node_unchanged n) ∙ e));
    own = λ m n size start width from k lm ln e f. s.own m n size start width from k (rw u.nodes at lm)
        (rw u.nodes at ln) (sym (node_unchanged m) ∙ e) (sym (node_unchanged n) ∙ f);
    once = λ n size start j k low e lj lk same byte. s.once n size start j k (rw u.nodes at low)
        (sym (node_unchanged n) ∙ e) lj lk (rw u.edges at same) (rw u.edges at byte);
    led_one = λ n b code low e. s.led_one n b code (rw u.nodes at low) (sym (node_unchanged n) ∙ e);
    led = λ n size start k low e lk byte.
        rw u.edges (s.led n size start k (rw u.nodes at low) (sym (node_unchanged n) ∙ e) lk (rw u.edges at byte));
  }

trie_same : (S T : StepsBy) (count : ℕ) (entries : List Entry) → ((n b : ℕ) → T n b ≡ S n b) → HasTrie S count entries
    → HasTrie T count entries
trie_same S T count entries same h =
    let t = h.trie in
    record {
      way = h.way;
      trie = record {
        some = t.some;
        root = t.root;
        node = λ i b j li lb e. t.node i b j li lb (sym (same i b) ∙ e);
        leaf = λ i b p li lb e lp. t.leaf i b p li lb (sym (same i b) ∙ e) lp;
        tail = λ i b p li lb e lp. t.tail i b p li lb (sym (same i b) ∙ e) lp;
        ends = λ i b p j li lb e lp lj f. t.ends i b p j li lb (sym (same i b) ∙ e) lp lj f;
        there = λ i b p li lb lp f z. t.there i b p li lb lp f (sym (same i b) ∙ z);
        one = t.one;
        on_way = t.on_way;
      };
    }

-- unchanged entries and steps keep the invariant
pub indexed_unchanged : (entries same : List Entry) (old new : Steps) → IsIndexed entries old → same ≡ entries
    → IsUnchanged old new → IsIndexed same new
indexed_unchanged entries same old new i e u = subst (λ (x : List Entry). IsIndexed x new) (sym e) (record {
  apart = i.apart;
  sound = sound_unchanged old new u i.sound;
  leads = subst (λ (x : List Node). HasTrie (edge_of new) (length x) entries) (sym u.nodes)
      (trie_same (edge_of old) (edge_of new) (length old.nodes.items) entries (edge_unchanged old new u) i.leads);
  few = i.few;
  nodes = rw u.nodes i.nodes;
  edges = rw u.edges i.edges;
  tables = rw u.tables i.tables;
})

-- ---- if an entry was added

-- the invariant holds with one more entry
pub indexed_more : (entries : List Entry) (old new : Steps) (w : List ℕ) (character d i : ℕ) → IsIndexed entries old
    → IsVacant (edge_of old) (length old.nodes.items) entries w d i
    → length w ≤ 8 → IsScalar character → length entries < 16777216 → IsSound new → SetsEdge old new i (get_or w d 0)
    (end_code (length w) d (length entries)) → length new.nodes.items ≡ length old.nodes.items
    → length new.edges.items ≤ length old.edges.items + 32 → length new.tables.items ≤ length old.tables.items + 256
    → IsIndexed (entries ++ (w, character) ∷ []) new
indexed_more entries old new w character d i x v short scalar room sound g same edges tables =
    let e : Entry = (w, character) in
    let more = v.more in
    let n = x.nodes in
    let l = x.edges in
    let t = x.tables in
    record {
      apart = one_more_entry entries e x.apart
          (vacant_meets_none entries x.apart (edge_of old) (length old.nodes.items) w d i v) (omega arith) short scalar;
      sound = sound;
      leads = rw same (one_more_trie entries x.apart (edge_of old) (length old.nodes.items) w d i v.here
          (get_or w d 0) v.more refl v.byte v.vacant (omega arith) character (edge_of new) g.same g.set);
      few = omega (arith, longer entries e);
      nodes = omega (arith, longer entries e);
      edges = omega (arith, longer entries e);
      tables = omega (arith, longer entries e);
    }

-- the bytes before the one that led nowhere still lead to the same node
pub at_more : (entries : List Entry) (old new : Steps) (w : List ℕ) (character d i : ℕ) → IsIndexed entries old
    → IsVacant (edge_of old) (length old.nodes.items) entries w d i → length entries < 16777216 → SetsEdge old new i
    (get_or w d 0) (end_code (length w) d (length entries)) → length new.nodes.items ≡ length old.nodes.items
    → IsAt (edge_of new) (length new.nodes.items) (entries ++ (w, character) ∷ []) w d i
at_more entries old new w character d i x v room g same =
    subst (λ (n : ℕ). IsAt (edge_of new) n (entries ++ (w, character) ∷ []) w d i) (sym same)
    (one_more_at entries x.apart (edge_of old) (length old.nodes.items) w d i v.here
    (get_or w d 0) v.more refl v.byte v.vacant (omega arith) character (edge_of new) g.same g.set)

-- ---- if an entry was added beside another

-- the steps with one edge removed
abbrev pub without : StepsBy → ℕ → ℕ → StepsBy
without T m x n c = cond ((n == m) && (c == x)) none (T n c)

without_it : (T : StepsBy) (m x n c : ℕ) → n ≡ m → c ≡ x → without T m x n c ≡ none
without_it T m x n c p q = rw (eq-eqb n m p, eq-eqb c x q) refl

without_other : (T : StepsBy) (m x n c : ℕ) → ((n ≡ m) × (c ≡ x) → ⊥) → without T m x n c ≡ T n c
without_other T m x n c h = elim (cases_eq n m) [
  | inl p ↦ elim (cases_eq c x) [
    | inl q ↦ absurd (h (p, q))
    | inr q ↦ rw (eq-eqb n m p, ne_eqb c x q) refl
  ]
  | inr p ↦ rw (ne_eqb n m p) refl
]

-- The bytes `w` and those of the entry to which the next byte leads have `l` bytes in common.
module _ (entries : List Entry) (a : AreEntries entries) (old new : Steps) (w : List ℕ) (tail : Tail)
    (t : IsTail (edge_of old) (length old.nodes.items) entries w tail) (l : ℕ)
    (agree : AgreeFor (bytes_at entries tail.index) w l) (parts_held : l < length (bytes_at entries tail.index))
    (parts : l < length w) where
  abbrev d : ℕ
  d = tail.depth

  abbrev v : List ℕ
  v = bytes_at entries tail.index

  alone : IsAlone entries (t.here.way tail.node ++ get_or w d 0 ∷ []) tail.index
  alone = tail_alone entries a (edge_of old) (length old.nodes.items) w tail t

  -- the bytes that lead to it are in common
  pub beside_deep : d < l
  beside_deep =
      let long = agree_deep (t.here.way tail.node ++ get_or w d 0 ∷ []) v w l agree parts_held parts alone.on.front
      (tail_begun entries a (edge_of old) (length old.nodes.items) w tail t) in
      omega (arith, tail_size entries a (edge_of old) (length old.nodes.items) w tail t)

  here : IsAt (edge_of old) (length old.nodes.items) entries v d tail.node
  here = record {
    way = t.here.way;
    trie = t.here.trie;
    low = t.here.low;
    at = Begins-front (t.here.way tail.node) (get_or w d 0 ∷ []) v alone.on.front;
    deep = t.here.deep;
  }

  same_byte : get_or w d 0 ≡ get_or v d 0
  same_byte = sym (get_or-take l w d 0 beside_deep) ∙ ap (λ (x : List ℕ). get_or x d 0) (sym agree.same)
      ∙ get_or-take l v d 0 beside_deep

  abbrev between : List ℕ
  between = drop (d + 1) (take (l + 1) v)

  between_size : length between ≡ l - d
  between_size = length-drop (d + 1) (take (l + 1) v)
      ∙ (let long : length (take (l + 1) v) ≡ l + 1 = length-take-le (l + 1) v (omega arith) in omega arith)

  between_at : (j : ℕ) → j < l - d → get_or between (length between - 1 - j) 0 ≡ get_or v (l - j) 0
  between_at j low =
      let deep = beside_deep in
      let at : d + 1 + (length between - 1 - j) ≡ l - j = omega (arith, between_size) in
      get_or-drop (d + 1) (take (l + 1) v) (length between - 1 - j) 0
      ∙ ap (λ (k : ℕ). get_or (take (l + 1) v) k 0) at ∙ get_or-take (l + 1) v (l - j) 0 (omega arith)

  pub between_some : 0 < length between
  between_some = let deep = beside_deep in omega (arith, between_size)

  -- the last of them is not the byte of the new entry
  pub between_apart : get_or w l 0 ≢ get_or between (length between - 1) 0
  between_apart e =
      let deep = beside_deep in
      let at : length between - 1 - 0 ≡ length between - 1 = omega arith in
      let here : l - 0 ≡ l = omega arith in
      agree.differ parts_held parts (sym (e ∙ ap (λ (k : ℕ). get_or between k 0) (sym at) ∙ between_at 0 (omega arith)
      ∙ ap (λ (k : ℕ). get_or v k 0) here))

  -- the new entry meets no other
  pub beside_meets_none : MeetsNone entries w
  beside_meets_none = tail_meets_none entries a (edge_of old) (length old.nodes.items) w tail t
      (agree_not v w l agree parts_held) (agree_not w v l (agree_flip v w l agree) parts)

  beside_trie : (character : ℕ) → length entries < tails → get_or w l 0 < 256 → Splits old new tail.node
      (get_or w d 0) between (end_code (length v) l tail.index) (get_or w l 0) (end_code (length w) l (length entries))
      → HasTrie (edge_of new) (length new.nodes.items) (entries ++ (w, character) ∷ [])
  beside_trie character small byte g =
      let count = length old.nodes.items in
      let m = l - d in
      let deep = beside_deep in
      let b = get_or w d 0 in
      let x = get_or w l 0 in
      let T : StepsBy = edge_of new in
      let last = end_code (length v) l tail.index in
      let node = t.here.low in
      let first : edge_of new tail.node b ≡ code_behind last count m = g.set
      ∙ ap (code_behind last count) between_size in
      let sum : length new.nodes.items ≡ count + m = g.branches.count ∙ ap (λ (k : ℕ). count + k) between_size in
      let fork = at_split entries a (edge_of old) count tail.index alone.on.low d tail.node here b
      (omega arith) same_byte t.byte t.code t.few l m (omega arith) (omega arith) parts_held
      (without T count x) (λ n c low cb h. without_other T count x n c (λ q. omega (arith, q.0)) ∙ g.same n c low cb h)
      (without_other T count x tail.node b (λ q. omega (arith, q.0)) ∙ first)
      (λ j low cb. without_other T count x (count + j) (get_or v (l - j) 0) (λ q. (let z : j ≡ 0 = omega (arith, q.0) in
      let f : l - j ≡ l = omega arith in agree.differ parts_held parts (ap (λ (k : ℕ). get_or v k 0) (sym f) ∙ q.1)))
      ∙ ap (edge_of new (count + j)) (sym (between_at j low)) ∙ g.branches.on j (rw between_size low)
      (rw (between_at j low) cb)) (λ j c low cb h. elim (cases_same count x (count + j) c) [
        | inl q ↦ without_it T count x (count + j) c q.0 q.1
        | inr q ↦ without_other T count x (count + j) c q ∙ g.branches.off j c (rw between_size low) cb
            (λ f. h (f ∙ between_at j low)) (λ f. q (omega (arith, f.0), f.1))
      ])
      w agree.same in
      rw sum (one_more_trie entries a (without T count x) (count + m) w l count fork x parts refl byte
      (without_it T count x count x refl refl) small character T
      (λ n c low cb h. sym (without_other T count x n c h)) g.branches.fork)

  -- the invariant holds with one more entry beside another
  pub indexed_beside : (character : ℕ) → IsIndexed entries old → length w ≤ 8 → IsScalar character
      → length entries < 16777216 → get_or w l 0 < 256 → IsSound new
      → Splits old new tail.node (get_or w d 0) between (end_code (length v) l tail.index)
      (get_or w l 0) (end_code (length w) l (length entries)) → length new.edges.items ≤ length old.edges.items + 32
      → length new.tables.items ≤ length old.tables.items + 256 → IsIndexed (entries ++ (w, character) ∷ []) new
  indexed_beside character i short scalar room byte sound g edges tables =
      let e : Entry = (w, character) in
      let n = i.nodes in
      let f = i.edges in
      let r = i.tables in
      let sum = g.branches.count in
      record {
        apart = one_more_entry entries e i.apart beside_meets_none (omega arith) short scalar;
        sound = sound;
        leads = beside_trie character (omega arith) byte g;
        few = omega (arith, longer entries e);
        nodes = omega (arith, longer entries e, between_size);
        edges = omega (arith, longer entries e);
        tables = omega (arith, longer entries e);
      }

-- a root with no edge is the trie of no entries
pub indexed_none : (steps : Steps) → IsSound steps → length steps.nodes.items ≡ 1 → length steps.edges.items ≡ 0
    → length steps.tables.items ≡ 256 → ((b : ℕ) → b < 256 → edge_of steps 0 b ≡ none) → IsIndexed [] steps
indexed_none steps sound nodes edges tables empty = record {
  apart = record {
    some = λ k l. absurd (omega arith);
    short = λ k l. absurd (omega arith);
    scalar = λ k l. absurd (omega arith);
    apart = λ j k l h f. absurd (omega arith);
  };
  sound = sound;
  leads = rw nodes (root_alone (edge_of steps) empty);
  few = omega arith;
  nodes = omega arith;
  edges = omega arith;
  tables = omega arith;
}

-- a text begins with the bytes that lead to an entry
pub leaf_begins : (entries : List Entry) (x : List ℕ) (p n : ℕ) → bytes_at entries p ≡ take n x
    → Begins (bytes_at entries p) x
leaf_begins entries x p n e = rw e (Begins-take n x)
