-- Where byte strings lead.
use Rattle.std.proofs.Common.{◌≡◌, ◌≢◌, ◌==◌, ◌⊎◌, ℕ, suc, ◌<◌, ◌+◌, ◌-◌, cond, ltb, List, [], ◌∷◌, ◌++◌, length, take}
use Rattle.std.proofs.Common.{refl, sym, subst, ◌∙◌, ap, arith, inl, inr, append_assoc, append-nil, length-append}
use Rattle.std.proofs.Common.{eq-eqb}
use Rattle.std.proofs.lemmas.Bool.{cases_lt, cases_eq, lt-ltb, le-ltb, ne_eqb}
use Rattle.cv_base.specs.Items.{Begins}
use Rattle.cv_base.proofs.Front.{Begins-append}
use Rattle.cv_byte_trie.specs.Entries.{Entry, bytes_at, AreEntries}
use Rattle.cv_byte_trie.specs.Results.{GoesOnBehind}
use Rattle.cv_byte_trie.specs.Tries.{StepsBy, tails, tail_code, none, node_code, IsAlone, IsTrie, HasTrie}
use Rattle.cv_byte_trie.specs.Walks.{Destination, Leaf, Tail, Node, Nowhere, later, walk, AreBytes, Leads}

-- a step from a code
abbrev go : StepsBy → ℕ → List ℕ → Destination
go S c bytes = cond (ltb c tails) (Leaf c 1)
    (cond (ltb c none) (Tail (c - 0x40000000) 1) (cond (c == none) Nowhere (later (walk S (c - 0x80000001) bytes))))

go_leaf : (S : StepsBy) (c : ℕ) (bytes : List ℕ) → c < tails → go S c bytes ≡ Leaf c 1
go_leaf S c bytes l = rw (lt-ltb c tails l) refl

go_tail : (S : StepsBy) (c p : ℕ) (bytes : List ℕ) → c ≡ tail_code p → p < tails → go S c bytes ≡ Tail p 1
go_tail S c p bytes e l =
    let i : c - 0x40000000 ≡ p = omega arith in
    rw (le-ltb c tails (omega arith), lt-ltb c none (omega arith), i) refl

go_none : (S : StepsBy) (c : ℕ) (bytes : List ℕ) → c ≡ none → go S c bytes ≡ Nowhere
go_none S c bytes e = rw (le-ltb c tails (omega arith), le-ltb c none (omega arith), eq-eqb c none e) refl

go_node : (S : StepsBy) (c j : ℕ) (bytes : List ℕ) → c ≡ node_code j → go S c bytes ≡ later (walk S j bytes)
go_node S c j bytes e =
    let n : c ≢ none = omega arith in
    let i : c - 0x80000001 ≡ j = omega arith in
    rw (le-ltb c tails (omega arith), le-ltb c none (omega arith), ne_eqb c none n, i) refl

leaf_later : (f : Destination) (c n : ℕ) → later f ≡ Leaf c n → (m : ℕ) × (f ≡ Leaf c m) × (n ≡ suc m)
leaf_later (Leaf d m) c n h = let e : d ≡ c = cc in let g : suc m ≡ n = cc in (m, ap (λ (x : ℕ). Leaf x m) e, sym g)
leaf_later (Tail d m) c n h = absurd (cc)
leaf_later (Node i) c n h = absurd (cc)
leaf_later Nowhere c n h = absurd (cc)

tail_later : (f : Destination) (c n : ℕ) → later f ≡ Tail c n → (m : ℕ) × (f ≡ Tail c m) × (n ≡ suc m)
tail_later (Tail d m) c n h = let e : d ≡ c = cc in let g : suc m ≡ n = cc in (m, ap (λ (x : ℕ). Tail x m) e, sym g)
tail_later (Leaf d m) c n h = absurd (cc)
tail_later (Node i) c n h = absurd (cc)
tail_later Nowhere c n h = absurd (cc)

node_later : (f : Destination) (i : ℕ) → later f ≡ Node i → f ≡ Node i
node_later (Leaf d m) i h = absurd (cc)
node_later (Tail d m) i h = absurd (cc)
node_later (Node j) i h = h
node_later Nowhere i h = absurd (cc)

-- what a step's code says
data Kind (c : ℕ) : Type 0 where
  KLeaf : c < tails → Kind c
  KTail : (p : ℕ) → c ≡ tail_code p → p < tails → Kind c
  KNone : c ≡ none → Kind c
  KNode : (j : ℕ) → c ≡ node_code j → Kind c

kind : (c : ℕ) → Kind c
kind c = elim (cases_lt c tails) [
  | inl l ↦ KLeaf l
  | inr l ↦ elim (cases_lt c none) [
    | inl m ↦ KTail (c - 0x40000000) (omega arith) (omega arith)
    | inr m ↦ elim (cases_eq c none) [
      | inl e ↦ KNone e
      | inr e ↦ KNode (c - 0x80000001) (omega arith)
    ]
  ]
]

-- an entry's bytes lead to its index, all of them or a proper prefix
abbrev Owned : List Entry → ℕ → ℕ → Destination → Type 0
Owned entries p size f = (f ≡ Leaf p size) ⊎ ((n : ℕ) × (n < size) × (f ≡ Tail p n))

owned_later : (entries : List Entry) (p size : ℕ) (f : Destination) → Owned entries p size f
    → Owned entries p (suc size) (later f)
owned_later entries p size f (inl e) = inl (ap later e)
owned_later entries p size f (inr h) = inr (suc h.0, omega (arith, h.1), ap later h.2)

module _ (entries : List Entry) (a : AreEntries entries) (S : StepsBy) (way : ℕ → List ℕ) (count : ℕ)
    (t : IsTrie S way count entries) where
  own_from : (p i : ℕ) (v rest : List ℕ) → p < length entries → i < count → bytes_at entries p ≡ way i ++ v → AreBytes v
      → Owned entries p (length v) (walk S i (v ++ rest))
  own_from p i [] rest lp li e bytes =
      let f : bytes_at entries p ≡ way i = e ∙ append-nil (way i) in
      let long : length (bytes_at entries p) ≡ length (way i) = ap length f in
      let some : 0 < length (way i) = (let h = a.some p lp in omega arith) in
      let on = t.on_way i li some in
      let behind = on.1 in
      let front : Begins (bytes_at entries p) (bytes_at entries on.0) =
      subst (λ (x : List ℕ). Begins x (bytes_at entries on.0)) (sym f) behind.front in
      let same : p ≡ on.0 = a.apart p on.0 lp behind.low front in
      let g : length (bytes_at entries p) ≡ length (bytes_at entries on.0) =
      ap (λ (k : ℕ). length (bytes_at entries k)) same in
      absurd (omega (arith, behind.longer))
  own_from p i (b ∷ v) rest lp li e bytes =
      let split : bytes_at entries p ≡ (way i ++ b ∷ []) ++ v = e ∙ sym (append_assoc (way i) (b ∷ []) v) in
      let front : Begins (way i ++ b ∷ []) (bytes_at entries p) = rw split (Begins-append (way i ++ b ∷ []) v) in
      let some = t.there i b p li bytes.0 lp front in
      elim (kind (S i b)) [
        | KLeaf l ↦ (
            let q = t.leaf i b (S i b) li bytes.0 refl l in
            let same : S i b ≡ p = a.apart (S i b) p q.0 lp (rw q.1 front) in
            let f : length (bytes_at entries (S i b)) ≡ length (bytes_at entries p) =
            ap (λ (k : ℕ). length (bytes_at entries k)) same in
            let g : length (bytes_at entries (S i b)) ≡ length (way i ++ b ∷ []) = ap length q.1 in
            let h : length (bytes_at entries p) ≡ length (way i ++ b ∷ []) + length v = ap length split
            ∙ length-append (way i ++ b ∷ []) v in
            let one : 1 ≡ suc (length v) = omega arith in
            inl (go_leaf S (S i b) (v ++ rest) l ∙ ap (λ (c : ℕ). Leaf c 1) same ∙ ap (Leaf p) one))
        | KTail q is l ↦ (
            let alone = t.tail i b q li bytes.0 is l in
            let same : p ≡ q = alone.alone p lp front in
            let longer : length (way i ++ b ∷ []) < length (bytes_at entries q) = alone.on.longer in
            let f : length (bytes_at entries q) ≡ length (bytes_at entries p) =
            ap (λ (k : ℕ). length (bytes_at entries k)) (sym same) in
            let h : length (bytes_at entries p) ≡ length (way i ++ b ∷ []) + length v = ap length split
            ∙ length-append (way i ++ b ∷ []) v in
            inr (1, omega arith, go_tail S (S i b) q (v ++ rest) is l ∙ ap (λ (c : ℕ). Tail c 1) (sym same)))
        | KNone z ↦ absurd (some z)
        | KNode j code ↦ (
            let n = t.node i b j li bytes.0 code in
            subst (Owned entries p (suc (length v))) (sym (go_node S (S i b) j (v ++ rest) code))
            (owned_later entries p (length v) (walk S j (v ++ rest))
            (own_from p j v rest lp n.0 (split ∙ ap (λ (x : List ℕ). x ++ v) (sym n.1)) bytes.1)))
      ]

  only_from : (i : ℕ) (w : List ℕ) (p n : ℕ) → i < count → AreBytes w → walk S i w ≡ Leaf p n
      → (p < length entries) × (bytes_at entries p ≡ way i ++ take n w)
  only_from i [] p n li bytes h = absurd (cc)
  only_from i (b ∷ w) p n li bytes h = elim (kind (S i b)) [
    | KLeaf l ↦ (
        let both : Leaf (S i b) 1 ≡ Leaf p n = sym (go_leaf S (S i b) w l) ∙ h in
        let e : S i b ≡ p = cc in
        let f : 1 ≡ n = cc in
        let q = t.leaf i b p li bytes.0 e (omega arith) in
        (q.0, q.1 ∙ ap (λ (k : ℕ). way i ++ take k (b ∷ w)) f))
    | KTail q is l ↦ absurd (let bad : Tail q 1 ≡ Leaf p n = sym (go_tail S (S i b) q w is l) ∙ h in cc)
    | KNone z ↦ absurd (let bad : Nowhere ≡ Leaf p n = sym (go_none S (S i b) w z) ∙ h in cc)
    | KNode j code ↦ (
        let on = t.node i b j li bytes.0 code in
        let r = leaf_later (walk S j w) p n (sym (go_node S (S i b) j w code) ∙ h) in
        let q = only_from j w p r.0 on.0 bytes.1 r.1 in (
          q.0,
          q.1 ∙ ap (λ (x : List ℕ). x ++ take r.0 w) on.1 ∙ append_assoc (way i) (b ∷ []) (take r.0 w)
              ∙ ap (λ (k : ℕ). way i ++ take k (b ∷ w)) (sym r.2),
        ))
  ]

  alone_from : (i : ℕ) (w : List ℕ) (p n : ℕ) → i < count → AreBytes w → walk S i w ≡ Tail p n
      → IsAlone entries (way i ++ take n w) p
  alone_from i [] p n li bytes h = absurd (cc)
  alone_from i (b ∷ w) p n li bytes h = elim (kind (S i b)) [
    | KLeaf l ↦ absurd (let bad : Leaf (S i b) 1 ≡ Tail p n = sym (go_leaf S (S i b) w l) ∙ h in cc)
    | KTail q is l ↦ (
        let both : Tail q 1 ≡ Tail p n = sym (go_tail S (S i b) q w is l) ∙ h in
        let e : q ≡ p = cc in
        let f : 1 ≡ n = cc in
        subst (λ (k : ℕ). IsAlone entries (way i ++ take k (b ∷ w)) p) f
        (subst (λ (k : ℕ). IsAlone entries (way i ++ b ∷ []) k) e (t.tail i b q li bytes.0 is l)))
    | KNone z ↦ absurd (let bad : Nowhere ≡ Tail p n = sym (go_none S (S i b) w z) ∙ h in cc)
    | KNode j code ↦ (
        let on = t.node i b j li bytes.0 code in
        let r = tail_later (walk S j w) p n (sym (go_node S (S i b) j w code) ∙ h) in
        let q = alone_from j w p r.0 on.0 bytes.1 r.1 in
        let way_is : way j ++ take r.0 w ≡ way i ++ take n (b ∷ w) = ap (λ (x : List ℕ). x ++ take r.0 w) on.1
        ∙ append_assoc (way i) (b ∷ []) (take r.0 w) ∙ ap (λ (k : ℕ). way i ++ take k (b ∷ w)) (sym r.2) in
        subst (λ (x : List ℕ). IsAlone entries x p) way_is q)
  ]

  way_from : (i : ℕ) (w : List ℕ) (j : ℕ) → i < count → AreBytes w → walk S i w ≡ Node j
      → (j < count) × (way j ≡ way i ++ w)
  way_from i [] j li bytes h = let e : i ≡ j = cc in (omega arith, ap way (sym e) ∙ sym (append-nil (way i)))
  way_from i (b ∷ w) j li bytes h = elim (kind (S i b)) [
    | KLeaf l ↦ absurd (let bad : Leaf (S i b) 1 ≡ Node j = sym (go_leaf S (S i b) w l) ∙ h in cc)
    | KTail q is l ↦ absurd (let bad : Tail q 1 ≡ Node j = sym (go_tail S (S i b) q w is l) ∙ h in cc)
    | KNone z ↦ absurd (let bad : Nowhere ≡ Node j = sym (go_none S (S i b) w z) ∙ h in cc)
    | KNode k code ↦ (
        let on = t.node i b k li bytes.0 code in
        let q = way_from k w j on.0 bytes.1 (node_later (walk S k w) j (sym (go_node S (S i b) k w code) ∙ h)) in
        (q.0, q.1 ∙ ap (λ (x : List ℕ). x ++ w) on.1 ∙ append_assoc (way i) (b ∷ []) w))
  ]

-- The trie leads each byte string as it should.
pub leads_from : (entries : List Entry) → AreEntries entries → (S : StepsBy) (count : ℕ) → HasTrie S count entries
    → Leads S entries
leads_from entries a S count h =
    let t = h.trie in
    record {
      own = λ p rest lp bytes. own_from entries a S h.way count t p 0 (bytes_at entries p) rest lp t.some
          (ap (λ (x : List ℕ). x ++ bytes_at entries p) (sym t.root)) bytes;
      alone = λ w p n bytes e. subst (λ (x : List ℕ). IsAlone entries (x ++ take n w) p) t.root
          (alone_from entries a S h.way count t 0 w p n t.some bytes e);
      only = λ w p n bytes e. (let q = only_from entries a S h.way count t 0 w p n t.some bytes e in
          (q.0, q.1 ∙ ap (λ (x : List ℕ). x ++ take n w) t.root));
      on_way = λ w i some bytes e. (
          let q = way_from entries a S h.way count t 0 w i t.some bytes e in
          let f : h.way i ≡ w = q.1 ∙ ap (λ (x : List ℕ). x ++ w) t.root in
          let on = t.on_way i q.0 (rw f some) in
          (on.0, subst (λ (x : List ℕ). GoesOnBehind entries x on.0) f on.1));
    }
