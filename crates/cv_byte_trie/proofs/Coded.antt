-- The edges of a block.
use Rattle.std.proofs.Common.{◌≡◌, ◌≢◌, ◌==◌, ℕ, ◌<◌, ◌≤◌, ◌+◌, cond, List, zero, suc, refl, sym, ◌∙◌, ap, arith, inl}
use Rattle.std.proofs.Common.{inr, eq-eqb}
use Rattle.std.proofs.lemmas.Bool.{cases_eq, ne_eqb}
use Rattle.cv_byte_trie.specs.Tries.{none}
use Rattle.cv_byte_trie.specs.Tables.{coded, edge_in}
use Rattle.cv_byte_trie.specs.declared.node.Edge.{Edge}

-- the code of a byte with one more edge, if it has the code `c` by the edges before it
abbrev pub over : Edge → ℕ → ℕ → ℕ
over e b c = cond (e.byte == b) e.code c

-- an edge gives its code for its own byte
pub over_same : (e : Edge) (b c : ℕ) → e.byte ≡ b → over e b c ≡ e.code
over_same e b c h = rw (eq-eqb e.byte b h) refl

-- an edge changes nothing for another byte
pub over_other : (e : Edge) (b c : ℕ) → e.byte ≢ b → over e b c ≡ c
over_other e b c h = rw (ne_eqb e.byte b h) refl

-- a byte that no edge has leads nowhere
pub coded_none : (edges : List Edge) (u s b : ℕ) → ((k : ℕ) → k < s → (edge_in edges (u + k)).byte ≢ b)
    → coded edges u s b ≡ none
coded_none edges u zero b h = refl
coded_none edges u (suc s) b h = over_other (edge_in edges (u + s)) b (coded edges u s b) (h s (omega arith))
    ∙ coded_none edges u s b (λ k l. h k (omega arith))

-- the only edge that has a byte gives its code
pub coded_at : (edges : List Edge) (u s b k : ℕ) → k < s → (edge_in edges (u + k)).byte ≡ b
    → ((j : ℕ) → j < s → (edge_in edges (u + j)).byte ≡ b → j ≡ k) → coded edges u s b ≡ (edge_in edges (u + k)).code
coded_at edges u zero b k low is one = absurd (omega arith)
coded_at edges u (suc s) b k low is one = elim (cases_eq s k) [
  | inl e ↦ over_same (edge_in edges (u + s)) b (coded edges u s b)
      (ap (λ (x : ℕ). (edge_in edges (u + x)).byte) e ∙ is) ∙ ap (λ (x : ℕ). (edge_in edges (u + x)).code) e
  | inr h ↦ over_other (edge_in edges (u + s)) b (coded edges u s b) (λ e. h (one s (omega arith) e))
      ∙ coded_at edges u s b k (omega arith) is (λ j l e. one j (omega arith) e)
]

-- blocks with the same edges lead to the same codes
pub coded_same : (old new : List Edge) (u v s b : ℕ) → ((k : ℕ) → k < s → edge_in new (v + k) ≡ edge_in old (u + k))
    → coded new v s b ≡ coded old u s b
coded_same old new u v zero b h = refl
coded_same old new u v (suc s) b h = ap (λ (e : Edge). over e b (coded new v s b)) (h s (omega arith))
    ∙ ap (λ (c : ℕ). over (edge_in old (u + s)) b c) (coded_same old new u v s b (λ k l. h k (omega arith)))

-- changing one edge, which has another byte in both lists, changes nothing for a byte
pub coded_other : (old new : List Edge) (u s b k : ℕ) → ((j : ℕ) → j < s → j ≢ k → edge_in new (u + j) ≡ edge_in old
    (u + j)) → (edge_in old (u + k)).byte ≢ b → (edge_in new (u + k)).byte ≢ b → coded new u s b ≡ coded old u s b
coded_other old new u zero b k same was is = refl
coded_other old new u (suc s) b k same was is =
    let rest = coded_other old new u s b k (λ j l h. same j (omega arith) h) was is in
    elim (cases_eq s k) [
      | inl e ↦ over_other (edge_in new (u + s)) b
          (coded new u s b) (λ f. is (ap (λ (x : ℕ). (edge_in new (u + x)).byte) (sym e) ∙ f)) ∙ rest ∙ sym (over_other
          (edge_in old (u + s)) b (coded old u s b) (λ f. was (ap (λ (x : ℕ). (edge_in old (u + x)).byte) (sym e) ∙ f)))
      | inr h ↦ ap (λ (e : Edge). over e b (coded new u s b)) (same s (omega arith) h)
          ∙ ap (λ (c : ℕ). over (edge_in old (u + s)) b c) rest
    ]

-- more edges of other bytes change nothing for a byte
pub coded_more : (edges : List Edge) (u s t b : ℕ) → s ≤ t
    → ((k : ℕ) → s ≤ k → k < t → (edge_in edges (u + k)).byte ≢ b) → coded edges u t b ≡ coded edges u s b
coded_more edges u s zero b l h = ap (λ (x : ℕ). coded edges u x b) (let e : 0 ≡ s = omega arith in e)
coded_more edges u s (suc t) b l h = elim (cases_eq s (suc t)) [
  | inl e ↦ ap (λ (x : ℕ). coded edges u x b) (sym e)
  | inr n ↦ over_other (edge_in edges (u + t)) b (coded edges u t b) (h t (omega arith) (omega arith))
      ∙ coded_more edges u s t b (omega arith) (λ k m q. h k m (omega arith))
]
