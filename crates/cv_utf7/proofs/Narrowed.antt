-- Characters as bytes.
use Rattle.std.proofs.Common.{◌≡◌, ℕ, ◌+◌, ◌<◌, true, List, length, get_or, set, sym, subst, arith, inl, inr}
use Rattle.std.proofs.lemmas.Bool.{cases_eq}
use Rattle.std.proofs.lemmas.List.{get_or-set_same, get_or-set_other}
use Rattle.cv_utf7.specs.Sets.{is_direct}

-- If a byte is direct, it is the character at an index.
abbrev pub Stands : List ℕ → ℕ → ℕ → Type 0
Stands characters n b = is_direct b ≡ true → b ≡ get_or characters n 0

-- one character more is narrowed
pub narrow_more : (n i b : ℕ) (bytes characters : List ℕ) → i < length bytes → Stands characters (n + i) b
    → ((k : ℕ) → k < i → Stands characters (n + k) (get_or bytes k 0))
    → (k : ℕ) → k < i + 1 → Stands characters (n + k) (get_or (set bytes i b) k 0)
narrow_more n i b bytes characters h e p k l = elim (cases_eq k i) [
  | inl same ↦ subst (λ (j : ℕ). Stands characters (n + j) (get_or (set bytes i b) j 0)) (sym same)
      (subst (Stands characters (n + i)) (sym (get_or-set_same bytes i b 0 h)) e)
  | inr other ↦ subst (Stands characters (n + k)) (sym (get_or-set_other bytes i k b 0 other)) (p k (omega arith))
]
