-- How many bytes two byte strings have in common.
use Rattle.std.proofs.Common.{◌≡◌, ℕ, ◌<◌, ◌≤◌, ◌+◌, ◌-◌, List, length, take, drop, sym, subst, ◌∙◌, ap, arith, inl}
use Rattle.std.proofs.Common.{inr}
use Rattle.std.proofs.lemmas.Bool.{cases_lt}
use Rattle.std.proofs.lemmas.List.{take_all, take-take, drop-take}
use Rattle.cv_base.specs.Items.{Begins}
use Rattle.cv_base.proofs.Front.{Begins-take, Begins-agree}
use Rattle.cv_byte_trie.specs.Private.Comparisons.{AgreeFor}

-- the same for the two strings exchanged
pub agree_flip : (v x : List ℕ) (n : ℕ) → AgreeFor v x n → AgreeFor x v n
agree_flip v x n a =
    record { in_left = a.in_right; in_right = a.in_left; same = sym a.same; differ = λ l m e. a.differ m l (sym e) }

-- a string that is in common as a whole begins the other
pub agree_begins : (v x : List ℕ) (n : ℕ) → AgreeFor v x n → n ≡ length v → Begins v x
agree_begins v x n a e = subst (λ (y : List ℕ). Begins y x) (sym a.same ∙ take_all n v (omega arith)) (Begins-take n x)

-- a string that is not does not begin the other
pub agree_not : (v x : List ℕ) (n : ℕ) → AgreeFor v x n → n < length v → Begins v x → ⊥
agree_not v x n a l f = let g = Begins-agree v x f in a.differ l (omega (arith, g.0)) (g.1 n l (omega (arith, g.0)))

-- what begins both is in common
pub agree_deep : (u v x : List ℕ) (n : ℕ) → AgreeFor v x n → n < length v → n < length x → Begins u v → Begins u x
    → length u ≤ n
agree_deep u v x n a l m f g = elim (cases_lt n (length u)) [
  | inl h ↦ absurd (a.differ l m (sym ((Begins-agree u v f).1 n h l) ∙ (Begins-agree u x g).1 n h m))
  | inr h ↦ h
]

-- some bytes of an entry, taken from its padded bytes
pub part_is : (padded v : List ℕ) (n d l : ℕ) → take n padded ≡ v → l < n → d < l
    → take (l + 1 - (d + 1)) (drop (d + 1) padded) ≡ drop (d + 1) (take (l + 1) v)
part_is padded v n d l e low deep =
    let front : take (l + 1) v ≡ take (l + 1) padded = ap (take (l + 1)) (sym e)
    ∙ take-take (l + 1) n padded (omega arith) in
    let sum : l + 1 ≡ d + 1 + (l + 1 - (d + 1)) = omega arith in
    sym (ap (drop (d + 1)) front ∙ ap (λ (k : ℕ). drop (d + 1) (take k padded)) sum
    ∙ drop-take (d + 1) (l + 1 - (d + 1)) padded)
