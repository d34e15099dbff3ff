-- The test that a list has a pair.
use Rattle.std.proofs.Common.{◌≡◌, ◌==◌, ℕ, List, ◌∙◌, ap}
use Rattle.std.specs.Prelude.{Contains}
use Rattle.std.specs.Bool.{Decides}
use Rattle.std.specs.Set.{is_member}
use Rattle.std.specs.Str.{bytes_eq}
use Rattle.std.proofs.lemmas.Bool.Decides.{Decides-and, Decides-eqb, Decides-like}
use Rattle.std.proofs.lemmas.Map.Made.{is_member-Decides}
use Rattle.std.proofs.lemmas.Slice.Eq.{bytes_eq-Decides}
use Rattle.cv_charmap.specs.Entries.{Pair}
use Rattle.cv_trie.specs.Private.Ones.{is_same}

-- a pair, by its parts
pub same_pair : (p q : Pair) → p.0 ≡ q.0 → p.1 ≡ q.1 → p ≡ q
same_pair p q e f =
    ap (λ (x : List ℕ). let r : Pair = (x, p.1) in r) e ∙ ap (λ (d : ℕ). let r : Pair = (q.0, d) in r) f

-- the test tells whether the pair is in the list
pub has_pair : (pairs : List Pair) (p : Pair) → Decides (is_member is_same pairs p) (Contains pairs p)
has_pair = is_member-Decides {eq = is_same} (λ p q.
    Decides-like {P = (p.0 ≡ q.0) × (p.1 ≡ q.1)} {Q = p ≡ q} (is_same p q) (λ h. same_pair p q h.0 h.1)
    (λ e. (ap (λ (r : Pair). r.0) e, ap (λ (r : Pair). r.1) e))
    (Decides-and (bytes_eq p.0 q.0) (p.1 == q.1) (bytes_eq-Decides p.0 q.0) (Decides-eqb p.1 q.1)))
