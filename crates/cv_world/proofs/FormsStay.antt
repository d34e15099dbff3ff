-- The form of a descriptor's encoding stays the same if a charmap is put at a free place, or if a charmap is dropped
-- that no descriptor reads or writes.
use Rattle.std.proofs.Common.{◌≡◌, ◌==◌, ℕ, zero, suc, true, false, List, [], ◌∷◌, get_or, set, Option, Some, None}
use Rattle.std.proofs.Common.{refl, ap, arith}
use Rattle.std.specs.Prelude.{is_some}
use Rattle.std.proofs.lemmas.Bool.Decides.{nat_tests}
use Rattle.cv_charmap.specs.Meaning.{Charmap}
use Rattle.cv_pivot.specs.Encodings.{Mapped}
use Rattle.cv_caller.specs.Tables.{Charmaps, Named, BuiltIn, Held, charmap_at, pairs_in, form_in, is_held}
use Rattle.cv_world.specs.Laws.{IsThere}

-- ---- what is at a place when one is set

-- another place keeps what is there
pub set_other : {X : Type 0} (xs : List (Option X)) (i k : ℕ) (x : Option X) → (k == i) ≡ false
    → get_or (set xs i x) k None ≡ get_or xs k None
set_other [] i k x e = refl
set_other (y ∷ xs) zero zero x e = absurd cc
set_other (y ∷ xs) zero (suc k) x e = refl
set_other (y ∷ xs) (suc i) zero x e = refl
set_other (y ∷ xs) (suc i) (suc k) x e = set_other xs i k x (grind (arith, nat_tests, e))

-- a place that was not empty has what was set
pub set_same : {X : Type 0} (xs : List (Option X)) (i : ℕ) (x : Option X) (y : X) → get_or xs i None ≡ Some y
    → get_or (set xs i x) i None ≡ x
set_same [] i x y e = absurd cc
set_same (z ∷ xs) zero x y e = refl
set_same (z ∷ xs) (suc i) x y e = set_same xs i x y e

-- what holds of an empty place and of what was set holds of what is there after it
pub set_there : {X : Type 0} (P : Option X → Type 0) (xs : List (Option X)) (i : ℕ) (x : Option X) → P None → P x
    → P (get_or (set xs i x) i None)
set_there P [] i x p q = p
set_there P (z ∷ xs) zero x p q = q
set_there P (z ∷ xs) (suc i) x p q = set_there P xs i x p q

-- setting a free place does not change a place that is not free
set_free : (charmaps : Charmaps) (place other : ℕ) (x : Option Charmap) → charmap_at charmaps place ≡ None
    → is_some (charmap_at charmaps other) ≡ true → charmap_at (set charmaps place x) other ≡ charmap_at charmaps other
set_free [] place other x free h = refl
set_free (c ∷ charmaps) zero zero x free h = absurd (let e = rw free at h in cc)
set_free (c ∷ charmaps) zero (suc other) x free h = refl
set_free (c ∷ charmaps) (suc place) zero x free h = refl
set_free (c ∷ charmaps) (suc place) (suc other) x free h = set_free charmaps place other x free h

-- ---- forms

-- A charmap at a free place changes no encoding that is there.
pub put_stays : (charmaps : Charmaps) (place : ℕ) (x : Option Charmap) → charmap_at charmaps place ≡ None
    → (named : Named) → IsThere charmaps named → form_in (set charmaps place x) named ≡ form_in charmaps named
put_stays charmaps place x free (BuiltIn builtin) h = refl
put_stays charmaps place x free (Held other) h =
    ap (λ (c : Option Charmap). Mapped (pairs_in c)) (set_free charmaps place other x free h)

-- Dropping a charmap changes no other encoding.
pub drop_stays : (charmaps : Charmaps) (place : ℕ) (named : Named) → is_held place named ≡ false
    → form_in (set charmaps place None) named ≡ form_in charmaps named
drop_stays charmaps place (BuiltIn builtin) h = refl
drop_stays charmaps place (Held other) h =
    ap (λ (c : Option Charmap). Mapped (pairs_in c)) (set_other charmaps place other None h)
