-- Slots of charmaps: what the slots that were found have, and what setting one does to the others.
use Rattle.std.proofs.Common.{◌≡◌, ◌+◌, ℕ, zero, suc, not, Bool, true, cond, List, [], ◌∷◌, map, get_or, set, Option}
use Rattle.std.proofs.Common.{Some, None, refl, sym, ap, ◌∙◌}
use Rattle.std.specs.Prelude.{is_none, is_some, IfSome, option_map}
use Rattle.std.specs.List.{position, prefix_len}
use Rattle.std.proofs.Math.Path.{fun_ext}
use Rattle.std.proofs.lemmas.List.{length-map}
use Rattle.std.proofs.lemmas.List.Quantifiers.{position-Some}
use Rattle.cv_charmap.specs.Meaning.{Charmap}
use Rattle.cv_caller.specs.Tables.{Charmaps, charmap_at, has_name, place_of}

-- ---- what is found over a mapped list

prefix_len-map : {X Y : Type 0} (p : Y → Bool) (f : X → Y) (xs : List X)
    → prefix_len p (map f xs) ≡ prefix_len (λ x. p (f x)) xs
prefix_len-map p f [] = refl
prefix_len-map p f (x ∷ xs) = ap (λ (n : ℕ). cond (p (f x)) (1 + n) 0) (prefix_len-map p f xs)

-- `position` in a mapped list is `position` of the composed test in the list
pub position-map : {X Y : Type 0} (p : Y → Bool) (f : X → Y) (xs : List X)
    → position p (map f xs) ≡ position (λ x. p (f x)) xs
position-map p f xs = rw (prefix_len-map (λ y. not (p y)) f xs, length-map xs f) refl

none_same : {X Y : Type 0} (f : X → Y) (o : Option X) → is_none (option_map f o) ≡ is_none o
none_same f (Some x) = refl
none_same f None = refl

-- mapping the values keeps the first free slot
pub position_none-map : {X Y : Type 0} (f : X → Y) (xs : List (Option X))
    → position is_none (map (option_map f) xs) ≡ position is_none xs
position_none-map f xs = position-map is_none (option_map f) xs ∙ ap (λ p. position p xs) (fun_ext (none_same f))

-- ---- what a slot has

has_some : (name : List ℕ) (held : Option Charmap) → has_name name held ≡ true → is_some held ≡ true
has_some name (Some charmap) h = refl
has_some name None h = absurd cc

-- the slot that a name was found at has a charmap
pub named_there : (charmaps : Charmaps) (name : List ℕ) (place : ℕ) → Some place ≡ place_of charmaps name
    → is_some (charmap_at charmaps place) ≡ true
named_there charmaps name place e = has_some name _ ((position-Some (has_name name) charmaps place None (sym e)).1)

is_nothing : {X : Type 0} (held : Option X) → is_none held ≡ true → held ≡ None
is_nothing (Some x) h = absurd cc
is_nothing None h = refl

-- the first free slot that was found has nothing
pub found_free : {X : Type 0} (places : List (Option X)) (found : Option ℕ) → found ≡ position is_none places
    → IfSome found (λ place. get_or places place None ≡ None)
found_free places (Some place) e = is_nothing _ ((position-Some is_none places place None (sym e)).1)
found_free places None e = tt

-- a property of all entries still holds after one is set to a value that has it
pub at_set : {X : Type 0} (P : Option X → Type 0) (xs : List (Option X)) (i : ℕ) (x : Option X)
    → ((k : ℕ) → P (get_or xs k None)) → P x → (k : ℕ) → P (get_or (set xs i x) k None)
at_set P [] i x all is k = all k
at_set P (y ∷ xs) zero x all is zero = is
at_set P (y ∷ xs) zero x all is (suc k) = all (suc k)
at_set P (y ∷ xs) (suc i) x all is zero = all zero
at_set P (y ∷ xs) (suc i) x all is (suc k) = at_set P xs i x (λ j. all (suc j)) is k
