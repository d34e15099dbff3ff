-- A table without charmaps, descriptors and part is the empty table.
use Rattle.std.proofs.Common.{◌≡◌, ℕ, zero, suc, nat_eq, Bool, true, false, List, [], ◌∷◌, length, map, replicate}
use Rattle.std.proofs.Common.{Option, Some, None, refl, sym, ap, ◌∙◌, arith}
use Rattle.std.specs.Prelude.{is_some, option_map, sum_by, IsTrue, ◌↔◌}
use Rattle.std.specs.List.{list_any}
use Rattle.std.proofs.lemmas.Bool.Decides.{nat_tests}
use Rattle.std.proofs.lemmas.List.{nil_from_length}
use Rattle.cv_caller.specs.Tables.{Charmaps}
use Rattle.cv_caller.specs.Keyed.{Keyed, no_keys}
use Rattle.cv_caller.specs.Private.Uploaded.{Uploaded, no_uploads}
use Rattle.cv_caller.specs.Private.Views.{charmaps_of, part_of, stored_in, keyed_of, weighed_value, weighed_bytes}
use Rattle.cv_caller.specs.declared.place.Place.{Place}
use Rattle.cv_caller.specs.declared.store.Store.{Store}
use Rattle.cv_caller.specs.declared.weighed.Weighed.{Weighed}

-- if no entry has a value, all entries are `None`, and mapping keeps that
all_free : {X Y : Type 0} (f : X → Y) (xs : List (Option X)) → list_any is_some xs ≡ false
    → map (option_map f) xs ≡ replicate (length xs) None
all_free f [] e = refl
all_free {Y = Y} f (None ∷ xs) e = ap (λ (ys : List (Option Y)). None ∷ ys) (all_free f xs e)
all_free f (Some x ∷ xs) e = absurd cc

all_none : {X : Type 0} (xs : List (Option X)) → list_any is_some xs ≡ false → xs ≡ replicate (length xs) None
all_none [] e = refl
all_none {X} (None ∷ xs) e = ap (λ (ys : List (Option X)). None ∷ ys) (all_none xs e)
all_none (Some x ∷ xs) e = absurd cc

-- some mapped entry has a value exactly if some entry has one
list_any_some-map : {X Y : Type 0} (f : X → Y) (xs : List (Option X))
    → list_any is_some (map (option_map f) xs) ≡ list_any is_some xs
list_any_some-map f [] = refl
list_any_some-map f (None ∷ xs) = list_any_some-map f xs
list_any_some-map f (Some x ∷ xs) = refl

same_uploads : (charmaps others : Charmaps) (part rest : List ℕ) (n m : ℕ) → charmaps ≡ others → part ≡ rest → n ≡ m
    → (let u : Uploaded = record { charmaps = charmaps; part = part; bytes = n } in u)
    ≡ record { charmaps = others; part = rest; bytes = m }
same_uploads charmaps others part rest n m c p b = cc

-- slots without charmaps count for 0 bytes
no_bytes : (xs : List (Option Weighed)) → list_any is_some xs ≡ false → length xs ≡ 8 → sum_by weighed_bytes xs ≡ 0
no_bytes xs none size = ap (sum_by weighed_bytes)
    (all_none xs none ∙ ap (λ (k : ℕ). let ys : List (Option Weighed) = replicate k None in ys) size)

-- a store that holds a charmap is not empty
pub not_bare : (store : Store) → true ≡ list_any is_some store.charmaps → stored_in store ≡ no_uploads → ⊥
not_bare store some e =
    let none : list_any is_some store.charmaps ≡ false = sym (list_any_some-map weighed_value store.charmaps)
    ∙ ap (λ (u : Uploaded). list_any is_some u.charmaps) e in
    absurd cc

-- a store that holds no charmap is empty if its part has no bytes
pub bare : (store : Store) (n : ℕ) → false ≡ list_any is_some store.charmaps → length store.charmaps ≡ 8
    → n ≡ length (part_of store.part) → IsTrue (nat_eq n 0) ↔ (stored_in store ≡ no_uploads)
bare store zero none size len =
    let charmaps : charmaps_of store.charmaps ≡ replicate 8 None = all_free weighed_value store.charmaps (sym none)
    ∙ ap (λ (k : ℕ). let c : Charmaps = replicate k None in c) size in (
      λ _. same_uploads _ _ _ _ _ _ charmaps (nil_from_length (part_of store.part) (sym len))
          (no_bytes store.charmaps (sym none) size),
      λ _. refl,
    )
bare store (suc n) none size len = (
  λ e. absurd (grind (arith, nat_tests, e)),
  λ e. (let h = ap (λ (u : Uploaded). length u.part) e in absurd (omega arith)),
)

-- a table with no number in use is empty if nothing was uploaded
pub empty_keyed : (u : Uploaded) (places : List (Option Place)) (now : Keyed) (r : Bool) → keyed_of u places ≡ now
    → false ≡ list_any is_some places → length places ≡ 16 → IsTrue r ↔ (u ≡ no_uploads) → IsTrue r ↔ (now ≡ no_keys)
empty_keyed u places now r seen none size is =
    let free : places ≡ replicate 16 None = all_none places (sym none)
    ∙ ap (λ (k : ℕ). let p : List (Option Place) = replicate k None in p) size in (
      λ e. sym seen ∙ ap (λ (v : Uploaded). keyed_of v places) (is.0 e)
          ∙ ap (λ (p : List (Option Place)). keyed_of no_uploads p) free,
      λ e. is.1 (same_uploads _ _ _ _ _ _ (ap (λ (k : Keyed). k.charmaps) (seen ∙ e))
          (ap (λ (k : Keyed). k.part) (seen ∙ e)) (ap (λ (k : Keyed). k.bytes) (seen ∙ e))),
    )
