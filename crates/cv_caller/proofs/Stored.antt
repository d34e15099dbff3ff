-- What contracts see of a store, from what it has.
use Rattle.std.proofs.Common.{◌≡◌, ℕ, List, Option, Some, sym, ap, ◌∙◌}
use Rattle.std.specs.Prelude.{is_none, option_map}
use Rattle.std.specs.Global.{Box}
use Rattle.std.specs.List.{position}
use Rattle.cv_caller.specs.Tables.{Charmaps, has_name, place_of, least_place}
use Rattle.cv_caller.specs.Private.Uploaded.{Uploaded}
use Rattle.cv_caller.specs.Private.Views.{charmaps_of, uploaded_of, weighed_value}
use Rattle.cv_caller.specs.declared.store.Store.{Store}
use Rattle.cv_caller.specs.declared.weighed.Weighed.{Weighed}
use Rattle.cv_caller.proofs.Standing.{position-map, position_none-map}

-- the charmaps that contracts see are those of the store
pub charmaps_seen : (store : Option (Box Store)) (box : Box Store) (now : Uploaded) (value : Store)
    → uploaded_of store ≡ now → store ≡ Some box → value ≡ box.value → now.charmaps ≡ charmaps_of value.charmaps
charmaps_seen store box now value seen is same = ap (λ (u : Uploaded). u.charmaps) (sym seen) ∙ ap
    (λ (s : Option (Box Store)). (uploaded_of s).charmaps) is ∙ ap (λ (s : Store). charmaps_of s.charmaps) (sym same)

-- a name that is found in a store is found in what contracts see, at the same slot
pub name_seen : (charmaps : Charmaps) (raw : List (Option Weighed)) (name : List ℕ) (r : Option ℕ)
    → charmaps ≡ charmaps_of raw → r ≡ position (λ held. has_name name (option_map weighed_value held)) raw
    → r ≡ place_of charmaps name
name_seen charmaps raw name r seen is = is ∙ sym (position-map (has_name name) (option_map weighed_value) raw)
    ∙ ap (λ (c : Charmaps). place_of c name) (sym seen)

-- the least free slot of a store is the least free slot that contracts see
pub free_seen : (charmaps : Charmaps) (raw : List (Option Weighed)) (r : Option ℕ) → charmaps ≡ charmaps_of raw
    → r ≡ position is_none raw → r ≡ least_place charmaps
free_seen charmaps raw r seen is = is ∙ sym (position_none-map weighed_value raw) ∙ ap least_place (sym seen)
