-- The value that a look-up finds.
use Rattle.std.proofs.Common.{◌≡◌, Bool, true, false, cond, List, [], ◌∷◌, Some, refl}
use Rattle.std.specs.Option.{option_map}
use Rattle.std.specs.Map.{lookup, lookup_entry}

module _ {K V : Type 0} (test : K → Bool) where
  -- it is the value of the entry that is found
  pub found_value : (es : List (K × V)) → lookup test es ≡ option_map (λ e. e.1) (lookup_entry test es)
  found_value [] = refl
  found_value (e ∷ es) = elim (test e.0) as (λ b.
      cond b (Some e.1) (lookup test es) ≡ option_map (λ e. e.1) (cond b (Some e) (lookup_entry test es))) [
        | true ↦ refl
        | false ↦ found_value es
      ]
