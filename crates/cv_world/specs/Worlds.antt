-- The tables of all callers of a world, whose conversions are in one slab.
use Rattle.std.specs.Prelude.{◌≡◌, ℕ, List, map, Option, Some, IsSome, unwrap_or}
use Rattle.std.specs.Ordering.{nat_cmp}
use Rattle.std.specs.BTreeMap.{BTreeMap, get, is_at}
use Rattle.std.specs.Map.{lookup}
use Rattle.slab.specs.Slab as slab
use Rattle.cv_pivot.specs.declared.conversion.Conversion.{Conversion}
use Rattle.cv_caller.specs.Tables.{Table, empty_table}
use Rattle.cv_caller.specs.Keyed.{Keyed, no_keys, place_at, table_of, Fits}
use Rattle.cv_caller.specs.declared.place.Place.{Place}

-- the table of each caller; one that never asked has the empty table
abbrev pub world_tables : List (ℕ × Table) → ℕ → Table
world_tables world = λ caller. unwrap_or (lookup (is_at (nat_cmp caller)) world) empty_table

-- no caller has asked yet
abbrev pub no_tables : ℕ → Table
no_tables = λ _. empty_table

-- what the program keeps of each caller
abbrev pub keyed_in : BTreeMap ℕ Keyed → ℕ → Keyed
keyed_in callers = λ caller. unwrap_or (get nat_cmp callers caller) no_keys

-- a world as contracts see it: each caller with its table
abbrev pub tables_in : List (ℕ × Keyed) → slab.Slab Conversion → List (ℕ × Table)
tables_in callers conversions = map (λ e. (e.0, table_of (slab.get conversions) e.1)) callers

-- The invariant of a world. Each bound number has a key under which there is a conversion. Each such key is that of
-- exactly one number. Each conversion has the encodings that its place names.
pub record IsWorld (keyed : ℕ → Keyed) (has : ℕ → Option Conversion) : Type 0 where
  pub live : (c n : ℕ) (p : Place) → place_at (keyed c) n ≡ Some p → IsSome (has p.key)
  pub owned : (k : ℕ) → IsSome (has k) → (c : ℕ) × (n : ℕ) × (p : Place) × (place_at (keyed c) n ≡ Some p) × (p.key ≡ k)
  pub one : (c n d m : ℕ) (p q : Place) → place_at (keyed c) n ≡ Some p → place_at (keyed d) m ≡ Some q → p.key ≡ q.key
      → (c ≡ d) × (n ≡ m)
  pub fits : (c n : ℕ) (p : Place) (v : Conversion) → place_at (keyed c) n ≡ Some p → has p.key ≡ Some v
      → Fits (keyed c).charmaps p v
