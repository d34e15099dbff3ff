-- The conversion of one descriptor of one caller, and what changes if it changes.
use Rattle.std.proofs.Common.{◌≡◌, ◌≢◌, ℕ, List, Option, Some, None, sym, ap, subst, ◌∙◌}
use Rattle.std.specs.BTreeMap.{BTreeMap}
use Rattle.slab.specs.Slab as slab
use Rattle.cv_machine.specs.Machine.{with_table}
use Rattle.cv_pivot.specs.Encodings.{form_of}
use Rattle.cv_pivot.specs.declared.conversion.Conversion.{Conversion}
use Rattle.cv_pivot.specs.declared.outcome.States.{States}
use Rattle.cv_caller.specs.Tables.{Table, descriptor_at, form_in}
use Rattle.cv_caller.specs.Keyed.{Keyed, place_at, table_of}
use Rattle.cv_caller.specs.declared.place.Place.{Place}
use Rattle.cv_world.specs.Turn.{with_states}
use Rattle.cv_world.specs.Worlds.{world_tables, keyed_in, tables_in, IsWorld}
use Rattle.cv_world.proofs.Owned.{written_world, written}
use Rattle.cv_world.proofs.Stepping.{seen, others_seen, some_value, described, open_at, closed_at, all_same}

-- The conversion under the key of a descriptor.
pub record Found (has : ℕ → Option Conversion) (table : Table) (n : ℕ) (p : Place) : Type 0 where
  pub conversion : Conversion
  pub under : has p.key ≡ Some conversion
  pub opens : descriptor_at table n ≡ Some (described p conversion)
  pub from : form_of conversion.from ≡ form_in table.charmaps (described p conversion).from
  pub to : form_of conversion.to ≡ form_in table.charmaps (described p conversion).to

-- The conversion of a descriptor is in these states now, and nothing else changed.
pub record Restated (keyed : ℕ → Keyed) (has : ℕ → Option Conversion) (old new : ℕ → Table) (c n : ℕ) (p : Place)
    (v : Conversion) (states : States) : Type 0 where
  pub world : IsWorld keyed has
  pub table : new c ≡ with_states (old c) n (described p v) states
  pub others : new ≡ with_table old c (new c)

-- Nothing changed.
pub record Same (keyed : ℕ → Keyed) (has : ℕ → Option Conversion) (old new : ℕ → Table) (c : ℕ) : Type 0 where
  pub world : IsWorld keyed has
  pub table : new c ≡ old c
  pub others : new ≡ with_table old c (new c)

module _ (callers : BTreeMap ℕ Keyed) (s : slab.Slab Conversion) (tables : List (ℕ × Table)) (c n : ℕ)
    (is : tables_in callers.entries s ≡ tables) where
  table_is : table_of (slab.get s) (keyed_in callers c) ≡ world_tables tables c
  table_is = sym (seen callers s c) ∙ ap (λ (x : List (ℕ × Table)). world_tables x c) is

  -- no descriptor has this number
  pub not_found : None ≡ place_at (keyed_in callers c) n → descriptor_at (world_tables tables c) n ≡ None
  not_found none = subst (λ (t : Table). descriptor_at t n ≡ None) table_is
      (closed_at (slab.get s) (keyed_in callers c) n (sym none))

  pub found : (p : Place) → IsWorld (keyed_in callers) (slab.get s) → Some p ≡ place_at (keyed_in callers c) n
      → Found (slab.get s) (world_tables tables c) n p
  found p own mine =
      let v = some_value (slab.get s p.key) (own.live c n p (sym mine)) in
      let fits = own.fits c n p v.0 (sym mine) v.1 in
      subst (λ (t : Table). Found (slab.get s) t n p) table_is (record {
        conversion = v.0;
        under = v.1;
        opens = open_at (slab.get s) (keyed_in callers c) n p v.0 (sym mine) v.1;
        from = fits.from;
        to = fits.to;
      })

  module _ (s2 : slab.Slab Conversion) (p : Place) (own : IsWorld (keyed_in callers) (slab.get s))
      (mine : Some p ≡ place_at (keyed_in callers c) n)
      (others : (o : ℕ) → o ≢ p.key → slab.get s2 o ≡ slab.get s o) where
    pub same : slab.get s2 p.key ≡ slab.get s p.key
        → Same (keyed_in callers) (slab.get s2) (world_tables tables) (world_tables (tables_in callers.entries s2)) c
    same unchanged =
        let all : slab.get s2 ≡ slab.get s = all_same (slab.get s) (slab.get s2) p.key unchanged others in
        record {
          world = subst (IsWorld (keyed_in callers)) (sym all) own;
          table = seen callers s2 c ∙ ap (λ (f : ℕ → Option Conversion). table_of f (keyed_in callers c)) all
              ∙ table_is;
          others = others_seen callers callers s s2 tables c is
              (λ d a. ap (λ (f : ℕ → Option Conversion). table_of f (keyed_in callers d)) all);
        }

    pub restated : (v w : Conversion) → slab.get s p.key ≡ Some v → slab.get s2 p.key ≡ Some w
        → w ≡ record v { states = w.states } → Restated (keyed_in callers) (slab.get s2) (world_tables tables)
        (world_tables (tables_in callers.entries s2)) c n p v w.states
    restated v w was now stays =
        let to = ap (λ (x : Conversion). x.to) stays in
        let from = ap (λ (x : Conversion). x.from) stays in
        let both = written (keyed_in callers) (slab.get s) (slab.get s2) c n p v w own (sym mine) now to from
        (ap (λ (x : Conversion). x.policy) stays) others in
        record {
          world = written_world (keyed_in callers) (slab.get s) (slab.get s2) p.key v w was now to from others own;
          table = seen callers s2 c ∙ both.0 ∙ ap (λ (t : Table). with_states t n (described p v) w.states) table_is;
          others = others_seen callers callers s s2 tables c is both.1;
        }
