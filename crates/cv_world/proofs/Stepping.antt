-- The steps of a world, in terms of its callers and its conversions.
use Rattle.std.proofs.Common.{◌≡◌, ◌≢◌, inl, inr, ◌<◌, ℕ, zero, suc, Bool, true, false, cond, eqb, List, [], ◌∷◌}
use Rattle.std.proofs.Common.{length, replicate, get_or, Option, Some, None, IsSome, Result, Ok, Err, refl, sym, ◌∙◌}
use Rattle.std.proofs.Common.{ap, subst, arith}
use Rattle.std.specs.Prelude.{unwrap_or, is_none, option_map}
use Rattle.std.proofs.lemmas.Bool.{cases_eq, or_parts}
use Rattle.std.specs.Option.{option_and_then}
use Rattle.std.specs.Ordering.{nat_cmp}
use Rattle.std.specs.BTreeMap.{BTreeMap, is_at}
use Rattle.std.specs.Map.{lookup}
use Rattle.std.proofs.Math.Path.{fun_ext}
use Rattle.std.proofs.lemmas.Bool.Decides.{nat_tests}
use Rattle.slab.specs.Slab as slab
use Rattle.cv_charmap.specs.Meaning.{Charmap}
use Rattle.cv_cache.specs.Compiled.{Read}
use Rattle.cv_pivot.specs.declared.conversion.Conversion.{Conversion}
use Rattle.cv_machine.specs.Machine.{with_table}
use Rattle.cv_frame.specs.declared.status.Status.TheVariants as status
use Rattle.cv_caller.specs.Tables.{Table, Descriptor, empty_table, descriptor_at, with_descriptor, least_place}
use Rattle.cv_caller.specs.Keyed.{Keyed, no_keys, place_at, table_of, descriptor_of, named, ArePlaces}
use Rattle.cv_caller.specs.Results.{IsDropped}
use Rattle.cv_caller.specs.declared.place.Place.{Place}
use Rattle.cv_caller.specs.declared.faults.DropFault.{DropFault}
use Rattle.cv_caller.specs.declared.faults.DropFault.TheVariants as drop
use Rattle.cv_caller.specs.declared.faults.AddFault.{AddFault}
use Rattle.cv_caller.specs.declared.faults.AddFault.TheVariants as add
use Rattle.cv_caller.proofs.Standing.{found_free}
use Rattle.cv_world.specs.Actions.{Action, Put, DropMap, Close}
use Rattle.cv_world.specs.Turn.{Acts, Holds}
use Rattle.cv_world.specs.Private.Changes.{IsPut, add_answer, drop_answer}
use Rattle.cv_world.specs.Worlds.{world_tables, keyed_in, tables_in, IsWorld}
use Rattle.cv_world.specs.declared.answer.Answer.{Answer}
use Rattle.cv_world.specs.declared.answer.Answer.TheVariants as answers
use Rattle.cv_world.proofs.Changes.{changes_only}
use Rattle.cv_world.proofs.Owned.{descriptor_seen, busy_seen, mapped_world, idle_unused, free_unused}

-- ---- a world as contracts see it

seen_in : (es : List (ℕ × Keyed)) (s : slab.Slab Conversion) (c : ℕ)
    → world_tables (tables_in es s) c ≡ table_of (slab.get s) (unwrap_or (lookup (is_at (nat_cmp c)) es) no_keys)
seen_in [] s c = refl
seen_in (e ∷ es) s c = elim (is_at (nat_cmp c) e.0) as (λ (b : Bool).
    unwrap_or (cond b (Some (table_of (slab.get s) e.1)) (lookup (is_at (nat_cmp c)) (tables_in es s))) empty_table
    ≡ table_of (slab.get s) (unwrap_or (cond b (Some e.1) (lookup (is_at (nat_cmp c)) es)) no_keys)) [
      | true ↦ refl
      | false ↦ seen_in es s c
    ]

-- a caller's table is that of its keys and their conversions
pub seen : (callers : BTreeMap ℕ Keyed) (s : slab.Slab Conversion) (c : ℕ)
    → world_tables (tables_in callers.entries s) c ≡ table_of (slab.get s) (keyed_in callers c)
seen callers s c = seen_in callers.entries s c

-- what an action does to a caller's keys, it does to the table that contracts see
pub acts_seen : (callers callers2 : BTreeMap ℕ Keyed) (s s2 : slab.Slab Conversion) (v : List (ℕ × Table)) (c : ℕ)
    (action : Action) (a : Answer) → tables_in callers.entries s ≡ v
    → Acts (table_of (slab.get s) (keyed_in callers c)) action (table_of (slab.get s2) (keyed_in callers2 c)) a
    → Acts (world_tables v c) action (world_tables (tables_in callers2.entries s2) c) a
acts_seen callers callers2 s s2 v c action a is h = subst (λ (t : Table). Acts t action (world_tables
    (tables_in callers2.entries s2) c) a) (sym (seen callers s c) ∙ ap (λ (x : List (ℕ × Table)). world_tables x c) is)
    (subst (λ (t : Table). Acts (table_of (slab.get s) (keyed_in callers c)) action t a) (sym (seen callers2 s2 c)) h)

-- the others' tables are unchanged as contracts see them
pub others_seen : (callers callers2 : BTreeMap ℕ Keyed) (s s2 : slab.Slab Conversion) (v : List (ℕ × Table)) (c : ℕ)
    → tables_in callers.entries s ≡ v → ((d : ℕ) → d ≢ c → table_of (slab.get s2) (keyed_in callers2 d)
    ≡ table_of (slab.get s) (keyed_in callers d)) → world_tables (tables_in callers2.entries s2)
    ≡ with_table (world_tables v) c (world_tables (tables_in callers2.entries s2) c)
others_seen callers callers2 s s2 v c is h =
    changes_only (world_tables v) (world_tables (tables_in callers2.entries s2)) c (λ d e.
    seen callers2 s2 d ∙ h d (λ f. absurd (let t : eqb d c ≡ true = grind (arith, nat_tests, f) in cc))
    ∙ sym (seen callers s d) ∙ ap (λ (x : List (ℕ × Table)). world_tables x d) is)

-- ---- descriptors

-- an option that is not empty has a value
pub some_value : (o : Option Conversion) → IsSome o → (v : Conversion) × (o ≡ Some v)
some_value (Some v) h = (v, refl)
some_value None h = absurd cc

-- the descriptor of a place and its conversion
abbrev pub described : Place → Conversion → Descriptor
described p v = record { to = named p.to v.to; from = named p.from v.from; policy = v.policy; states = v.states }

-- the descriptor of a bound place is open
pub open_at : (G : ℕ → Option Conversion) (k : Keyed) (n : ℕ) (p : Place) (v : Conversion) → place_at k n ≡ Some p
    → G p.key ≡ Some v → descriptor_at (table_of G k) n ≡ Some (described p v)
open_at G k n p v h g = descriptor_seen G k n ∙ ap (option_and_then (descriptor_of G)) h
    ∙ ap (option_map (λ (c : Conversion). described p c)) g

-- a free place has no descriptor
pub closed_at : (G : ℕ → Option Conversion) (k : Keyed) (n : ℕ) → place_at k n ≡ None
    → descriptor_at (table_of G k) n ≡ None
closed_at G k n h = descriptor_seen G k n ∙ ap (option_and_then (descriptor_of G)) h

-- ---- CLOSE

-- CLOSE of no descriptor is refused
pub close_none : (T : Table) (n : ℕ) → descriptor_at T n ≡ None
    → Acts T (Close n) T (answers.Refused status.BadDescriptor)
close_none T n h = rw h (refl, refl)

-- CLOSE of an open descriptor frees its number
pub close_done : (T next : Table) (n : ℕ) (d : Descriptor) → descriptor_at T n ≡ Some d
    → next ≡ with_descriptor T n None → Acts T (Close n) next answers.Empty
close_done T next n d h e = rw h (e, refl)

-- ---- if nothing changes

-- an action that changes neither callers nor conversions leaves the tables
pub acts_still : (callers : BTreeMap ℕ Keyed) (s : slab.Slab Conversion) (v : List (ℕ × Table)) (c : ℕ)
    (action : Action) (a : Answer) → tables_in callers.entries s ≡ v → Acts (table_of (slab.get s) (keyed_in callers c))
    action (table_of (slab.get s) (keyed_in callers c)) a → Acts (world_tables v c) action (world_tables v c) a
acts_still callers s v c action a is h = subst (λ (t : Table). Acts t action t a)
    (sym (seen callers s c) ∙ ap (λ (x : List (ℕ × Table)). world_tables x c) is) h

-- conversions that are the same at each key are the same
pub all_same : (G G2 : ℕ → Option Conversion) (k : ℕ) → G2 k ≡ G k → ((o : ℕ) → o ≢ k → G2 o ≡ G o) → G2 ≡ G
all_same G G2 k same others =
    fun_ext (λ o. elim (cases_eq o k) [ inl e ↦ ap G2 e ∙ same ∙ ap G (sym e) | inr a ↦ others o a ])

-- the number of a bound place is within the list
pub within : (xs : List (Option Place)) (n : ℕ) (p : Place) → get_or xs n None ≡ Some p → n < length xs
within [] n p h = absurd cc
within (x ∷ xs) zero p h = omega arith
within (x ∷ xs) (suc n) p h = let l = within xs n p h in omega (arith, l)

-- ---- nothing yet

-- if all places are free, each is
pub none_of : (m n : ℕ) → get_or (let xs : List (Option Place) = replicate m None in xs) n None ≡ None
none_of zero n = refl
none_of (suc m) zero = refl
none_of (suc m) (suc n) = none_of m n

no_place : (K : ℕ → Keyed) → ((c : ℕ) → K c ≡ no_keys) → (A : Type 0) (c n : ℕ) (p : Place) → place_at (K c) n ≡ Some p
    → A
no_place K keyed A c n p h =
    absurd (let bad : None ≡ Some p = sym (none_of 16 n) ∙ ap (λ (k : Keyed). place_at k n) (sym (keyed c)) ∙ h in cc)

-- callers without keys, and no conversions, are a world
pub nothing_there : (K : ℕ → Keyed) (G : ℕ → Option Conversion) → ((c : ℕ) → K c ≡ no_keys) → ((k : ℕ) → G k ≡ None)
    → IsWorld K G
nothing_there K G keyed held = record {
  live = λ c n p h. no_place K keyed _ c n p h;
  owned = λ k h. absurd (let bad = rw (held k) at h in cc);
  one = λ c n d m p q h i e. no_place K keyed _ c n p h;
  fits = λ c n p v h g. no_place K keyed _ c n p h;
}

-- ---- DROP

-- DROP does what its result says of its caller
pub drop_done : (G : ℕ → Option Conversion) (k k2 : Keyed) (name : List ℕ) (r : Result ℕ DropFault)
    → ((n : ℕ) (p : Place) → place_at k n ≡ Some p → IsSome (G p.key)) → IsDropped k name r k2
    → Acts (table_of G k) (DropMap name) (table_of G k2) (drop_answer r)
drop_done G k k2 name (Ok u) live h = rw (h.1, busy_seen G k h.0 live, h.2) (rw h.3 refl, refl)
drop_done G k k2 name (Err drop.NoName) live h = rw h.0 (ap (table_of G) h.1, refl)
drop_done G k k2 name (Err drop.Busy) live h = rw (h.1, busy_seen G k h.0 live, h.2) (ap (table_of G) h.3, refl)

-- callers that are the same at each number are the same
pub all_keyed : (K K2 : ℕ → Keyed) (c : ℕ) → K2 c ≡ K c → ((d : ℕ) → d ≢ c → K2 d ≡ K d) → K2 ≡ K
all_keyed K K2 c same others =
    fun_ext (λ d. elim (cases_eq d c) [ inl e ↦ ap K2 e ∙ same ∙ ap K (sym e) | inr a ↦ others d a ])

-- a world stays a world if a charmap was dropped
pub drop_world : (K K2 : ℕ → Keyed) (G : ℕ → Option Conversion) (c : ℕ) (name : List ℕ) (r : Result ℕ DropFault)
    → IsDropped (K c) name r (K2 c) → ((d : ℕ) → d ≢ c → K2 d ≡ K d) → IsWorld K G → IsWorld K2 G
drop_world K K2 G c name (Ok u) h others own = mapped_world K K2 c h.0 None (ap (λ (k : Keyed). k.places) h.3)
    (ap (λ (k : Keyed). k.charmaps) h.3) others G (idle_unused (K c) h.0 h.2) own
drop_world K K2 G c name (Err drop.NoName) h others own =
    subst (λ (F : ℕ → Keyed). IsWorld F G) (sym (all_keyed K K2 c h.1 others)) own
drop_world K K2 G c name (Err drop.Busy) h others own =
    subst (λ (F : ℕ → Keyed). IsWorld F G) (sym (all_keyed K K2 c h.3 others)) own

-- ---- PUT

holds_lacks : (T next : Table) (m : Charmap) (place : Option ℕ) → is_none place ≡ false → next ≡ T
    → Holds T m place next (answers.Refused status.NoMemory)
holds_lacks T next m (Some p) e h = inr (h, refl)
holds_lacks T next m None e h = absurd cc

-- PUT of a charmap that was read does what its result says of its caller
pub put_done : (G : ℕ → Option Conversion) (k k2 : Keyed) (m : Charmap) (r : Result ℕ AddFault) → IsPut k m r k2
    → Acts (table_of G k) (Put (Read m)) (table_of G k2) (add_answer (length m.pairs) r)
put_done G k k2 m (Ok u) h = rw (h.1.0, h.1.1, h.1.3) (inl (ap (table_of G) h.2 ∙ rw h.1.4 refl, refl))
put_done G k k2 m (Err add.Exists) h = rw h.0 (ap (table_of G) h.1, refl)
put_done G k k2 m (Err add.Quota) h = rw (h.0, h.1) (ap (table_of G) h.2, refl)
put_done G k k2 m (Err add.Full) h = rw (h.0, h.1)
    (holds_lacks (table_of G k) (table_of G k2) m (least_place k.charmaps) ((or_parts _ _ h.1).1) (ap (table_of G) h.2))
put_done G k k2 m (Err add.Memory) h = rw (h.0, h.1)
    (holds_lacks (table_of G k) (table_of G k2) m (least_place k.charmaps) ((or_parts _ _ h.1).1) (ap (table_of G) h.2))

-- a world stays a world if a charmap was put
pub put_world : (K K2 : ℕ → Keyed) (G : ℕ → Option Conversion) (c : ℕ) (m : Charmap) (r : Result ℕ AddFault) → ArePlaces
    (K c).charmaps (K c).places → IsPut (K c) m r (K2 c) → ((d : ℕ) → d ≢ c → K2 d ≡ K d) → IsWorld K G → IsWorld K2 G
put_world K K2 G c m (Ok u) are h others own = mapped_world K K2 c h.1.2 (Some m) (ap (λ (k : Keyed). k.places) h.2
    ∙ ap (λ (k : Keyed). k.places) h.1.4) (ap (λ (k : Keyed). k.charmaps) h.2 ∙ ap (λ (k : Keyed). k.charmaps) h.1.4)
    others G (free_unused (K c) h.1.2 are (found_free (K c).charmaps (Some h.1.2) (sym h.1.3))) own
put_world K K2 G c m (Err add.Exists) are h others own =
    subst (λ (F : ℕ → Keyed). IsWorld F G) (sym (all_keyed K K2 c h.1 others)) own
put_world K K2 G c m (Err add.Quota) are h others own =
    subst (λ (F : ℕ → Keyed). IsWorld F G) (sym (all_keyed K K2 c h.2 others)) own
put_world K K2 G c m (Err add.Full) are h others own =
    subst (λ (F : ℕ → Keyed). IsWorld F G) (sym (all_keyed K K2 c h.2 others)) own
put_world K K2 G c m (Err add.Memory) are h others own =
    subst (λ (F : ℕ → Keyed). IsWorld F G) (sym (all_keyed K K2 c h.2 others)) own
