-- Parts of uploads, and callers that leave.
use Rattle.std.proofs.Common.{◌≡◌, ◌≢◌, inl, inr, ◌+◌, ◌<◌, ℕ, zero, suc, true, false, eqb, List, [], ◌∷◌, ◌++◌}
use Rattle.std.proofs.Common.{length, get_or, set, Option, Some, None, IsSome, Result, Ok, Err, refl, sym, ◌∙◌, ap}
use Rattle.std.proofs.Common.{subst, arith}
use Rattle.std.specs.Prelude.{nat_lt}
use Rattle.std.proofs.lemmas.Bool.{cases_eq}
use Rattle.std.proofs.lemmas.Bool.Decides.{nat_tests}
use Rattle.std.proofs.Math.Path.{fun_ext}
use Rattle.std.specs.BTreeMap.{BTreeMap}
use Rattle.slab.specs.Slab as slab
use Rattle.cv_pivot.specs.declared.conversion.Conversion.{Conversion}
use Rattle.cv_machine.specs.Machine.{with_table}
use Rattle.cv_caller.specs.Tables.{Charmaps, Table, Descriptor, empty_table, descriptor_at}
use Rattle.cv_caller.specs.Keyed.{Keyed, no_keys, place_at, table_of, Fits}
use Rattle.cv_caller.specs.Results.{IsPart}
use Rattle.cv_caller.specs.Limits.{most_part}
use Rattle.cv_caller.specs.declared.place.Place.{Place}
use Rattle.cv_caller.specs.declared.faults.PartFault.{PartFault}
use Rattle.cv_caller.specs.declared.faults.PartFault.TheVariants as fault
use Rattle.cv_world.specs.Actions.{Action, Close, Part}
use Rattle.cv_world.specs.Turn.{Acts, Closes}
use Rattle.cv_world.specs.Private.Changes.{SetsKeyed, part_answer}
use Rattle.cv_world.specs.Worlds.{world_tables, keyed_in, tables_in, IsWorld}
use Rattle.cv_world.specs.declared.answer.Answer.{Answer}
use Rattle.cv_world.specs.declared.answer.Answer.TheVariants as answers
use Rattle.cv_world.proofs.Changes.{changes_only}
use Rattle.cv_world.proofs.Stepping.{seen, others_seen, some_value, open_at, none_of}

-- ---- PART

-- PART does what its result says of its caller
pub part_done : (G : ℕ → Option Conversion) (k k2 : Keyed) (bytes : List ℕ) (r : Result ℕ PartFault)
    → IsPart k bytes r k2 → Acts (table_of G k) (Part bytes) (table_of G k2) (part_answer r)
part_done G k k2 [] r h = (ap (table_of G) h.1, ap part_answer h.0)
part_done G k k2 (b ∷ bytes) (Ok n) h =
    let t : nat_lt most_part (length (k.part ++ b ∷ bytes)) ≡ false = grind (arith, nat_tests, h.0) in
    rw t (inl (ap (table_of G) h.2, ap answers.Count h.1))
part_done G k k2 (b ∷ bytes) (Err fault.Quota) h =
    let t : nat_lt most_part (length (k.part ++ b ∷ bytes)) ≡ true = grind (arith, nat_tests, h.0) in
    rw t (ap (table_of G) h.1, refl)
part_done G k k2 (b ∷ bytes) (Err fault.Full) h =
    let t : nat_lt most_part (length (k.part ++ b ∷ bytes)) ≡ false = grind (arith, nat_tests, h.0) in
    rw t (inr (ap (table_of G) h.1, refl))
part_done G k k2 (b ∷ bytes) (Err fault.Memory) h =
    let t : nat_lt most_part (length (k.part ++ b ∷ bytes)) ≡ false = grind (arith, nat_tests, h.0) in
    rw t (inr (ap (table_of G) h.1, refl))

-- a PART changes neither the bound numbers nor the charmaps
part_keeps : (k k2 : Keyed) (bytes : List ℕ) (r : Result ℕ PartFault) → IsPart k bytes r k2
    → (k2.places ≡ k.places) × (k2.charmaps ≡ k.charmaps)
part_keeps k k2 [] r h = (ap (λ (x : Keyed). x.places) h.1, ap (λ (x : Keyed). x.charmaps) h.1)
part_keeps k k2 (b ∷ bytes) (Ok n) h = (ap (λ (x : Keyed). x.places) h.2, ap (λ (x : Keyed). x.charmaps) h.2)
part_keeps k k2 (b ∷ bytes) (Err fault.Quota) h = (ap (λ (x : Keyed). x.places) h.1, ap (λ (x : Keyed). x.charmaps) h.1)
part_keeps k k2 (b ∷ bytes) (Err fault.Full) h = (ap (λ (x : Keyed). x.places) h.1, ap (λ (x : Keyed). x.charmaps) h.1)
part_keeps k k2 (b ∷ bytes) (Err fault.Memory) h =
    (ap (λ (x : Keyed). x.places) h.1, ap (λ (x : Keyed). x.charmaps) h.1)

-- a world stays a world if neither the bound numbers nor the charmaps change
alike_world : (K K2 : ℕ → Keyed) (G : ℕ → Option Conversion)
    → ((d : ℕ) → ((K2 d).places ≡ (K d).places) × ((K2 d).charmaps ≡ (K d).charmaps)) → IsWorld K G → IsWorld K2 G
alike_world K K2 G same own =
    let back : (d n : ℕ)
    → place_at (K2 d) n ≡ place_at (K d) n = λ d n. ap (λ (ps : List (Option Place)). get_or ps n None) (same d).0 in
    record {
      live = λ d n p h. own.live d n p (sym (back d n) ∙ h);
      owned = λ k h. let was = own.owned k h in (was.0, was.1, was.2, back was.0 was.1 ∙ was.3, was.4);
      one = λ d n e j p q h i alike. own.one d n e j p q (sym (back d n) ∙ h) (sym (back e j) ∙ i) alike;
      fits = λ d n p v h g.
          subst (λ (y : Charmaps). Fits y p v) (sym (same d).1) (own.fits d n p v (sym (back d n) ∙ h) g);
    }

-- a world stays a world after a PART
pub part_world : (K K2 : ℕ → Keyed) (G : ℕ → Option Conversion) (c : ℕ) (bytes : List ℕ) (r : Result ℕ PartFault)
    → IsPart (K c) bytes r (K2 c) → ((d : ℕ) → d ≢ c → K2 d ≡ K d) → IsWorld K G → IsWorld K2 G
part_world K K2 G c bytes r h others own =
    let kept = part_keeps (K c) (K2 c) bytes r h in
    alike_world K K2 G (λ d. elim (cases_eq d c) [
      | inl e ↦ (
        ap (λ (x : ℕ). (K2 x).places) e ∙ kept.0 ∙ ap (λ (x : ℕ). (K x).places) (sym e),
        ap (λ (x : ℕ). (K2 x).charmaps) e ∙ kept.1 ∙ ap (λ (x : ℕ). (K x).charmaps) (sym e),
      )
      | inr a ↦ (ap (λ (k : Keyed). k.places) (others d a), ap (λ (k : Keyed). k.charmaps) (others d a))
    ]) own

-- ---- numbers that are closed one by one

set_none : (ds : List (Option Descriptor)) (n : ℕ) → get_or (set ds n None) n None ≡ None
set_none [] n = refl
set_none (d ∷ ds) zero = refl
set_none (d ∷ ds) (suc n) = set_none ds n

still_none : (ds : List (Option Descriptor)) (n m : ℕ) → get_or ds m None ≡ None → get_or (set ds n None) m None ≡ None
still_none [] n m h = h
still_none (d ∷ ds) zero zero h = refl
still_none (d ∷ ds) zero (suc m) h = h
still_none (d ∷ ds) (suc n) zero h = h
still_none (d ∷ ds) (suc n) (suc m) h = still_none ds n m h

-- after a CLOSE its number is free, and so are those that were free
closes : (T next : Table) (n : ℕ) (a : Answer) (d : Option Descriptor) → descriptor_at T n ≡ d → Closes T n d next a
    → (descriptor_at next n ≡ None) × ((m : ℕ) → descriptor_at T m ≡ None → descriptor_at next m ≡ None)
closes T next n a None e h =
    (ap (λ (t : Table). descriptor_at t n) h.0 ∙ e, λ m k. ap (λ (t : Table). descriptor_at t m) h.0 ∙ k)
closes T next n a (Some d) e h = (
  ap (λ (t : Table). descriptor_at t n) h.0 ∙ set_none T.descriptors n,
  λ m k. ap (λ (t : Table). descriptor_at t m) h.0 ∙ still_none T.descriptors n m k,
)

-- one more descriptor is closed
pub closed_more : (T next : Table) (n : ℕ) (a : Answer) → Acts T (Close n) next a
    → ((m : ℕ) → m < n → descriptor_at T m ≡ None) → (m : ℕ) → m < n + 1 → descriptor_at next m ≡ None
closed_more T next n a h below m l =
    let now = closes T next n a (descriptor_at T n) refl h in
    elim (cases_eq m n) [
      | inl e ↦ ap (descriptor_at next) e ∙ now.0
      | inr b ↦ now.1 m (below m (omega (arith, l, b)))
    ]

-- a descriptor that was closed stays closed
pub closed_still : (T next : Table) (n : ℕ) (a : Answer) → Acts T (Close n) next a → (m : ℕ) → descriptor_at T m ≡ None
    → descriptor_at next m ≡ None
closed_still T next n a h = (closes T next n a (descriptor_at T n) refl h).1

-- ---- two changes of one caller's table

other_of : (s t : ℕ → Table) (c q : ℕ) → t ≡ with_table s c (t c) → eqb q c ≡ false → t q ≡ s q
other_of s t c q h e = let at : t q ≡ with_table s c (t c) q = ap (λ (f : ℕ → Table). f q) h in rw e at at

-- two steps of one caller leave the others' tables
pub others_both : (s t u : ℕ → Table) (c : ℕ) → t ≡ with_table s c (t c) → u ≡ with_table t c (u c)
    → u ≡ with_table s c (u c)
others_both s t u c h i = changes_only s u c (λ q e. other_of t u c q i e ∙ other_of s t c q h e)

own_of_table : (s : ℕ → Table) (c : ℕ) (t : Table) → with_table s c t c ≡ t
own_of_table s c t = let e : eqb c c ≡ true = grind (arith, nat_tests) in rw e refl

-- a caller that leaves has an empty table, and the tables of others stay
pub leaves_empty : (s t : ℕ → Table) (c : ℕ) → t ≡ with_table s c empty_table
    → (t c ≡ empty_table) × (t ≡ with_table s c (t c))
leaves_empty s t c h =
    let own : t c ≡ empty_table = ap (λ (f : ℕ → Table). f c) h ∙ own_of_table s c empty_table in
    (own, h ∙ ap (with_table s c) (sym own))

-- ---- a caller without a bound number, which leaves

-- if no descriptor is open, no place is bound
pub unbound : (G : ℕ → Option Conversion) (k : Keyed) → ((n : ℕ) (p : Place) → place_at k n ≡ Some p → IsSome (G p.key))
    → ((n : ℕ) → descriptor_at (table_of G k) n ≡ None) → (n : ℕ) → place_at k n ≡ None
unbound G k live free n =
    (elim (place_at k n) as (λ (o : Option Place). place_at k n ≡ o → o ≡ None) [
      | None ↦ λ h. refl
      | Some p ↦ λ (h : place_at k n ≡ Some p).
          let v = some_value (G p.key) (live n p h) in
          absurd (let bad = sym (free n) ∙ open_at G k n p v.0 h v.1 in cc)
    ]) refl

-- a world stays a world if a caller with no conversions leaves
pub gone_world : (K K2 : ℕ → Keyed) (G : ℕ → Option Conversion) (c : ℕ) → SetsKeyed K K2 c no_keys
    → ((n : ℕ) → place_at (K c) n ≡ None) → IsWorld K G → IsWorld K2 G
gone_world K K2 G c sets free own =
    let apart : (d n : ℕ) (p : Place) → place_at (K2 d) n ≡ Some p → d ≢ c = λ d n p h e.
    absurd (let bad : None ≡ Some p = sym (none_of 16 n) ∙ ap (λ (k : Keyed). place_at k n) (sym sets.own)
    ∙ ap (λ (x : ℕ). place_at (K2 x) n) (sym e) ∙ h in cc) in
    let back : (d n : ℕ) (p : Place) → place_at (K2 d) n ≡ Some p → place_at (K d) n ≡ Some p = λ d n p h.
    ap (λ (k : Keyed). place_at k n) (sym (sets.others d (apart d n p h))) ∙ h in
    record {
      live = λ d n p h. own.live d n p (back d n p h);
      owned = λ k h. let was = own.owned k h in
          let there : was.0 ≢ c = λ e. absurd (let bad : None ≡ Some was.2 = sym (free was.1)
          ∙ ap (λ (x : ℕ). place_at (K x) was.1) (sym e) ∙ was.3 in cc) in
          (was.0, was.1, was.2, ap (λ (k : Keyed). place_at k was.1) (sets.others was.0 there) ∙ was.3, was.4);
      one = λ d n e j p q h i alike. own.one d n e j p q (back d n p h) (back e j q i) alike;
      fits = λ d n p v h g. subst (λ (k : Keyed). Fits k.charmaps p v) (sym (sets.others d (apart d n p h)))
          (own.fits d n p v (back d n p h) g);
    }

-- contracts see its table as empty, and those of others unchanged
pub gone_seen : (callers callers2 : BTreeMap ℕ Keyed) (s : slab.Slab Conversion) (v : List (ℕ × Table)) (c : ℕ)
    → tables_in callers.entries s ≡ v → SetsKeyed (keyed_in callers) (keyed_in callers2) c no_keys
    → world_tables (tables_in callers2.entries s) ≡ with_table (world_tables v) c empty_table
gone_seen callers callers2 s v c is sets =
    let own : world_tables (tables_in callers2.entries s) c ≡ empty_table = seen callers2 s c
    ∙ ap (table_of (slab.get s)) sets.own in
    others_seen callers callers2 s s v c is (λ d a. ap (table_of (slab.get s)) (sets.others d a))
    ∙ ap (with_table (world_tables v) c) own

-- ---- a caller that is removed because it has nothing left

-- a world of the same callers is one
pub same_world : (K K2 : ℕ → Keyed) (G : ℕ → Option Conversion) → ((d : ℕ) → K2 d ≡ K d) → IsWorld K G → IsWorld K2 G
same_world K K2 G same own = subst (λ (F : ℕ → Keyed). IsWorld F G) (sym (fun_ext same)) own

-- the same callers and conversions are seen as the same tables
pub same_seen : (callers callers2 : BTreeMap ℕ Keyed) (s : slab.Slab Conversion) (v : List (ℕ × Table))
    → tables_in callers.entries s ≡ v → ((d : ℕ) → keyed_in callers2 d ≡ keyed_in callers d)
    → world_tables (tables_in callers2.entries s) ≡ world_tables v
same_seen callers callers2 s v is same = fun_ext (λ d. seen callers2 s d ∙ ap (table_of (slab.get s)) (same d)
    ∙ sym (seen callers s d) ∙ ap (λ (x : List (ℕ × Table)). world_tables x d) is)

-- what is done to a table is done if the tables after it are the same
pub acts_same : (s t u : ℕ → Table) (c : ℕ) (action : Action) (a : Answer) → u ≡ t → Acts (s c) action (t c) a
    → Acts (s c) action (u c) a
acts_same s t u c action a e h = subst (λ (f : ℕ → Table). Acts (s c) action (f c) a) (sym e) h

-- the others' tables stay
pub others_same : (s t u : ℕ → Table) (c : ℕ) → u ≡ t → t ≡ with_table s c (t c) → u ≡ with_table s c (u c)
others_same s t u c e h = subst (λ (f : ℕ → Table). f ≡ with_table s c (f c)) (sym e) h
