-- How many bytes all callers are counted for after one of them has changed.
use Rattle.std.proofs.Common.{◌≡◌, ◌+◌, ℕ, suc, List, [], ◌∷◌, ◌++◌, length, get_or, Option, Some, None}
use Rattle.std.proofs.Common.{Result, Ok, Err, refl, sym, ap, ◌∙◌, arith}
use Rattle.std.specs.Prelude.{unwrap_or, sum_by, is_some, IsSome, IfOk, Bool, if◌then◌else◌}
use Rattle.std.specs.Option.{option_map}
use Rattle.std.specs.Ordering.{nat_cmp}
use Rattle.std.specs.BTreeMap.{BTreeMap, get, is_at, IsOrdered, insert_entry, WritesThrough}
use Rattle.std.specs.Map.{set_value, remove_entry, values_of}
use Rattle.std.proofs.lemmas.Cmp.{nat_cmp_total}
use Rattle.std.proofs.lemmas.List.Sums.{sum_by-cons}
use Rattle.std.proofs.lemmas.Map.Entries.{sum_by-set_value, sum_by-insert_entry, sum_by-remove_entry}
use Rattle.cv_caller.specs.Keyed.{Keyed, no_keys, held_by, place_bytes}
use Rattle.cv_caller.specs.Limits.{descriptor_bytes}
use Rattle.cv_caller.specs.Results.{IsPart}
use Rattle.cv_caller.specs.declared.place.Place.{Place}
use Rattle.cv_caller.specs.declared.faults.AddFault.{AddFault}
use Rattle.cv_caller.specs.declared.faults.PartFault.{PartFault}
use Rattle.cv_charmap.specs.Meaning.{Charmap}
use Rattle.cv_world.specs.Private.Changes.{IsPut}
use Rattle.cv_world.specs.Budgets.{held_in, Exchanges}
use Rattle.cv_world.specs.Worlds.{keyed_in}

-- the sum after a caller's table is replaced
pub written : (old new : BTreeMap ℕ Keyed) (c : ℕ) (v w : Keyed) → get nat_cmp old c ≡ Some v
    → new.entries ≡ set_value (is_at (nat_cmp c)) old.entries w → held_in new + held_by v ≡ held_in old + held_by w
written old new c v w was is = ap (λ (es : List (ℕ × Keyed)). sum_by held_by (values_of es) + held_by v) is
    ∙ sum_by-set_value held_by (is_at (nat_cmp c)) old.entries v w was

-- the sum changes by as much as the count of that caller
pub exchanges : (old new : BTreeMap ℕ Keyed) (c : ℕ) (v w : Keyed) → get nat_cmp old c ≡ Some v
    → WritesThrough nat_cmp (nat_cmp c) old w new → Exchanges old new c
exchanges old new c v w was is =
    let there : IsSome (get nat_cmp old c) = rw was refl in
    let before : keyed_in old c ≡ v = ap (λ (o : Option Keyed). unwrap_or o no_keys) was in
    let after : keyed_in new c ≡ w = ap (λ (o : Option Keyed). unwrap_or o no_keys) (is.3 there).1 in
    rw (before, after) (written old new c v w was is.0)

-- the sum after a caller is added
pub entered : (old new : BTreeMap ℕ Keyed) (c : ℕ) (w : Keyed) → IsOrdered nat_cmp old → get nat_cmp old c ≡ None
    → new.entries ≡ insert_entry nat_cmp old.entries c w → held_in new ≡ held_in old + held_by w
entered old new c w ordered absent is =
    let new_sum : held_in new ≡ sum_by held_by (values_of (insert_entry nat_cmp old.entries c w)) =
    ap (λ (es : List (ℕ × Keyed)). sum_by held_by (values_of es)) is in
    let sum = sum_by-insert_entry held_by nat_cmp_total old.entries c w ordered in
    let none : unwrap_or (option_map held_by (get nat_cmp old c)) 0 ≡ 0 =
    ap (λ (o : Option Keyed). unwrap_or (option_map held_by o) 0) absent in
    omega (arith, new_sum, sum, none)

-- the sum after a caller is removed
pub gone : (old new : BTreeMap ℕ Keyed) (c : ℕ) (v : Keyed) → get nat_cmp old c ≡ Some v
    → new.entries ≡ remove_entry (is_at (nat_cmp c)) old.entries → held_in new + held_by v ≡ held_in old
gone old new c v was is =
    let new_sum : held_in new ≡ sum_by held_by (values_of (remove_entry (is_at (nat_cmp c)) old.entries)) =
    ap (λ (es : List (ℕ × Keyed)). sum_by held_by (values_of es)) is in
    let sum = sum_by-remove_entry held_by (is_at (nat_cmp c)) old.entries in
    let some : unwrap_or (option_map held_by (get nat_cmp old c)) 0 ≡ held_by v =
    ap (λ (o : Option Keyed). unwrap_or (option_map held_by o) 0) was in
    omega (arith, new_sum, sum, some)

-- numbers that are not bound are counted for no bytes
pub unbound_bytes : (places : List (Option Place)) → ((n : ℕ) → get_or places n None ≡ None)
    → sum_by place_bytes places ≡ 0
unbound_bytes [] free = refl
unbound_bytes (p ∷ places) free =
    let first : place_bytes p ≡ 0 = ap place_bytes (free 0) in
    let rest = unbound_bytes places (λ n. free (suc n)) in
    let sum = sum_by-cons place_bytes p places in
    omega (arith, first, rest, sum)

-- ---- what an op changes

-- a charmap is counted in place of the part
put_bytes : (k k2 : Keyed) (m : Charmap) (n : ℕ) → IsPut k m (Ok n) k2 → held_by k2 + length k.part ≡ held_by k + n
put_bytes k k2 m n h =
    let last : held_by k2 ≡ held_by (record h.0 { part = [] }) = ap held_by h.2 in
    let places : sum_by place_bytes h.0.places ≡ sum_by place_bytes k.places =
    ap (λ (x : Keyed). sum_by place_bytes x.places) h.1.4 in
    let bytes : h.0.bytes ≡ k.bytes + n = ap (λ (x : Keyed). x.bytes) h.1.4 in
    omega (arith, last, places, bytes)

-- a longer part, or none, is counted in place of the part
part_bytes : (k k2 : Keyed) (bytes : List ℕ) (n : ℕ) → IsPart k bytes (Ok n) k2
    → held_by k2 + length k.part ≡ held_by k + n
part_bytes k k2 [] n h =
    let none : n ≡ 0 = (let e = h.0 in cc) in
    let last : held_by k2 ≡ held_by (record k { part = [] }) = ap held_by h.1 in
    omega (arith, none, last)
part_bytes k k2 (b ∷ bytes) n h =
    let last : held_by k2 ≡ held_by (record k { part = k.part ++ b ∷ bytes }) = ap held_by h.2 in
    omega (arith, last, h.1)

-- what is kept of a caller that has a table
pub there : (old : BTreeMap ℕ Keyed) (c : ℕ) (v : Keyed) → get nat_cmp old c ≡ Some v → keyed_in old c ≡ v
there old c v was = ap (λ (o : Option Keyed). unwrap_or o no_keys) was

-- the sum after a charmap was put
pub put_sum : (old new : BTreeMap ℕ Keyed) (c : ℕ) (k v w : Keyed) (m : Charmap) (r : Result ℕ AddFault)
    → get nat_cmp old c ≡ Some v → WritesThrough nat_cmp (nat_cmp c) old w new → k ≡ v → IsPut k m r w
    → IfOk r (λ n. held_in new + length (keyed_in old c).part ≡ held_in old + n)
put_sum old new c k v w m (Ok n) was is e h =
    let sum = written old new c v w was is.0 in
    let own = put_bytes k w m n h in
    let same : held_by k ≡ held_by v = ap held_by e in
    let part : length k.part ≡ length (keyed_in old c).part =
    ap (λ (x : Keyed). length x.part) (e ∙ sym (there old c v was)) in
    omega (arith, sum, own, same, part)
put_sum old new c k v w m (Err f) was is e h = tt

-- the sum after a part was taken
pub part_sum : (old new : BTreeMap ℕ Keyed) (c : ℕ) (k v w : Keyed) (bytes : List ℕ) (r : Result ℕ PartFault)
    → get nat_cmp old c ≡ Some v → WritesThrough nat_cmp (nat_cmp c) old w new → k ≡ v → IsPart k bytes r w
    → IfOk r (λ n. held_in new + length (keyed_in old c).part ≡ held_in old + n)
part_sum old new c k v w bytes (Ok n) was is e h =
    let sum = written old new c v w was is.0 in
    let own = part_bytes k w bytes n h in
    let same : held_by k ≡ held_by v = ap held_by e in
    let part : length k.part ≡ length (keyed_in old c).part =
    ap (λ (x : Keyed). length x.part) (e ∙ sym (there old c v was)) in
    omega (arith, sum, own, same, part)
part_sum old new c k v w bytes (Err f) was is e h = tt

-- the sum after a number is freed: if it was bound, it is no longer counted
pub unbound_sum : (place : Option Place) (bound : Bool) (old new before after now : ℕ) → bound ≡ is_some place
    → before ≡ now → after + place_bytes place ≡ before → new + now ≡ old + after
    → new + (if bound then descriptor_bytes else 0) ≡ old
unbound_sum (Some p) bound old new before after now is was own sum = rw is (omega (arith, was, own, sum))
unbound_sum None bound old new before after now is was own sum = rw is (omega (arith, was, own, sum))
