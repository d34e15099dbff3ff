-- The steps of a world that convert, in terms of its callers and its conversions.
use Rattle.std.proofs.Common.{◌≡◌, ◌≢◌, inl, inr, ◌<◌, ◌≤◌, ℕ, true, false, eqb, nat_lt, List, [], length, Option}
use Rattle.std.proofs.Common.{Some, None, Result, Ok, Err, refl, sym, ◌∙◌, arith}
use Rattle.std.specs.Prelude.{IsErr}
use Rattle.std.proofs.lemmas.Bool.{cases_eq, cases_lt}
use Rattle.std.proofs.lemmas.Bool.Decides.{nat_tests}
use Rattle.cv_pivot.specs.Conversions.{start, Converted, IsConverted}
use Rattle.std.specs.BTreeMap.{BTreeMap}
use Rattle.slab.specs.Slab as slab
use Rattle.cv_pivot.specs.Encodings.{form_of, form_reads, form_writes, form_closes, IsForm}
use Rattle.cv_pivot.specs.declared.conversion.Conversion.{Conversion}
use Rattle.cv_pivot.specs.declared.outcome.TooBig.{TooBig}
use Rattle.cv_frame.specs.declared.status.Status.TheVariants as status
use Rattle.cv_caller.specs.Tables.{Table, Descriptor, form_in, descriptor_at}
use Rattle.cv_caller.specs.Keyed.{Keyed, place_at}
use Rattle.cv_caller.specs.declared.place.Place.{Place}
use Rattle.cv_world.specs.Actions.{Conv, Reset}
use Rattle.cv_world.specs.Answers.{most_room}
use Rattle.cv_world.specs.Turn.{Acts, Restarts, with_states}
use Rattle.cv_world.specs.Worlds.{world_tables, keyed_in, tables_in, IsWorld}
use Rattle.cv_world.proofs.Descriptors.{Restated, Same, found, same, restated}
use Rattle.cv_world.proofs.Stepping.{described}
use Rattle.cv_world.specs.declared.answer.Answer.{Answer}
use Rattle.cv_world.specs.declared.answer.Answer.TheVariants as answers

-- ---- CONV

-- CONV of no descriptor is refused
pub conv_none : (T : Table) (n room : ℕ) (input : List ℕ) → descriptor_at T n ≡ None
    → Acts T (Conv n room input) T (answers.Refused status.BadDescriptor)
conv_none T n room input h = rw h (refl, refl)

-- CONV with more than 1,000,000 bytes of room is refused
pub conv_room : (T : Table) (n room : ℕ) (input : List ℕ) (d : Descriptor) → descriptor_at T n ≡ Some d
    → most_room < room → Acts T (Conv n room input) T (answers.Refused status.Room)
conv_room T n room input d h l = let t : nat_lt most_room room ≡ true = grind (arith, nat_tests, l) in
    rw (h, t) (refl, refl)

-- CONV for which an allocation fails leaves the table
pub conv_lacks : (T next : Table) (n room : ℕ) (input : List ℕ) (d : Descriptor) → descriptor_at T n ≡ Some d
    → room ≤ most_room → next ≡ T → Acts T (Conv n room input) next (answers.Refused status.NoMemory)
conv_lacks T next n room input d h l e = let t : nat_lt most_room room ≡ false = grind (arith, nat_tests, l) in
    rw (h, t) (inr (e, refl))

-- CONV that is not refused converts
pub conv_done : (T next : Table) (n room : ℕ) (input : List ℕ) (d : Descriptor) (c : Converted)
    → descriptor_at T n ≡ Some d → room ≤ most_room → IsForm (form_in T.charmaps d.from) → IsConverted
    (form_reads (form_in T.charmaps d.from)) (form_writes (form_in T.charmaps d.to)) d.policy d.states input room c
    → next ≡ with_states T n d c.states
    → Acts T (Conv n room input) next (answers.Converted c.stop c.left c.count c.output)
conv_done T next n room input d c h l form is e = let t : nat_lt most_room room ≡ false = grind (arith, nat_tests, l) in
    rw (h, t) (inl (record { is_form = form; came = c; is_converted = is; does = (e, refl) }))

-- ---- RESET

-- RESET of no descriptor is refused
pub reset_none : (T : Table) (n room : ℕ) → descriptor_at T n ≡ None
    → Acts T (Reset n room) T (answers.Refused status.BadDescriptor)
reset_none T n room h = rw h (refl, refl)

-- RESET with more than 1,000,000 bytes of room is refused
pub reset_room : (T : Table) (n room : ℕ) (d : Descriptor) → descriptor_at T n ≡ Some d → most_room < room
    → Acts T (Reset n room) T (answers.Refused status.Room)
reset_room T n room d h l = let t : nat_lt most_room room ≡ true = grind (arith, nat_tests, l) in rw (h, t) (refl, refl)

module _ (r : Result (List ℕ) TooBig) (room : ℕ) (closing : List ℕ) (is was now : Option Conversion)
    (gives_up : room ≡ 0 → (r ≡ Ok []) × (now ≡ is)) (closes : 0 < room → length closing ≤ room
    → (r ≡ Ok closing) × (now ≡ is)) (too_big : 0 < room → room < length closing → IsErr r × (now ≡ was)) where
  reset_kept : (bytes : List ℕ) → r ≡ Ok bytes → now ≡ is
  reset_kept bytes e = elim (cases_eq room 0) [
    | inl z ↦ (gives_up z).1
    | inr a ↦ elim (cases_lt room (length closing)) [
      | inl l ↦ absurd (let bad = rw e at (too_big (omega (arith, a)) l).0 in cc)
      | inr l ↦ (closes (omega (arith, a)) l).1
    ]
  ]

  reset_writes : (T next : Table) (n : ℕ) (d : Descriptor) (bytes : List ℕ) → r ≡ Ok bytes
      → next ≡ with_states T n d start → Restarts T n d room closing next (answers.Written bytes)
  reset_writes T next n d bytes e h = elim (cases_eq room 0) [
    | inl z ↦ let w : bytes ≡ [] = (let both = sym e ∙ (gives_up z).0 in cc) in rw (z, w) (h, refl)
    | inr a ↦ elim (cases_lt room (length closing)) [
      | inl l ↦ absurd (let bad = rw e at (too_big (omega (arith, a)) l).0 in cc)
      | inr l ↦ let w : bytes ≡ closing = (let both = sym e ∙ (closes (omega (arith, a)) l).0 in cc) in
          let t : eqb room 0 ≡ false = grind (arith, nat_tests, a) in
          let f : nat_lt room (length closing) ≡ false = grind (arith, nat_tests, l) in rw (t, f, w) (h, refl)
    ]
  ]

  reset_refuses : (T next : Table) (n : ℕ) (d : Descriptor) (e : TooBig) → r ≡ Err e → next ≡ T
      → (now ≡ was) × Restarts T n d room closing next (answers.Refused status.TooBig)
  reset_refuses T next n d e i h = elim (cases_eq room 0) [
    | inl z ↦ absurd (let both = sym i ∙ (gives_up z).0 in cc)
    | inr a ↦ elim (cases_lt room (length closing)) [
      | inl l ↦ let t : eqb room 0 ≡ false = grind (arith, nat_tests, a) in
          let f : nat_lt room (length closing) ≡ true = grind (arith, nat_tests, l) in
          ((too_big (omega (arith, a)) l).1, rw (t, f) (h, refl))
      | inr l ↦ absurd (let both = sym i ∙ (closes (omega (arith, a)) l).0 in cc)
    ]
  ]

-- RESET restarts the descriptor, or has too little room for what closes its shift
reset_acts : (T next : Table) (n room : ℕ) (d : Descriptor) (a : Answer) → descriptor_at T n ≡ Some d → room ≤ most_room
    → Restarts T n d room (form_closes (form_in T.charmaps d.to) d.states.writing) next a → Acts T (Reset n room) next a
reset_acts T next n room d a h l r = let t : nat_lt most_room room ≡ false = grind (arith, nat_tests, l) in rw (h, t) r

module _ (callers : BTreeMap ℕ Keyed) (s : slab.Slab Conversion) (tables : List (ℕ × Table)) (c n : ℕ)
    (is : tables_in callers.entries s ≡ tables)
    (s2 : slab.Slab Conversion) (p : Place) (own : IsWorld (keyed_in callers) (slab.get s))
    (mine : Some p ≡ place_at (keyed_in callers c) n) (others : (o : ℕ) → o ≢ p.key → slab.get s2 o ≡ slab.get s o)
    (r : Result (List ℕ) TooBig) (room : ℕ) (few : room ≤ most_room) (gives_up : (v : Conversion)
    → slab.get s p.key ≡ Some v → room ≡ 0 → (r ≡ Ok []) × (slab.get s2 p.key ≡ Some (record v { states = start })))
    (closes : (v : Conversion) → slab.get s p.key ≡ Some v → 0 < room → length (form_closes (form_of v.to)
    v.states.writing) ≤ room → (r ≡ Ok (form_closes (form_of v.to) v.states.writing)) × (slab.get s2 p.key
    ≡ Some (record v { states = start }))) (too_big : (v : Conversion) → slab.get s p.key ≡ Some v → 0 < room → room
    < length (form_closes (form_of v.to) v.states.writing) → IsErr r × (slab.get s2 p.key ≡ slab.get s p.key)) where
  -- a RESET that is done
  pub reset_done : (bytes : List ℕ) → r ≡ Ok bytes → Restated (keyed_in callers) (slab.get s2) (world_tables tables)
      (world_tables (tables_in callers.entries s2)) c n p (found callers s tables c n is p own mine).conversion start
      × Acts (world_tables tables c) (Reset n room) (world_tables (tables_in callers.entries s2) c)
      (answers.Written bytes)
  reset_done bytes e =
      let f = found callers s tables c n is p own mine in
      let v = f.conversion in
      let d : Descriptor = described p v in
      let w : Conversion = record v { states = start } in
      let closing = form_closes (form_of v.to) v.states.writing in
      let now = reset_kept r room closing (Some w) (slab.get s p.key) (slab.get s2 p.key) (gives_up v f.under)
      (closes v f.under) (too_big v f.under) bytes e in
      let t = restated callers s tables c n is s2 p own mine others v w f.under now refl in (
        t,
        reset_acts (world_tables tables c) _ n room d _ f.opens few
            (rw (← f.to) (reset_writes r room closing (Some w) (slab.get s p.key) (slab.get s2 p.key)
            (gives_up v f.under) (closes v f.under) (too_big v f.under) (world_tables tables c) _ n d bytes e t.table)),
      )

  -- a RESET with too little room
  pub reset_refused : (fault : TooBig) → r ≡ Err fault → Same (keyed_in callers) (slab.get s2) (world_tables tables)
      (world_tables (tables_in callers.entries s2)) c × Acts (world_tables tables c) (Reset n room)
      (world_tables (tables_in callers.entries s2) c) (answers.Refused status.TooBig)
  reset_refused fault e =
      let f = found callers s tables c n is p own mine in
      let v = f.conversion in
      let d : Descriptor = described p v in
      let closing = form_closes (form_of v.to) v.states.writing in
      let refuses = reset_refuses r room closing (Some (record v { states = start })) (slab.get s p.key)
      (slab.get s2 p.key) (gives_up v f.under) (closes v f.under) (too_big v f.under) (world_tables tables c) in
      let t = same callers s tables c n is s2 p own mine others (refuses (world_tables tables c) n d fault e refl).0 in
      (t, reset_acts (world_tables tables c) _ n room d _ f.opens few (rw (← f.to) (refuses _ n d fault e t.table).1))
