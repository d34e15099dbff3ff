-- OPEN, in terms of a world's callers and conversions.
use Rattle.std.proofs.Common.{◌≡◌, ◌≢◌, inl, inr, ◌<◌, ℕ, Bool, true, false, cond, nat_lt, List, length, Option, Some}
use Rattle.std.proofs.Common.{None, IsSome, refl, sym, ◌∙◌, ap, subst, arith}
use Rattle.std.specs.Prelude.{is_none}
use Rattle.std.specs.List.{position, position_or_len}
use Rattle.std.proofs.lemmas.Bool.Decides.{nat_tests}
use Rattle.cv_base.specs.declared.policy.Policy.{Policy}
use Rattle.cv_pivot.specs.Conversions.{start}
use Rattle.cv_pivot.specs.declared.conversion.Conversion.{Conversion}
use Rattle.cv_frame.specs.declared.status.Status.{Status}
use Rattle.cv_frame.specs.declared.status.Status.TheVariants as status
use Rattle.cv_caller.specs.Tables.{Table, Descriptor, Named, named_of, with_descriptor}
use Rattle.cv_caller.specs.Keyed.{Keyed, place_at, with_place, table_of, named}
use Rattle.cv_caller.specs.declared.place.Place.{Place}
use Rattle.cv_world.specs.Actions.{Open}
use Rattle.cv_world.specs.Turn.{Acts, Opens, Binds}
use Rattle.cv_world.specs.Private.Opening.{Declines, DeclinesOpen, IsOpening}
use Rattle.cv_world.specs.Private.Changes.{SetsKeyed}
use Rattle.cv_world.specs.Worlds.{IsWorld}
use Rattle.cv_world.specs.declared.answer.Answer.TheVariants as answers
use Rattle.cv_world.specs.declared.opening.Opening.{Opening}
use Rattle.cv_world.proofs.Owned.{least_free_seen, opened_world, opened}

declined_bind : (T : Table) (n : ℕ) (policy : Policy) (to from : Option Named) (s : Status)
    → Declines (Some n) to from s → Binds T n policy to from T (answers.Refused s)
declined_bind T n policy (Some to) (Some from) s h = inr (refl, ap answers.Refused h)
declined_bind T n policy (Some to) None s h = (refl, ap answers.Refused h)
declined_bind T n policy None from s h = (refl, ap answers.Refused h)

declined : (T : Table) (n : Option ℕ) (to from : List ℕ) (policy : Policy) (s : Status)
    → Declines n (named_of T.charmaps to) (named_of T.charmaps from) s → Opens T n to from policy T (answers.Refused s)
declined T None to from policy s h = (refl, ap answers.Refused h)
declined T (Some n) to from policy s h =
    declined_bind T n policy (named_of T.charmaps to) (named_of T.charmaps from) s h

-- OPEN that is refused leaves the table
pub open_declined : (G : ℕ → Option Conversion) (k : Keyed) (to from : List ℕ) (policy : Policy) (s : Status)
    → ((n : ℕ) (p : Place) → place_at k n ≡ Some p → IsSome (G p.key)) → DeclinesOpen k to from s
    → Acts (table_of G k) (Open to from policy) (table_of G k) (answers.Refused s)
open_declined G k to from policy s live h =
    rw (least_free_seen G k live) (declined (table_of G k) (position is_none k.places) to from policy s h)

-- OPEN for which an allocation fails leaves the table
pub open_lacks : (G : ℕ → Option Conversion) (k : Keyed) (to from : List ℕ) (policy : Policy) (o : Opening)
    (next : Table) → ((n : ℕ) (p : Place) → place_at k n ≡ Some p → IsSome (G p.key)) → IsOpening k to from policy o
    → next ≡ table_of G k → Acts (table_of G k) (Open to from policy) next (answers.Refused status.NoMemory)
open_lacks G k to from policy o next live is e =
    rw (least_free_seen G k live, is.number, is.to_named, is.from_named) (inr (e, refl))

-- OPEN that is not refused opens a descriptor
pub open_done : (G : ℕ → Option Conversion) (k : Keyed) (to from : List ℕ) (policy : Policy) (o : Opening)
    (next : Table) → ((n : ℕ) (p : Place) → place_at k n ≡ Some p → IsSome (G p.key)) → IsOpening k to from policy o
    → next ≡ with_descriptor (table_of G k) o.number (Some (record {
      to = named o.to o.conversion.to;
      from = named o.from o.conversion.from;
      policy = policy;
      states = start;
    })) → Acts (table_of G k) (Open to from policy) next (answers.Number o.number)
open_done G k to from policy o next live is e =
    rw (least_free_seen G k live, is.number, is.to_named, is.from_named) (inl (e, refl))

position_within : {X : Type 0} (p : X → Bool) (xs : List X) (k : ℕ) → position p xs ≡ Some k → k < length xs
position_within p xs k = (elim (nat_lt (position_or_len p xs) (length xs)) as (λ (b : Bool). nat_lt
    (position_or_len p xs) (length xs) ≡ b → cond b (Some (position_or_len p xs)) None ≡ Some k → k < length xs) [
      | true ↦ λ (t : nat_lt (position_or_len p xs) (length xs) ≡ true) h.
          let same : position_or_len p xs ≡ k = cc in
          let less : position_or_len p xs < length xs = grind (arith, nat_tests, t) in
          rw same at less
      | false ↦ λ (t : nat_lt (position_or_len p xs) (length xs) ≡ false) h. absurd cc
    ]) refl

-- ---- after all allocations

module _ (K0 K1 K2 : ℕ → Keyed) (G0 G1 G2 : ℕ → Option Conversion) (c key : ℕ) (to from : List ℕ) (policy : Policy)
    (o : Opening) (keyed : K1 ≡ K0) (held : G1 ≡ G0) (own : IsWorld K0 G0) (is : IsOpening (K0 c) to from policy o)
    (sets : SetsKeyed K1 K2 c (with_place (K1 c) o.number (Some (record { key = key; to = o.to; from = o.from }))))
    (vacant : G1 key ≡ None) (now : G2 key ≡ Some o.conversion) (others : (k : ℕ) → k ≢ key → G2 k ≡ G1 k) where
  abbrev the_place : Place
  the_place = record { key = key; to = o.to; from = o.from }

  sets0 : SetsKeyed K0 K2 c (with_place (K0 c) o.number (Some the_place))
  sets0 = subst (λ (F : ℕ → Keyed). SetsKeyed F K2 c (with_place (F c) o.number (Some the_place))) keyed sets

  vacant0 : G0 key ≡ None
  vacant0 = ap (λ (F : ℕ → Option Conversion). F key) (sym held) ∙ vacant

  others0 : (k : ℕ) → k ≢ key → G2 k ≡ G0 k
  others0 k a = others k a ∙ ap (λ (F : ℕ → Option Conversion). F k) held

  pub new_world : IsWorld K2 G2
  new_world = opened_world K0 K2 c o.number (Some the_place) sets0 G0 G2 (position_within is_none
      (K0 c).places o.number is.number) own the_place o.conversion refl is.free vacant0 now others0 (is.fits key)

  pub new_tables : (table_of G2 (K2 c) ≡ with_descriptor (table_of G0 (K0 c)) o.number (Some (record {
    to = named o.to o.conversion.to;
    from = named o.from o.conversion.from;
    policy = policy;
    states = start;
  }))) × ((d : ℕ) → d ≢ c → table_of G2 (K2 d) ≡ table_of G0 (K0 d))
  new_tables =
      let both = opened K0 K2 G0 G2 c o.number the_place o.conversion sets0 own vacant0 now others0 in (
        both.0 ∙ ap (λ (d : Descriptor). with_descriptor (table_of G0 (K0 c)) o.number (Some d))
            (rw (is.starts, is.policy_is) refl),
        both.1,
      )
