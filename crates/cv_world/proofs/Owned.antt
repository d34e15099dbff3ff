-- How tables change, and a world stays a world, if one number or the conversion under one key changes.
use Rattle.std.proofs.Common.{◌≡◌, ◌≢◌, ◌⊎◌, inl, inr, ◌<◌, ℕ, zero, suc, Bool, true, false, List, [], ◌∷◌, length}
use Rattle.std.proofs.Common.{map, get_or, set, Option, Some, None, IsSome, refl, sym, ◌∙◌, ap, subst, eq-eqb}
use Rattle.std.specs.Prelude.{is_some, is_none}
use Rattle.std.specs.List.{position, list_any}
use Rattle.std.specs.Option.{option_map, option_and_then}
use Rattle.std.proofs.Math.ListN.{get_or-map}
use Rattle.std.proofs.lemmas.Bool.{cases_eq, or_parts}
use Rattle.std.specs.List.{prefix_len}
use Rattle.std.proofs.Common.{not}
use Rattle.std.proofs.lemmas.List.{set-get_or, get_or-set_same, get_or-set_other, length-map}
use Rattle.cv_pivot.specs.declared.conversion.Conversion.{Conversion}
use Rattle.cv_pivot.specs.declared.encoding.Encoding.{Encoding}
use Rattle.cv_pivot.specs.Encodings.{Mapped}
use Rattle.cv_charmap.specs.Meaning.{Charmap}
use Rattle.cv_caller.specs.Tables.{Charmaps, pairs_in, Descriptor, Table, charmap_at, form_in, uses, is_held}
use Rattle.cv_caller.specs.Tables.{with_descriptor, descriptor_at}
use Rattle.cv_caller.specs.Keyed.{Keyed, place_at, with_place, table_of, descriptor_of, named, refers, is_place, Fits}
use Rattle.cv_caller.specs.Keyed.{IsHeld, ArePlaces}
use Rattle.cv_caller.specs.declared.place.Place.{Place}
use Rattle.cv_world.specs.Private.Changes.{SetsKeyed}
use Rattle.cv_world.specs.Worlds.{IsWorld}

-- ---- tables

-- the descriptor of a place is the same if its key has the same conversion
same_at : (G G2 : ℕ → Option Conversion) (o : Option Place) → ((p : Place) → o ≡ Some p → G2 p.key ≡ G p.key)
    → option_and_then (descriptor_of G2) o ≡ option_and_then (descriptor_of G) o
same_at G G2 None h = refl
same_at G G2 (Some p) h = rw (h p refl) refl

map_kept : {X Y : Type 0} (f g : X → Y) (xs : List X) (d : X) → ((m : ℕ) → g (get_or xs m d) ≡ f (get_or xs m d))
    → map g xs ≡ map f xs
map_kept f g [] d h = refl
map_kept f g (x ∷ xs) d h = rw (h 0, map_kept f g xs d (λ m. h (suc m))) refl

-- a list with one place set, of which all others are seen alike
map_set : {X Y : Type 0} (f g : X → Y) (xs : List X) (n : ℕ) (y d : X)
    → ((m : ℕ) → m ≢ n → g (get_or xs m d) ≡ f (get_or xs m d)) → map g (set xs n y) ≡ set (map f xs) n (g y)
map_set f g [] n y d h = refl
map_set {X} {Y} f g (x ∷ xs) zero y d h =
    ap (λ (l : List Y). g y ∷ l) (map_kept f g xs d (λ m. h (suc m) (λ e. absurd cc)))
map_set f g (x ∷ xs) (suc n) y d h =
    rw (h 0 (λ e. absurd cc), map_set f g xs n y d (λ m a. h (suc m) (λ e. a (cc)))) refl

-- a table whose keys have the same conversions is the same
pub kept_table : (G G2 : ℕ → Option Conversion) (k : Keyed)
    → ((n : ℕ) (p : Place) → place_at k n ≡ Some p → G2 p.key ≡ G p.key) → table_of G2 k ≡ table_of G k
kept_table G G2 k h = ap (λ (ds : List (Option Descriptor)).
    let t : Table = record { charmaps = k.charmaps; descriptors = ds; part = k.part } in t)
    (map_kept (option_and_then (descriptor_of G)) (option_and_then (descriptor_of G2)) k.places None
    (λ m. same_at G G2 (get_or k.places m None) (h m)))

-- one number changes, and the keys of the others have the same conversions
pub changed_table : (G G2 : ℕ → Option Conversion) (k : Keyed) (n : ℕ) (o : Option Place)
    → ((m : ℕ) (p : Place) → m ≢ n → place_at k m ≡ Some p → G2 p.key ≡ G p.key)
    → table_of G2 (with_place k n o) ≡ with_descriptor (table_of G k) n (option_and_then (descriptor_of G2) o)
changed_table G G2 k n o h = ap (λ (ds : List (Option Descriptor)).
    let t : Table = record { charmaps = k.charmaps; descriptors = ds; part = k.part } in t)
    (map_set (option_and_then (descriptor_of G)) (option_and_then (descriptor_of G2)) k.places n o None
    (λ m a. same_at G G2 (get_or k.places m None) (λ p. h m p a)))

-- the descriptor of a number
pub descriptor_seen : (G : ℕ → Option Conversion) (k : Keyed) (n : ℕ)
    → descriptor_at (table_of G k) n ≡ option_and_then (descriptor_of G) (place_at k n)
descriptor_seen G k n = get_or-map (option_and_then (descriptor_of G)) k.places n None

-- binding a number to the place that it had changes nothing
place_kept : (k : Keyed) (n : ℕ) (p : Place) → place_at k n ≡ Some p → with_place k n (Some p) ≡ k
place_kept k n p h = ap (λ (ps : List (Option Place)).
    let t : Keyed = record { charmaps = k.charmaps; places = ps; part = k.part; bytes = k.bytes } in t)
    (ap (λ (o : Option Place). set k.places n o) (sym h) ∙ set-get_or k.places n None)

-- if one conversion changes, only its descriptor does
pub written_table : (G G2 : ℕ → Option Conversion) (k : Keyed) (n : ℕ) (p : Place) → place_at k n ≡ Some p
    → ((m : ℕ) (q : Place) → m ≢ n → place_at k m ≡ Some q → G2 q.key ≡ G q.key)
    → table_of G2 k ≡ with_descriptor (table_of G k) n (descriptor_of G2 p)
written_table G G2 k n p h others = ap (table_of G2) (sym (place_kept k n p h)) ∙ changed_table G G2 k n (Some p) others

-- ---- what is free and what is used

some_there : (G : ℕ → Option Conversion) (p : Place) → IsSome (G p.key) → is_some (descriptor_of G p) ≡ true
some_there G p h = (elim (G p.key) as (λ (o : Option Conversion). G p.key ≡ o
    → is_some (option_map (λ (c : Conversion). let d : Descriptor =
    record { to = named p.to c.to; from = named p.from c.from; policy = c.policy; states = c.states } in d) o) ≡ true) [
      | Some v ↦ λ e. refl
      | None ↦ λ (e : G p.key ≡ None). absurd (let bad = rw e at h in cc)
    ]) refl

not_none : {X : Type 0} (o : Option X) → is_some o ≡ true → is_none o ≡ false
not_none (Some x) h = refl
not_none None h = absurd cc

prefix_len_seen : {X Y : Type 0} (p : Y → Bool) (q : X → Bool) (f : X → Y) (xs : List X) (d : X)
    → ((m : ℕ) → p (f (get_or xs m d)) ≡ q (get_or xs m d)) → prefix_len p (map f xs) ≡ prefix_len q xs
prefix_len_seen p q f [] d h = refl
prefix_len_seen p q f (x ∷ xs) d h = rw (h 0, prefix_len_seen p q f xs d (λ m. h (suc m))) refl

position_seen : {X Y : Type 0} (p : Y → Bool) (q : X → Bool) (f : X → Y) (xs : List X) (d : X)
    → ((m : ℕ) → p (f (get_or xs m d)) ≡ q (get_or xs m d)) → position p (map f xs) ≡ position q xs
position_seen p q f xs d h =
    rw (prefix_len_seen (λ y. not (p y)) (λ x. not (q x)) f xs d (λ m. ap not (h m)), length-map xs f) refl

any_seen : {X Y : Type 0} (p : Y → Bool) (q : X → Bool) (f : X → Y) (xs : List X) (d : X)
    → ((m : ℕ) → p (f (get_or xs m d)) ≡ q (get_or xs m d)) → list_any p (map f xs) ≡ list_any q xs
any_seen p q f [] d h = refl
any_seen p q f (x ∷ xs) d h = rw (h 0, any_seen p q f xs d (λ m. h (suc m))) refl

none_seen : (G : ℕ → Option Conversion) (o : Option Place) → ((p : Place) → o ≡ Some p → IsSome (G p.key))
    → is_none (option_and_then (descriptor_of G) o) ≡ is_none o
none_seen G None live = refl
none_seen G (Some p) live = let t = some_there G p (live p refl) in not_none _ t

-- the least free number is that of the least free place
pub least_free_seen : (G : ℕ → Option Conversion) (k : Keyed) → ((n : ℕ) (p : Place) → place_at k n ≡ Some p
    → IsSome (G p.key)) → position is_none (table_of G k).descriptors ≡ position is_none k.places
least_free_seen G k live = position_seen is_none is_none (option_and_then (descriptor_of G)) k.places None
    (λ m. none_seen G (get_or k.places m None) (live m))

is_held_named : (place : ℕ) (o : Option ℕ) (e : Encoding) → is_held place (named o e) ≡ is_place place o
is_held_named place (Some q) e = refl
is_held_named place None e = refl

uses_by : (place : ℕ) (p : Place) (o : Option Conversion)
    → IsSome o → uses place (option_map (λ (c : Conversion). let d : Descriptor =
    record { to = named p.to c.to; from = named p.from c.from; policy = c.policy; states = c.states } in d) o)
    ≡ refers place (Some p)
uses_by place p (Some v) h = rw (is_held_named place p.to v.to, is_held_named place p.from v.from) refl
uses_by place p None h = absurd cc

uses_seen : (G : ℕ → Option Conversion) (place : ℕ) (o : Option Place) → ((p : Place) → o ≡ Some p → IsSome (G p.key))
    → uses place (option_and_then (descriptor_of G) o) ≡ refers place o
uses_seen G place None live = refl
uses_seen G place (Some p) live = uses_by place p (G p.key) (live p refl)

-- a charmap is used by a descriptor if a place refers to it
pub busy_seen : (G : ℕ → Option Conversion) (k : Keyed) (place : ℕ) → ((n : ℕ) (p : Place) → place_at k n ≡ Some p
    → IsSome (G p.key)) → list_any (uses place) (table_of G k).descriptors ≡ list_any (refers place) k.places
busy_seen G k place live = any_seen (uses place) (refers place) (option_and_then (descriptor_of G)) k.places None
    (λ m. uses_seen G place (get_or k.places m None) (live m))

-- ---- the invariant of a world

some_eq : (a b : Place) → Some a ≡ Some b → a ≡ b
some_eq a b h = cc

conv_eq : (a b : Conversion) → Some a ≡ Some b → a ≡ b
conv_eq a b h = cc

no_some : {A : Type 0} → IsSome (let o : Option Conversion = None in o) → A
no_some h = absurd (cc)

fits_same : (maps : Charmaps) (p : Place) (v w : Conversion) → w.to ≡ v.to → w.from ≡ v.from → Fits maps p v
    → Fits maps p w
fits_same maps p v w t f h = record { to = rw t h.to; from = rw f h.from }

-- a conversion is written under a key that keeps its encodings
pub written_world : (K : ℕ → Keyed) (G G2 : ℕ → Option Conversion) (k : ℕ) (v w : Conversion) → G k ≡ Some v
    → G2 k ≡ Some w → w.to ≡ v.to → w.from ≡ v.from → ((o : ℕ) → o ≢ k → G2 o ≡ G o) → IsWorld K G → IsWorld K G2
written_world K G G2 k v w was is t f others own = record {
  live = λ c n p h. elim (cases_eq p.key k) [
    | inl e ↦ rw (e, is) refl
    | inr a ↦ rw (others p.key a) (own.live c n p h)
  ];
  owned = λ j h. elim (cases_eq j k) [
    | inl e ↦ own.owned j (rw (e, was) refl)
    | inr a ↦ own.owned j (rw (others j a) at h)
  ];
  one = own.one;
  fits = λ c n p x h g. elim (cases_eq p.key k) [
    | inl e ↦ let same : w ≡ x = conv_eq w x (sym is ∙ ap G2 (sym e) ∙ g) in
        subst (Fits (K c).charmaps p) same (fits_same (K c).charmaps p v w t f (own.fits c n p v h (ap G e ∙ was)))
    | inr a ↦ own.fits c n p x h (sym (others p.key a) ∙ g)
  ];
}

module _ (K K2 : ℕ → Keyed) (c n : ℕ) (o : Option Place) (sets : SetsKeyed K K2 c (with_place (K c) n o)) where
  pub maps_same : (d : ℕ) → (K2 d).charmaps ≡ (K d).charmaps
  maps_same d = elim (cases_eq d c) [
    | inl e ↦ ap (λ (x : ℕ). (K2 x).charmaps) e ∙ ap (λ (k : Keyed). k.charmaps) sets.own
        ∙ ap (λ (x : ℕ). (K x).charmaps) (sym e)
    | inr a ↦ ap (λ (k : Keyed). k.charmaps) (sets.others d a)
  ]

  pub other_place : (d m : ℕ) → (d ≡ c → m ≡ n → ⊥) → place_at (K2 d) m ≡ place_at (K d) m
  other_place d m a = elim (cases_eq d c) [
    | inl e ↦ ap (λ (x : ℕ). place_at (K2 x) m) e ∙ ap (λ (k : Keyed). place_at k m) sets.own
        ∙ get_or-set_other (K c).places n m o None (a e) ∙ ap (λ (x : ℕ). place_at (K x) m) (sym e)
    | inr b ↦ ap (λ (k : Keyed). place_at k m) (sets.others d b)
  ]

  pub own_place : n < length (K c).places → place_at (K2 c) n ≡ o
  own_place l = ap (λ (k : Keyed). place_at k n) sets.own ∙ get_or-set_same (K c).places n o None l

  -- this number or another
  by_place : (d m : ℕ) → ((d ≡ c) × (m ≡ n)) ⊎ (d ≡ c → m ≡ n → ⊥)
  by_place d m = elim (cases_eq d c) [
    | inl e ↦ elim (cases_eq m n) [ inl f ↦ inl (e, f) | inr b ↦ inr (λ x y. b y) ]
    | inr a ↦ inr (λ x y. a x)
  ]

  module _ (G G2 : ℕ → Option Conversion) (l : n < length (K c).places) (own : IsWorld K G) where
    here : (d m : ℕ) (p q : Place) → o ≡ Some p → ((d ≡ c) × (m ≡ n)) → place_at (K2 d) m ≡ Some q → p ≡ q
    here d m p q is s h = some_eq p q
        (sym is ∙ sym (own_place l) ∙ ap (λ (x : ℕ). place_at (K2 x) n) (sym s.0) ∙ ap (place_at (K2 d)) (sym s.1) ∙ h)

    there : (d m : ℕ) (q : Place) → (d ≡ c → m ≡ n → ⊥) → place_at (K2 d) m ≡ Some q → place_at (K d) m ≡ Some q
    there d m q a h = sym (other_place d m a) ∙ h

    pub opened_world : (p : Place) (v : Conversion) → o ≡ Some p → place_at (K c) n ≡ None → G p.key ≡ None
        → G2 p.key ≡ Some v → ((k : ℕ) → k ≢ p.key → G2 k ≡ G k) → Fits (K c).charmaps p v → IsWorld K2 G2
    opened_world p v is free vacant now others fits =
        let apart : (d m : ℕ) (q : Place) → place_at (K d) m ≡ Some q
        → q.key ≢ p.key = λ d m q h e. no_some (rw (e, vacant) at (own.live d m q h)) in
        record {
          live = λ d m q h. elim (by_place d m) [
            | inl s ↦ let e = here d m p q is s h in subst (λ (x : Place). IsSome (G2 x.key)) e (rw now refl)
            | inr a ↦ let w = there d m q a h in rw (others q.key (apart d m q w)) (own.live d m q w)
          ];
          owned = λ k h. elim (cases_eq k p.key) [
            | inl e ↦ (c, n, p, own_place l ∙ is, sym e)
            | inr a ↦ let was = own.owned k (rw (others k a) at h) in elim (by_place was.0 was.1) [
              | inl s ↦ absurd (let bad : None ≡ Some was.2 = sym free ∙ ap (λ (x : ℕ). place_at (K x) n) (sym s.0)
                  ∙ ap (place_at (K was.0)) (sym s.1) ∙ was.3 in cc)
              | inr b ↦ (was.0, was.1, was.2, other_place was.0 was.1 b ∙ was.3, was.4)
            ]
          ];
          one = λ d m e j q r h i same. elim (by_place d m) [
            | inl s ↦ elim (by_place e j) [
              | inl t ↦ (s.0 ∙ sym t.0, s.1 ∙ sym t.1)
              | inr b ↦ absurd
                  (apart e j r (there e j r b i) (sym same ∙ ap (λ (x : Place). x.key) (sym (here d m p q is s h))))
            ]
            | inr a ↦ elim (by_place e j) [
              | inl t ↦
                  absurd (apart d m q (there d m q a h) (same ∙ ap (λ (x : Place). x.key) (sym (here e j p r is t i))))
              | inr b ↦ own.one d m e j q r (there d m q a h) (there e j r b i) same
            ]
          ];
          fits = λ d m q x h g. elim (by_place d m) [
            | inl s ↦ let e = here d m p q is s h in
                let same : v ≡ x = conv_eq v x (sym now ∙ ap (λ (y : Place). G2 y.key) e ∙ g) in
                subst (Fits (K2 d).charmaps q) same (subst (λ (y : Place). Fits (K2 d).charmaps y v) e (subst
                (λ (y : Charmaps). Fits y p v) (ap (λ (y : ℕ). (K y).charmaps) (sym s.0) ∙ sym (maps_same d)) fits))
            | inr a ↦ let w = there d m q a h in
                subst (λ (y : Charmaps). Fits y q x) (sym (maps_same d))
                (own.fits d m q x w (sym (others q.key (apart d m q w)) ∙ g))
          ];
        }

    pub closed_world : (p : Place) → o ≡ None → place_at (K c) n ≡ Some p → G2 p.key ≡ None
        → ((k : ℕ) → k ≢ p.key → G2 k ≡ G k) → IsWorld K2 G2
    closed_world p is mine now others =
        let kept : (d m : ℕ) (q : Place) → place_at (K2 d) m ≡ Some q
        → (d ≡ c → m ≡ n → ⊥) = λ d m q h. elim (by_place d m) [
          | inl s ↦ absurd (let bad : None ≡ Some q = sym is ∙ sym (own_place l)
              ∙ ap (λ (x : ℕ). place_at (K2 x) n) (sym s.0) ∙ ap (place_at (K2 d)) (sym s.1) ∙ h in cc)
          | inr a ↦ a
        ] in
        let apart : (d m : ℕ) (q : Place) → place_at (K2 d) m ≡ Some q → q.key ≢ p.key = λ d m q h e.
        let a = kept d m q h in let s = own.one d m c n q p (there d m q a h) mine e in a s.0 s.1 in
        record {
          live = λ d m q h. let w = there d m q (kept d m q h) h in
              rw (others q.key (apart d m q h)) (own.live d m q w);
          owned = λ k h. elim (cases_eq k p.key) [
            | inl e ↦ no_some (rw (e, now) at h)
            | inr a ↦ let was = own.owned k (rw (others k a) at h) in elim (by_place was.0 was.1) [
              | inl s ↦ absurd (a (sym was.4 ∙ ap (λ (x : Place). x.key) (some_eq was.2 p
                  (sym was.3 ∙ ap (λ (x : ℕ). place_at (K x) was.1) s.0 ∙ ap (place_at (K c)) s.1 ∙ mine))))
              | inr b ↦ (was.0, was.1, was.2, other_place was.0 was.1 b ∙ was.3, was.4)
            ]
          ];
          one = λ d m e j q r h i same.
              own.one d m e j q r (there d m q (kept d m q h) h) (there e j r (kept e j r i) i) same;
          fits = λ d m q x h g. subst (λ (y : Charmaps). Fits y q x) (sym (maps_same d))
              (own.fits d m q x (there d m q (kept d m q h) h) (sym (others q.key (apart d m q h)) ∙ g));
        }

-- ---- charmaps

apart_form : (maps : Charmaps) (place : ℕ) (m : Option Charmap) (o : Option ℕ) (e : Encoding) → o ≢ Some place
    → form_in (set maps place m) (named o e) ≡ form_in maps (named o e)
apart_form maps place m None e a = refl
apart_form maps place m (Some q) e a =
    ap (λ (x : Option Charmap). Mapped (pairs_in x)) (get_or-set_other maps place q m None (λ h. a (ap Some h)))

fits_apart : (maps : Charmaps) (place : ℕ) (m : Option Charmap) (p : Place) (v : Conversion) → p.to ≢ Some place
    → p.from ≢ Some place → Fits maps p v → Fits (set maps place m) p v
fits_apart maps place m p v t f h = record {
  to = h.to ∙ sym (apart_form maps place m p.to v.to t);
  from = h.from ∙ sym (apart_form maps place m p.from v.from f);
}

-- no open number refers to a place
abbrev pub Unused : Keyed → ℕ → Type 0
Unused k place = (n : ℕ) (p : Place) → place_at k n ≡ Some p → (p.to ≢ Some place) × (p.from ≢ Some place)

module _ (K K2 : ℕ → Keyed) (c place : ℕ) (m : Option Charmap) (places : (K2 c).places ≡ (K c).places)
    (maps : (K2 c).charmaps ≡ set (K c).charmaps place m) (others : (d : ℕ) → d ≢ c → K2 d ≡ K d) where
  same_place : (d n : ℕ) → place_at (K2 d) n ≡ place_at (K d) n
  same_place d n = elim (cases_eq d c) [
    | inl e ↦ ap (λ (x : ℕ). place_at (K2 x) n) e ∙ ap (λ (ps : List (Option Place)). get_or ps n None) places
        ∙ ap (λ (x : ℕ). place_at (K x) n) (sym e)
    | inr a ↦ ap (λ (k : Keyed). place_at k n) (others d a)
  ]

  pub mapped_world : (G : ℕ → Option Conversion) → Unused (K c) place → IsWorld K G → IsWorld K2 G
  mapped_world G unused own = record {
    live = λ d n p h. own.live d n p (sym (same_place d n) ∙ h);
    owned = λ k h. let was = own.owned k h in (was.0, was.1, was.2, same_place was.0 was.1 ∙ was.3, was.4);
    one = λ d n e j p q h i same. own.one d n e j p q (sym (same_place d n) ∙ h) (sym (same_place e j) ∙ i) same;
    fits = λ d n p v h g.
        let was : Fits (K d).charmaps p v = own.fits d n p v (sym (same_place d n) ∙ h) g in
        elim (cases_eq d c) [
          | inl e ↦
              let u = unused n p (ap (λ (x : ℕ). place_at (K x) n) (sym e) ∙ sym (same_place d n) ∙ h) in
              subst (λ (y : Charmaps). Fits y p v) (sym maps ∙ ap (λ (x : ℕ). (K2 x).charmaps) (sym e))
              (fits_apart (K c).charmaps place m p v u.0 u.1 (subst (λ (x : ℕ). Fits (K x).charmaps p v) e was))
          | inr a ↦ subst (λ (k : Keyed). Fits k.charmaps p v) (sym (others d a)) was
        ];
  }

-- no charmap that is named is at a free place
free_held : (charmaps : Charmaps) (place : ℕ) (o : Option ℕ) → charmap_at charmaps place ≡ None → IsHeld charmaps o
    → o ≢ Some place
free_held charmaps place None free h e = absurd cc
free_held charmaps place (Some q) free h e = absurd (let same : q ≡ place = cc in
    let none : charmap_at charmaps q ≡ None = ap (charmap_at charmaps) same ∙ free in let bad = rw none at h in cc)

-- a free place is unused
pub free_unused : (k : Keyed) (place : ℕ) → ArePlaces k.charmaps k.places → charmap_at k.charmaps place ≡ None
    → Unused k place
free_unused k place are free n p h =
    let held = rw h at (are.held n) in
    (free_held k.charmaps place p.to free held.0, free_held k.charmaps place p.from free held.1)

any_none : {X : Type 0} (f : X → Bool) (xs : List X) (d : X) → f d ≡ false → list_any f xs ≡ false → (n : ℕ)
    → f (get_or xs n d) ≡ false
any_none f [] d h e n = h
any_none f (x ∷ xs) d h e zero = (or_parts (f x) (list_any f xs) e).0
any_none f (x ∷ xs) d h e (suc n) = any_none f xs d h ((or_parts (f x) (list_any f xs) e).1) n

is_place_not : (place : ℕ) (o : Option ℕ) → is_place place o ≡ false → o ≢ Some place
is_place_not place (Some q) h e =
    absurd (let same : q ≡ place = cc in let t = eq-eqb q place same in let bad = sym t ∙ h in cc)
is_place_not place None h e = absurd cc

-- a charmap to which no place refers is unused
pub idle_unused : (k : Keyed) (place : ℕ) → list_any (refers place) k.places ≡ false → Unused k place
idle_unused k place h n p e =
    let r : refers place (Some p) ≡ false = ap (refers place) (sym e)
    ∙ any_none (refers place) k.places None refl h n in
    (is_place_not place p.to ((or_parts _ _ r).0), is_place_not place p.from ((or_parts _ _ r).1))

-- ---- all tables after a change

-- a world stays a world if a conversion's states change
pub written : (K : ℕ → Keyed) (G G2 : ℕ → Option Conversion) (c n : ℕ) (p : Place) (v w : Conversion) → IsWorld K G
    → place_at (K c) n ≡ Some p → G2 p.key ≡ Some w → w.to ≡ v.to → w.from ≡ v.from → w.policy ≡ v.policy
    → ((o : ℕ) → o ≢ p.key → G2 o ≡ G o) → (table_of G2 (K c) ≡ with_descriptor (table_of G (K c)) n
    (Some (record { to = named p.to v.to; from = named p.from v.from; policy = v.policy; states = w.states })))
    × ((d : ℕ) → d ≢ c → table_of G2 (K d) ≡ table_of G (K d))
written K G G2 c n p v w own h is t f y others = (
  written_table G G2 (K c) n p h (λ m q a i. others q.key (λ e. a (own.one c m c n q p i h e).1))
      ∙ rw (is, t, f, y) refl,
  λ d a. kept_table G G2 (K d) (λ m q i. others q.key (λ e. a (own.one d m c n q p i h e).0)),
)

-- a world stays a world if a descriptor is opened
pub opened : (K K2 : ℕ → Keyed) (G G2 : ℕ → Option Conversion) (c n : ℕ) (p : Place) (v : Conversion)
    → SetsKeyed K K2 c (with_place (K c) n (Some p)) → IsWorld K G → G p.key ≡ None → G2 p.key ≡ Some v
    → ((o : ℕ) → o ≢ p.key → G2 o ≡ G o) → (table_of G2 (K2 c) ≡ with_descriptor (table_of G (K c)) n
    (Some (record { to = named p.to v.to; from = named p.from v.from; policy = v.policy; states = v.states })))
    × ((d : ℕ) → d ≢ c → table_of G2 (K2 d) ≡ table_of G (K d))
opened K K2 G G2 c n p v sets own vacant now others =
    let apart : (d m : ℕ) (q : Place) → place_at (K d) m ≡ Some q
    → q.key ≢ p.key = λ d m q h e. no_some (rw (e, vacant) at (own.live d m q h)) in (
      ap (table_of G2) sets.own ∙ changed_table G G2 (K c) n (Some p) (λ m q a i. others q.key (apart c m q i))
          ∙ rw now refl,
      λ d a. ap (table_of G2) (sets.others d a) ∙ kept_table G G2 (K d) (λ m q i. others q.key (apart d m q i)),
    )

-- a world stays a world if a descriptor is closed
pub closed : (K K2 : ℕ → Keyed) (G G2 : ℕ → Option Conversion) (c n : ℕ) (p : Place) → SetsKeyed K K2 c
    (with_place (K c) n None) → IsWorld K G → place_at (K c) n ≡ Some p → ((o : ℕ) → o ≢ p.key → G2 o ≡ G o) → (table_of
    G2 (K2 c) ≡ with_descriptor (table_of G (K c)) n None) × ((d : ℕ) → d ≢ c → table_of G2 (K2 d) ≡ table_of G (K d))
closed K K2 G G2 c n p sets own mine others = (
  ap (table_of G2) sets.own
      ∙ changed_table G G2 (K c) n None (λ m q a i. others q.key (λ e. a (own.one c m c n q p i mine e).1)),
  λ d a. ap (table_of G2) (sets.others d a)
      ∙ kept_table G G2 (K d) (λ m q i. others q.key (λ e. a (own.one d m c n q p i mine e).0)),
)
