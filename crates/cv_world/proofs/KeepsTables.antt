-- A turn leaves a sound table sound.
use Rattle.std.proofs.Common.{◌≡◌, ◌≢◌, ◌<◌, ◌≤◌, ◌⊎◌, inl, inr, ◌+◌, ◌==◌, ℕ, zero, suc, Bool, true, false, List, []}
use Rattle.std.proofs.Common.{◌∷◌, ◌++◌, length, nat_lt, replicate, get_or, set, Option, Some, None, refl, sym, ap}
use Rattle.std.proofs.Common.{subst, ◌∙◌, arith}
use Rattle.std.specs.Prelude.{is_some, is_none, IfSome, if◌then◌else◌}
use Rattle.std.specs.List.{list_any}
use Rattle.std.proofs.lemmas.Bool.{or_parts}
use Rattle.std.proofs.lemmas.Bool.Decides.{nat_tests}
use Rattle.std.proofs.lemmas.List.{length-set}
use Rattle.std.proofs.lemmas.List.Sums.{sum_by-set}
use Rattle.std.proofs.lemmas.List.Quantifiers.{position-Some}
use Rattle.cv_base.specs.declared.policy.Policy.{Policy}
use Rattle.cv_charmap.specs.Maps.{IsMap}
use Rattle.cv_charmap.specs.Meaning.{Charmap}
use Rattle.cv_charmap.proofs.MeaningLaws.{means_maps}
use Rattle.cv_cache.specs.Compiled.{Compiled, Read, Faulty, Lacking, MayCompile}
use Rattle.cv_pivot.specs.Encodings.{Builtin, builtin_of, form_closes}
use Rattle.cv_machine.specs.Machine.{Event, When, IsRun, tables_after, after_all}
use Rattle.cv_caller.specs.Tables.{Charmaps, Table, Named, BuiltIn, Held, Descriptor, empty_table, charmap_at}
use Rattle.cv_caller.specs.Tables.{pairs_in, form_in, named_by, named_of, place_of, has_name, least_place, mappings}
use Rattle.cv_caller.specs.Tables.{least_free, descriptor_at, uses, is_held, with_descriptor, with_charmap, with_part}
use Rattle.cv_caller.specs.Results.{is_taken, is_full}
use Rattle.cv_caller.specs.Limits.{most_mappings, most_part}
use Rattle.cv_caller.proofs.Standing.{at_set, named_there}
use Rattle.cv_world.specs.Actions.{Action, Put, DropMap, Open, Conv, Reset, Close, Bye, Part, Bad}
use Rattle.cv_world.specs.Answers.{most_room}
use Rattle.cv_world.specs.Laws.{IsThere, AreThere, IsSound, KeepsTables, RunsKeepTables}
use Rattle.cv_frame.specs.Ops.{op_put}
use Rattle.cv_world.specs.Requests.{AsksPut, action_of, turn}
use Rattle.cv_world.specs.Turn.{Does, Holds, Puts, Parts, Drops, Binds, Opens, Convs, Resets, Closes, Acts}
use Rattle.cv_world.specs.Worlds.{no_tables}
use Rattle.cv_world.specs.declared.answer.Answer.{Answer}
use Rattle.cv_world.proofs.OtherOps.{not_put}

-- ---- the empty table

-- if all places are free, what is at a place has any property
pub none_standing : {X : Type 0} (P : X → Type 0) (n place : ℕ)
    → IfSome (get_or (let xs : List (Option X) = replicate n None in xs) place None) P
none_standing P zero place = tt
none_standing P (suc n) zero = tt
none_standing P (suc n) (suc place) = none_standing P n place

begins : IsSound empty_table
begins = record {
  is_table = record {
    charmaps = record { places = refl; maps = none_standing (λ charmap. IsMap charmap.pairs) 8; few = omega arith };
    numbers = refl;
    part = omega arith;
  };
  there = none_standing _ 16;
}

-- ---- a part

-- a sound table stays sound with a part that is short enough
with_bytes : (table : Table) → IsSound table → (bytes : List ℕ) → length bytes ≤ most_part
    → IsSound (with_part table bytes)
with_bytes table is bytes few = record {
  is_table = record { charmaps = is.is_table.charmaps; numbers = is.is_table.numbers; part = few };
  there = is.there;
}

-- ---- a descriptor

-- a sound table stays sound with a descriptor whose encodings are there
described : (table : Table) → IsSound table → (number : ℕ) (d : Option Descriptor) → IfSome d (AreThere table.charmaps)
    → IsSound (with_descriptor table number d)
described table is number d there = record {
  is_table = record {
    charmaps = is.is_table.charmaps;
    numbers = length-set table.descriptors number d ∙ is.is_table.numbers;
    part = is.is_table.part;
  };
  there = at_set (λ o. IfSome o (AreThere table.charmaps)) table.descriptors number d is.there there;
}

-- the encoding that a name names is there
found_there : (charmaps : Charmaps) (name : List ℕ) (place : Option ℕ) → place ≡ place_of charmaps name
    → (builtin : Option Builtin) → IfSome (named_by builtin place) (IsThere charmaps)
found_there charmaps name place e (Some builtin) = tt
found_there charmaps name (Some place) e None = named_there charmaps name place e
found_there charmaps name None e None = tt

name_there : (charmaps : Charmaps) (name : List ℕ) → IfSome (named_of charmaps name) (IsThere charmaps)
name_there charmaps name = found_there charmaps name (place_of charmaps name) refl (builtin_of name)

-- ---- charmaps

few_with : (charmaps : Charmaps) (place : ℕ) (charmap : Charmap) → place < length charmaps
    → is_full charmaps (length charmap.pairs) ≡ false → mappings (set charmaps place (Some charmap)) ≤ most_mappings
few_with charmaps place charmap lt room =
    let e = sum_by-set (λ (c : Option Charmap). length (pairs_in c)) charmaps place (Some charmap) None lt in
    let small : nat_lt most_mappings (mappings charmaps + length charmap.pairs) ≡ false = (or_parts _ _ room).0 in
    grind (arith, nat_tests, e, small)

few_without : (charmaps : Charmaps) (place : ℕ) → place < length charmaps → mappings charmaps ≤ most_mappings
    → mappings (set charmaps place None) ≤ most_mappings
few_without charmaps place lt few =
    let e = sum_by-set (λ (c : Option Charmap). length (pairs_in c)) charmaps place None None lt in
    omega (arith, e, few)

-- a charmap that is held stays held if another is put at a place
stays_held : (charmaps : Charmaps) (place : ℕ) (charmap : Charmap) (named : Named) → IsThere charmaps named
    → IsThere (set charmaps place (Some charmap)) named
stays_held charmaps place charmap (BuiltIn builtin) h = tt
stays_held [] place charmap (Held other) h = h
stays_held (c ∷ charmaps) zero charmap (Held zero) h = refl
stays_held (c ∷ charmaps) zero charmap (Held (suc other)) h = h
stays_held (c ∷ charmaps) (suc place) charmap (Held zero) h = h
stays_held (c ∷ charmaps) (suc place) charmap (Held (suc other)) h = stays_held charmaps place charmap (Held other) h

-- a charmap that is held stays held if another place becomes free
stays_other : (charmaps : Charmaps) (place other : ℕ) → (other == place) ≡ false
    → is_some (charmap_at charmaps other) ≡ true → is_some (charmap_at (set charmaps place None) other) ≡ true
stays_other [] place other a h = h
stays_other (c ∷ charmaps) zero zero a h = absurd cc
stays_other (c ∷ charmaps) zero (suc other) a h = h
stays_other (c ∷ charmaps) (suc place) zero a h = h
stays_other (c ∷ charmaps) (suc place) (suc other) a h =
    stays_other charmaps place other (grind (arith, nat_tests, a)) h

stays_unused : (charmaps : Charmaps) (place : ℕ) (named : Named) → is_held place named ≡ false → IsThere charmaps named
    → IsThere (set charmaps place None) named
stays_unused charmaps place (BuiltIn builtin) a h = tt
stays_unused charmaps place (Held other) a h = stays_other charmaps place other a h

all_held : (charmaps : Charmaps) (place : ℕ) (charmap : Charmap) (d : Option Descriptor) → IfSome d (AreThere charmaps)
    → IfSome d (AreThere (set charmaps place (Some charmap)))
all_held charmaps place charmap None h = tt
all_held charmaps place charmap (Some d) h =
    (stays_held charmaps place charmap d.to h.0, stays_held charmaps place charmap d.from h.1)

all_unused : (charmaps : Charmaps) (place : ℕ) (d : Option Descriptor) → uses place d ≡ false
    → IfSome d (AreThere charmaps) → IfSome d (AreThere (set charmaps place None))
all_unused charmaps place None a h = tt
all_unused charmaps place (Some d) a h = (
  stays_unused charmaps place d.to ((or_parts _ _ a).0) h.0,
  stays_unused charmaps place d.from ((or_parts _ _ a).1) h.1,
)

-- if no descriptor uses a charmap, the descriptor of a number does not
pub none_uses : (place : ℕ) (ds : List (Option Descriptor)) → list_any (uses place) ds ≡ false → (number : ℕ)
    → uses place (get_or ds number None) ≡ false
none_uses place [] h number = refl
none_uses place (d ∷ ds) h zero = (or_parts (uses place d) (list_any (uses place) ds) h).0
none_uses place (d ∷ ds) h (suc number) =
    none_uses place ds ((or_parts (uses place d) (list_any (uses place) ds) h).1) number

-- a sound table stays sound with a charmap at a place that was free
with_map : (table : Table) → IsSound table → (place : ℕ) (charmap : Charmap)
    → IsMap charmap.pairs → place < length table.charmaps → is_full table.charmaps (length charmap.pairs) ≡ false
    → IsSound (with_charmap table place (Some charmap))
with_map table is place charmap map lt room = record {
  is_table = record {
    charmaps = record {
      places = length-set table.charmaps place (Some charmap) ∙ is.is_table.charmaps.places;
      maps =
          at_set (λ o. IfSome o (λ c. IsMap c.pairs)) table.charmaps place (Some charmap) is.is_table.charmaps.maps map;
      few = few_with table.charmaps place charmap lt room;
    };
    numbers = is.is_table.numbers;
    part = is.is_table.part;
  };
  there = λ number. all_held table.charmaps place charmap (descriptor_at table number) (is.there number);
}

-- a sound table stays sound without the charmap at a place, if no descriptor uses it
without_map : (table : Table) → IsSound table → (place : ℕ) → place < length table.charmaps
    → list_any (uses place) table.descriptors ≡ false → IsSound (with_charmap table place None)
without_map table is place lt idle = record {
  is_table = record {
    charmaps = record {
      places = length-set table.charmaps place None ∙ is.is_table.charmaps.places;
      maps = at_set (λ o. IfSome o (λ c. IsMap c.pairs)) table.charmaps place None is.is_table.charmaps.maps tt;
      few = few_without table.charmaps place lt is.is_table.charmaps.few;
    };
    numbers = is.is_table.numbers;
    part = is.is_table.part;
  };
  there = λ number. all_unused table.charmaps place (descriptor_at table number)
      (none_uses place table.descriptors idle number) (is.there number);
}

-- ---- by cases

does : (next : Table) (answer : Answer) → IsSound next → (t : Table) (a : Answer) → Does t a next answer → IsSound t
does next answer is t a d = subst IsSound (sym d.0) is

-- what follows in both cases of a test follows
pub by_test : (b : Bool) (A B P : Type 0) → (A → P) → (b ≡ false → B → P) → When b A B → P
by_test true A B P f g h = f h
by_test false A B P f g h = g refl h

-- what follows from each of two alternatives follows from one of them
pub either : (A B P : Type 0) → (A → P) → (B → P) → A ⊎ B → P
either A B P f g h = elim h [ inl x ↦ f x | inr x ↦ g x ]

kept_hold : (table : Table) → IsSound table → (charmap : Charmap) → IsMap charmap.pairs
    → is_full table.charmaps (length charmap.pairs) ≡ false → (place : Option ℕ) → place ≡ least_place table.charmaps
    → (t : Table) (a : Answer) → Holds table charmap place t a → IsSound t
kept_hold table is charmap map room None e t a d = does table _ is t a d
kept_hold table is charmap map room (Some place) e t a d =
    let held : IsSound (with_charmap table place (Some charmap)) =
    with_map table is place charmap map ((position-Some is_none table.charmaps place None (sym e)).0) room in
    either _ _ _ (does _ _ (with_bytes _ held [] (omega arith)) t a) (does table _ is t a) d

kept_put : (table : Table) → IsSound table → (came : Compiled) → ((charmap : Charmap) → came ≡ Read charmap
    → IsMap charmap.pairs) → (t : Table) (a : Answer) → Puts table came t a → IsSound t
kept_put table is Lacking map t a d = does table _ is t a d
kept_put table is (Faulty fault) map t a d = does table _ is t a d
kept_put table is (Read charmap) map t a d =
    by_test (is_taken table.charmaps charmap.name) _ _ _ (does table _ is t a) (λ _.
    by_test (is_full table.charmaps (length charmap.pairs)) _ _ _ (does table _ is t a) (λ room.
    kept_hold table is charmap (map charmap refl) room (least_place table.charmaps) refl t a)) d

short_part : (n : ℕ) → nat_lt most_part n ≡ false → n ≤ most_part
short_part n h = grind (arith, nat_tests, h)

kept_part : (table : Table) → IsSound table → (bytes : List ℕ) (t : Table) (a : Answer) → Parts table bytes t a
    → IsSound t
kept_part table is [] t a d = does _ _ (with_bytes table is [] (omega arith)) t a d
kept_part table is (b ∷ bytes) t a d =
    by_test (nat_lt most_part (length (table.part ++ b ∷ bytes))) _ _ _ (does table _ is t a) (λ few. either _ _ _
    (does _ _ (with_bytes table is (table.part ++ b ∷ bytes) (short_part _ few)) t a) (does table _ is t a)) d

kept_drop : (table : Table) → IsSound table → (name : List ℕ) (place : Option ℕ) → place ≡ place_of table.charmaps name
    → (t : Table) (a : Answer) → Drops table place t a → IsSound t
kept_drop table is name None e t a d = does table _ is t a d
kept_drop table is name (Some place) e t a d =
    by_test (list_any (uses place) table.descriptors) _ _ _ (does table _ is t a) (λ idle. does _ _
    (without_map table is place ((position-Some (has_name name) table.charmaps place None (sym e)).0) idle) t a) d

kept_bind : (table : Table) → IsSound table → (number : ℕ) (policy : Policy) (to from : Option Named)
    → IfSome to (IsThere table.charmaps) → IfSome from (IsThere table.charmaps)
    → (t : Table) (a : Answer) → Binds table number policy to from t a → IsSound t
kept_bind table is number policy (Some to) (Some from) h k t a d =
    either _ _ _ (does _ _ (described table is number (Some _) (h, k)) t a) (does table _ is t a) d
kept_bind table is number policy (Some to) None h k t a d = does table _ is t a d
kept_bind table is number policy None from h k t a d = does table _ is t a d

kept_open : (table : Table) → IsSound table → (number : Option ℕ) (to from : List ℕ) (policy : Policy) (t : Table)
    (a : Answer) → Opens table number to from policy t a → IsSound t
kept_open table is None to from policy t a d = does table _ is t a d
kept_open table is (Some number) to from policy t a d = kept_bind table is number policy (named_of table.charmaps to)
    (named_of table.charmaps from) (name_there table.charmaps to) (name_there table.charmaps from) t a d

kept_conv : (table : Table) → IsSound table → (number : ℕ) (o : Option Descriptor) → IfSome o (AreThere table.charmaps)
    → (room : ℕ) (input : List ℕ) (t : Table) (a : Answer) → Convs table number o room input t a → IsSound t
kept_conv table is number None h room input t a d = does table _ is t a d
kept_conv table is number (Some o) h room input t a d =
    by_test (nat_lt most_room room) _ _ _ (does table _ is t a) (λ _.
    either _ _ _ (λ c. does _ _ (described table is number (Some _) h) t a c.does) (does table _ is t a)) d

kept_reset : (table : Table) → IsSound table → (number : ℕ) (o : Option Descriptor) → IfSome o (AreThere table.charmaps)
    → (room : ℕ) (t : Table) (a : Answer) → Resets table number o room t a → IsSound t
kept_reset table is number None h room t a d = does table _ is t a d
kept_reset table is number (Some o) h room t a d = by_test (nat_lt most_room room) _ _ _ (does table _ is t a)
    (λ _. by_test (room == 0) _ _ _ (does _ _ (described table is number (Some _) h) t a) (λ _. by_test (nat_lt room
    (length (form_closes (form_in table.charmaps o.to) o.states.writing))) _ _ _ (does table _ is t a) (λ _.
    does _ _ (described table is number (Some _) h) t a))) d

kept_close : (table : Table) → IsSound table → (number : ℕ) (o : Option Descriptor) (t : Table) (a : Answer)
    → Closes table number o t a → IsSound t
kept_close table is number None t a d = does table _ is t a d
kept_close table is number (Some o) t a d = does _ _ (described table is number None tt) t a d

kept_act : (table : Table) → IsSound table → (action : Action) → ((charmap : Charmap) → action ≡ Put (Read charmap)
    → IsMap charmap.pairs) → (t : Table) (a : Answer) → Acts table action t a → IsSound t
kept_act table is (Put came) map t a d = kept_put table is came (λ charmap e. map charmap (ap Put e)) t a d
kept_act table is (DropMap name) map t a d = kept_drop table is name (place_of table.charmaps name) refl t a d
kept_act table is (Open to from policy) map t a d = kept_open table is (least_free table) to from policy t a d
kept_act table is (Conv number room input) map t a d =
    kept_conv table is number (descriptor_at table number) (is.there number) room input t a d
kept_act table is (Reset number room) map t a d =
    kept_reset table is number (descriptor_at table number) (is.there number) room t a d
kept_act table is (Close number) map t a d = kept_close table is number (descriptor_at table number) t a d
kept_act table is Bye map t a d = does empty_table _ begins t a d
kept_act table is (Part bytes) map t a d = kept_part table is bytes t a d
kept_act table is Bad map t a d = does table _ is t a d

-- ---- what is put is a charmap

same_put : (charmap : Charmap) (came : Compiled) → Put came ≡ Put (Read charmap) → came ≡ Read charmap
same_put charmap came e = cc

put_map : (t : Bool) (text : List ℕ) (other action : Action) → When t (AsksPut text action) (action ≡ other)
    → ((came : Compiled) → other ≢ Put came) → (charmap : Charmap) → action ≡ Put (Read charmap) → IsMap charmap.pairs
put_map true text other action p never charmap e =
    means_maps text charmap (subst (MayCompile text) (same_put charmap p.charmap (sym p.is ∙ e)) p.may)
put_map false text other action p never charmap e = absurd (never (Read charmap) (sym p ∙ e))

-- A turn leaves a sound table sound.
pub keeps_tables : KeepsTables
keeps_tables = record {
  begins = begins;
  keeps = λ table code body outcome is turned.
      kept_act table is turned.action (put_map (code == op_put) (table.part ++ body)
      (action_of code body) turned.action turned.asks (not_put code body)) outcome.next turned.answer turned.acts;
}

-- ---- runs

sound_if : (b : Bool) (x y : Table) → IsSound x → IsSound y → IsSound (if b then x else y)
sound_if true x y p q = p
sound_if false x y p q = q

kept_run : (tables : ℕ → Table) → ((caller : ℕ) → IsSound (tables caller)) → (events : List (Event Table))
    → IsRun turn tables events → (caller : ℕ) → IsSound (after_all tables events caller)
kept_run tables are [] run caller = are caller
kept_run tables are (e ∷ events) run caller = kept_run (tables_after tables e) (λ q. sound_if (q == e.request.caller)
    e.outcome.next (tables q) (keeps_tables.keeps _ _ _ _ (are e.request.caller) run.0) (are q)) events run.1 caller

-- After each run from empty tables every caller's table is sound.
pub runs_keep_tables : RunsKeepTables
runs_keep_tables = kept_run no_tables (λ _. begins)
