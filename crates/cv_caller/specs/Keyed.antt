-- A caller's table as the program keeps it: without the conversions, but with their keys among those of all callers.
use Rattle.std.specs.Prelude.{◌≡◌, ◌==◌, ◌||◌, ◌+◌, ◌≤◌, ℕ, Bool, true, false, List, [], length, map, Option, Some}
use Rattle.std.specs.Prelude.{None, IfSome, option_map, slice_index_or, slice_set, sum_by, replicate, is_some}
use Rattle.std.specs.Option.{option_and_then}
use Rattle.cv_charmap.specs.Meaning.{Charmap}
use Rattle.cv_pivot.specs.Encodings.{Builtin, Ascii, Form, Own, Mapped, form_of}
use Rattle.cv_pivot.specs.declared.conversion.Conversion.{Conversion}
use Rattle.cv_pivot.specs.declared.encoding.Encoding.{Encoding}
use Rattle.cv_caller.specs.Tables.{Named, BuiltIn, Held, Charmaps, Descriptor, Table, charmap_at, form_in, AreCharmaps}
use Rattle.cv_caller.specs.Limits.{most_descriptors, most_charmaps, most_part, caller_bytes, descriptor_bytes}
use Rattle.cv_caller.specs.declared.place.Place.{Place}

-- What contracts see of a caller's table.
pub record Keyed : Type 0 where
  pub charmaps : Charmaps
  pub places : List (Option Place)
  pub part : List ℕ
  -- how many bytes its charmaps count for
  pub bytes : ℕ

-- the empty table: no charmap, no descriptor, no part
abbrev pub no_keys : Keyed
no_keys =
    record { charmaps = replicate most_charmaps None; places = replicate most_descriptors None; part = []; bytes = 0 }

-- what a descriptor number stands for
abbrev pub place_at : Keyed → ℕ → Option Place
place_at keyed number = slice_index_or keyed.places number None

-- the table with this at a descriptor number
abbrev pub with_place : Keyed → ℕ → Option Place → Keyed
with_place keyed number place = record keyed { places = slice_set keyed.places number place }

-- the table with this in a slot; its charmaps then count for `bytes` bytes
abbrev pub keyed_with_charmap : Keyed → ℕ → Option Charmap → ℕ → Keyed
keyed_with_charmap keyed place charmap bytes =
    record keyed { charmaps = slice_set keyed.charmaps place charmap; bytes = bytes }

-- the table with this part
abbrev pub keyed_with_part : Keyed → List ℕ → Keyed
keyed_with_part keyed part = record keyed { part = part }

-- whether the slot is given, and is this one
abbrev pub is_place : ℕ → Option ℕ → Bool
is_place place (Some other) = other == place
is_place place None = false

-- whether a descriptor reads or writes the charmap in a slot
abbrev pub refers : ℕ → Option Place → Bool
refers map (Some place) = is_place map place.to || is_place map place.from
refers map None = false

-- ---- what a table counts for

-- how many bytes a descriptor number counts for
abbrev pub place_bytes : Option Place → ℕ
place_bytes (Some place) = descriptor_bytes
place_bytes None = 0

-- How many bytes a caller counts for: itself, its descriptors, its charmaps and its part.
abbrev pub held_by : Keyed → ℕ
held_by keyed = caller_bytes + sum_by place_bytes keyed.places + keyed.bytes + length keyed.part

-- ---- what holds of every table

-- If a slot is given, it has a charmap.
abbrev pub IsHeld : Charmaps → Option ℕ → Type 0
IsHeld charmaps None = Unit {0}
IsHeld charmaps (Some place) = is_some (charmap_at charmaps place) ≡ true

-- The charmaps that a descriptor writes and reads are held.
abbrev pub AreHeld : Charmaps → Place → Type 0
AreHeld charmaps place = IsHeld charmaps place.to × IsHeld charmaps place.from

-- The descriptors of a table: there are sixteen numbers, and each charmap that a descriptor writes or reads is held.
pub record ArePlaces (charmaps : Charmaps) (places : List (Option Place)) : Type 0 where
  pub numbers : length places ≡ most_descriptors
  pub held : (number : ℕ) → IfSome (slice_index_or places number None) (AreHeld charmaps)

-- A table that the program may have: it is within the limits, and its descriptors' charmaps are held.
pub record IsKeyed (keyed : Keyed) : Type 0 where
  pub charmaps : AreCharmaps keyed.charmaps
  pub places : ArePlaces keyed.charmaps keyed.places
  pub part : length keyed.part ≤ most_part

-- ---- the private table that it stands for

-- the built-in encoding of a form that is one; not used for other forms
abbrev pub own_of : Form → Builtin
own_of (Own builtin) = builtin
own_of (Mapped pairs) = Ascii

-- how a descriptor names an encoding: by the slot of its charmap, if it is one
abbrev pub named : Option ℕ → Encoding → Named
named (Some place) encoding = Held place
named None encoding = BuiltIn (own_of (form_of encoding))

-- a number's descriptor; `conversions` gives the conversion of each key
abbrev pub descriptor_of : (ℕ → Option Conversion) → Place → Option Descriptor
descriptor_of conversions place = option_map
    (λ c. record { to = named place.to c.to; from = named place.from c.from; policy = c.policy; states = c.states })
    (conversions place.key)

-- the private table; `conversions` gives the conversion of each key
abbrev pub table_of : (ℕ → Option Conversion) → Keyed → Table
table_of conversions keyed =
    record {
      charmaps = keyed.charmaps;
      descriptors = map (option_and_then (descriptor_of conversions)) keyed.places;
      part = keyed.part;
    }

-- A conversion has the encodings that the descriptor's place says.
pub record Fits (charmaps : Charmaps) (place : Place) (conversion : Conversion) : Type 0 where
  pub to : form_of conversion.to ≡ form_in charmaps (named place.to conversion.to)
  pub from : form_of conversion.from ≡ form_in charmaps (named place.from conversion.from)
