-- One caller's private table: the charmaps that it holds, its descriptors by number, and the part of an upload.
use Rattle.std.specs.Prelude.{◌≡◌, ◌==◌, ◌||◌, ◌≤◌, ℕ, Bool, false, List, [], length, sum_by, Option, Some, None}
use Rattle.std.specs.Prelude.{IfSome, option_map, slice_index_or, slice_set, replicate, is_none}
use Rattle.std.specs.List.{position}
use Rattle.cv_base.specs.Names.{is_same_name}
use Rattle.cv_base.specs.declared.policy.Policy.{Policy}
use Rattle.cv_charmap.specs.Entries.{Pair}
use Rattle.cv_charmap.specs.Maps.{IsMap}
use Rattle.cv_charmap.specs.Meaning.{Charmap}
use Rattle.cv_pivot.specs.Encodings.{Builtin, Form, Own, Mapped, builtin_of}
use Rattle.cv_pivot.specs.declared.outcome.States.{States}
use Rattle.cv_caller.specs.Limits.{most_descriptors, most_charmaps, most_mappings, most_part}

-- An encoding of a descriptor: a built-in one, or a charmap that the caller holds, by its slot.
pub data Named : Type 0 where
  BuiltIn : (builtin : Builtin) → Named
  Held : (place : ℕ) → Named

-- What a descriptor has: its two encodings, its policy, and its states between two calls.
pub record Descriptor : Type 0 where
  pub to : Named
  pub from : Named
  pub policy : Policy
  pub states : States

-- charmaps by slot
abbrev pub Charmaps : Type 0
Charmaps = List (Option Charmap)

-- What a caller has: charmaps by slot, descriptors by number, and the part of an upload that was sent so far.
pub record Table : Type 0 where
  pub charmaps : Charmaps
  pub descriptors : List (Option Descriptor)
  pub part : List ℕ

-- no charmap, no descriptor, no part
abbrev pub empty_table : Table
empty_table =
    record { charmaps = replicate most_charmaps None; descriptors = replicate most_descriptors None; part = [] }

-- ---- charmaps

-- the charmap in a slot, if there is one
abbrev pub charmap_at : Charmaps → ℕ → Option Charmap
charmap_at charmaps place = slice_index_or charmaps place None

-- the list of pairs of a charmap; empty for a free slot
abbrev pub pairs_in : Option Charmap → List Pair
pairs_in (Some charmap) = charmap.pairs
pairs_in None = []

-- the form of a descriptor's encoding
abbrev pub form_in : Charmaps → Named → Form
form_in charmaps (BuiltIn builtin) = Own builtin
form_in charmaps (Held place) = Mapped (pairs_in (charmap_at charmaps place))

-- whether there is a charmap and it has this name; ASCII case is ignored
abbrev pub has_name : List ℕ → Option Charmap → Bool
has_name name (Some charmap) = is_same_name charmap.name name
has_name name None = false

-- the slot of the charmap of this name
abbrev pub place_of : Charmaps → List ℕ → Option ℕ
place_of charmaps name = position (has_name name) charmaps

-- a built-in encoding, or else the charmap in a slot
abbrev pub named_by : Option Builtin → Option ℕ → Option Named
named_by (Some builtin) place = Some (BuiltIn builtin)
named_by None place = option_map Held place

-- what a name stands for: a built-in encoding, or else a charmap that is held
abbrev pub named_of : Charmaps → List ℕ → Option Named
named_of charmaps name = named_by (builtin_of name) (place_of charmaps name)

-- the least free slot
abbrev pub least_place : Charmaps → Option ℕ
least_place charmaps = position is_none charmaps

-- how many mappings the charmaps have together
abbrev pub mappings : Charmaps → ℕ
mappings charmaps = sum_by (λ charmap. length (pairs_in charmap)) charmaps

-- ---- descriptors

-- the least free descriptor number
abbrev pub least_free : Table → Option ℕ
least_free table = position is_none table.descriptors

-- the descriptor of a number, if it is open
abbrev pub descriptor_at : Table → ℕ → Option Descriptor
descriptor_at table number = slice_index_or table.descriptors number None

-- whether an encoding is the charmap in this slot
abbrev pub is_held : ℕ → Named → Bool
is_held place (BuiltIn builtin) = false
is_held place (Held other) = other == place

-- whether a descriptor reads or writes the charmap in a slot
abbrev pub uses : ℕ → Option Descriptor → Bool
uses place (Some descriptor) = is_held place descriptor.to || is_held place descriptor.from
uses place None = false

-- ---- changes

-- the table with this at a descriptor number
abbrev pub with_descriptor : Table → ℕ → Option Descriptor → Table
with_descriptor table number descriptor = record table { descriptors = slice_set table.descriptors number descriptor }

-- the table with this in a slot
abbrev pub with_charmap : Table → ℕ → Option Charmap → Table
with_charmap table place charmap = record table { charmaps = slice_set table.charmaps place charmap }

-- the table with this part
abbrev pub with_part : Table → List ℕ → Table
with_part table part = record table { part = part }

-- ---- what holds of every table

-- The charmaps that a caller may hold: eight slots, each free or with the pairs of a charmap, and together at most
-- 262,144 mappings.
pub record AreCharmaps (charmaps : Charmaps) : Type 0 where
  pub places : length charmaps ≡ most_charmaps
  pub maps : (place : ℕ) → IfSome (charmap_at charmaps place) (λ charmap. IsMap charmap.pairs)
  pub few : mappings charmaps ≤ most_mappings

-- A table that a caller may have: it is within the limits.
pub record IsTable (table : Table) : Type 0 where
  pub charmaps : AreCharmaps table.charmaps
  pub numbers : length table.descriptors ≡ most_descriptors
  pub part : length table.part ≤ most_part
