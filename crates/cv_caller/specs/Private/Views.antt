-- What contracts see of uploads and of a table.
use Rattle.std.specs.Prelude.{ℕ, List, [], map, sum_by, Option, Some, None, option_map, slice_index_or}
use Rattle.std.specs.Arc.{arc_value}
use Rattle.std.specs.Global.{Vec, Box}
use Rattle.cv_charmap.specs.Meaning.{Charmap}
use Rattle.cv_caller.specs.Tables.{Charmaps}
use Rattle.cv_caller.specs.Keyed.{Keyed}
use Rattle.cv_caller.specs.Private.Uploaded.{Uploaded, no_uploads}
use Rattle.cv_caller.specs.declared.place.Place.{Place}
use Rattle.cv_caller.specs.declared.store.Store.{Store}
use Rattle.cv_caller.specs.declared.weighed.Weighed.{Weighed}

-- a charmap that is held, whether it is shared or not
abbrev pub weighed_value : Weighed → Charmap
weighed_value held = arc_value held.charmap

-- how many bytes the charmap in a slot counts for; 0 without one
abbrev pub weighed_bytes : Option Weighed → ℕ
weighed_bytes (Some held) = held.bytes
weighed_bytes None = 0

-- charmaps by slot
abbrev pub charmaps_of : List (Option Weighed) → Charmaps
charmaps_of places = map (option_map weighed_value) places

-- the part of an upload; empty without one
abbrev pub part_of : Option (Vec ℕ) → List ℕ
part_of (Some bytes) = bytes.items
part_of None = []

-- what a store has
abbrev pub stored_in : Store → Uploaded
stored_in store = record {
  charmaps = charmaps_of store.charmaps;
  part = part_of store.part;
  bytes = sum_by weighed_bytes store.charmaps;
}

-- uploads, by their storage; without a store there are none
abbrev pub uploaded_of : Option (Box Store) → Uploaded
uploaded_of (Some store) = stored_in store.value
uploaded_of None = no_uploads

-- how many bytes the charmap in a slot counts for; 0 without a store
abbrev pub bytes_at : Option (Box Store) → ℕ → ℕ
bytes_at (Some store) place = weighed_bytes (slice_index_or store.value.charmaps place None)
bytes_at None place = 0

-- a table, by its uploads and what its descriptor numbers stand for
abbrev pub keyed_of : Uploaded → List (Option Place) → Keyed
keyed_of uploaded places =
    record { charmaps = uploaded.charmaps; places = places; part = uploaded.part; bytes = uploaded.bytes }
