-- The results of the calls on a caller's table. Refusals have a fixed order.
use Rattle.std.specs.Prelude.{◌≡◌, ◌||◌, ◌+◌, ◌-◌, ◌*◌, ◌^◌, ◌<◌, ◌≤◌, ℕ, Bool, true, false, List, [], ◌∷◌, ◌++◌}
use Rattle.std.specs.Prelude.{length, Some, None, Result, Ok, Err, nat_lt, min, is_some, is_none}
use Rattle.std.specs.List.{list_any}
use Rattle.cv_charmap.specs.Meaning.{Charmap}
use Rattle.cv_pivot.specs.Encodings.{Own, form_of}
use Rattle.cv_caller.specs.Tables.{Charmaps, Named, BuiltIn, Held, charmap_at, named_of, place_of, least_place}
use Rattle.cv_caller.specs.Tables.{mappings}
use Rattle.cv_caller.specs.Keyed.{Keyed, own_of, refers, keyed_with_charmap, keyed_with_part}
use Rattle.cv_caller.specs.Limits.{most_mappings, most_part}
use Rattle.cv_caller.specs.declared.faults.AddFault.{AddFault}
use Rattle.cv_caller.specs.declared.faults.AddFault.TheVariants as add
use Rattle.cv_caller.specs.declared.faults.DropFault.{DropFault}
use Rattle.cv_caller.specs.declared.faults.DropFault.TheVariants as drop
use Rattle.cv_caller.specs.declared.faults.PartFault.{PartFault}
use Rattle.cv_caller.specs.declared.faults.PartFault.TheVariants as part
use Rattle.cv_caller.specs.declared.place.Found.{Found}
use Rattle.cv_caller.specs.declared.place.Found.TheVariants as found

-- ---- names

-- what a name was found to be, as a descriptor names it
abbrev pub named_found : Found → Named
named_found (found.Builtin encoding) = BuiltIn (own_of (form_of encoding))
named_found (found.Map place) = Held place

-- What was found is a built-in encoding, or a slot that has a charmap.
abbrev pub IsFound : Charmaps → Found → Type 0
IsFound charmaps (found.Builtin encoding) = form_of encoding ≡ Own (own_of (form_of encoding))
IsFound charmaps (found.Map place) = is_some (charmap_at charmaps place) ≡ true

-- ---- adding and dropping charmaps

-- whether a name is that of a built-in encoding, or of a charmap that is held
abbrev pub is_taken : Charmaps → List ℕ → Bool
is_taken charmaps name = is_some (named_of charmaps name)

-- whether `more` further mappings are too many, or no slot is free
abbrev pub is_full : Charmaps → ℕ → Bool
is_full charmaps more = nat_lt most_mappings (mappings charmaps + more) || is_none (least_place charmaps)

-- The fewest bytes that a charmap counts for: 16 for each mapping, at most 2^32 - 1.
abbrev pub least_bytes : Charmap → ℕ
least_bytes charmap = min (16 * length charmap.pairs) (2 ^ 32 - 1)

-- The result of adding a charmap: it is in the least slot that was free, and its bytes are counted. Or it was refused,
-- and nothing changed.
abbrev pub IsAdded : Keyed → Charmap → Result ℕ AddFault → Keyed → Type 0
IsAdded old charmap (Ok bytes) new = (is_taken old.charmaps charmap.name ≡ false)
    × (is_full old.charmaps (length charmap.pairs) ≡ false) × (place : ℕ) × (least_place old.charmaps ≡ Some place)
    × (new ≡ keyed_with_charmap old place (Some charmap) (old.bytes + bytes)) × (least_bytes charmap ≤ bytes)
IsAdded old charmap (Err add.Exists) new = (is_taken old.charmaps charmap.name ≡ true) × (new ≡ old)
IsAdded old charmap (Err add.Quota) new =
    (is_taken old.charmaps charmap.name ≡ false) × (is_full old.charmaps (length charmap.pairs) ≡ true) × (new ≡ old)
IsAdded old charmap (Err add.Full) new =
    (is_taken old.charmaps charmap.name ≡ false) × (is_full old.charmaps (length charmap.pairs) ≡ false) × (new ≡ old)
IsAdded old charmap (Err add.Memory) new =
    (is_taken old.charmaps charmap.name ≡ false) × (is_full old.charmaps (length charmap.pairs) ≡ false) × (new ≡ old)

-- The result of dropping a charmap: its slot is free, and its bytes are no longer counted. Or the call was refused, and
-- nothing changed.
abbrev pub IsDropped : Keyed → List ℕ → Result ℕ DropFault → Keyed → Type 0
IsDropped old name (Ok bytes) new =
    (place : ℕ) × (place_of old.charmaps name ≡ Some place) × (list_any (refers place) old.places ≡ false)
    × (new ≡ keyed_with_charmap old place None new.bytes) × (new.bytes + bytes ≡ old.bytes)
IsDropped old name (Err drop.NoName) new = (place_of old.charmaps name ≡ None) × (new ≡ old)
IsDropped old name (Err drop.Busy) new =
    (place : ℕ) × (place_of old.charmaps name ≡ Some place) × (list_any (refers place) old.places ≡ true) × (new ≡ old)

-- ---- the part of an upload

-- The result of appending bytes to the part: they are there, and the answer is how many bytes the part has. Or they
-- were refused, and nothing changed.
abbrev pub IsAppended : Keyed → List ℕ → Result ℕ PartFault → Keyed → Type 0
IsAppended old bytes (Ok count) new = (length (old.part ++ bytes) ≤ most_part) × (count ≡ length (old.part ++ bytes))
    × (new ≡ keyed_with_part old (old.part ++ bytes))
IsAppended old bytes (Err part.Quota) new = (most_part < length (old.part ++ bytes)) × (new ≡ old)
IsAppended old bytes (Err part.Full) new = (length (old.part ++ bytes) ≤ most_part) × (new ≡ old)
IsAppended old bytes (Err part.Memory) new = (length (old.part ++ bytes) ≤ most_part) × (new ≡ old)

-- The result of sending a part. An empty one drops what was sent so far.
abbrev pub IsPart : Keyed → List ℕ → Result ℕ PartFault → Keyed → Type 0
IsPart old [] result new = (result ≡ Ok 0) × (new ≡ keyed_with_part old [])
IsPart old (byte ∷ bytes) result new = IsAppended old (byte ∷ bytes) result new
