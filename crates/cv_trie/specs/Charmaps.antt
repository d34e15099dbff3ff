-- A charmap as an encoding, by its list of pairs (POSIX XBD 6.4, character set description file).
use Rattle.std.specs.Prelude.{◌≡◌, ◌==◌, ℕ, List, [], length, Contains, Some, option_map}
use Rattle.std.specs.List.{find}
use Rattle.cv_base.specs.Items.{taken, ItemRelation}
use Rattle.cv_base.specs.Codecs.{Writing}
use Rattle.cv_base.specs.declared.state.ReadState.TheVariants as read
use Rattle.cv_base.specs.declared.state.WriteState.{WriteState}
use Rattle.cv_base.specs.declared.state.WriteState.TheVariants as write
use Rattle.cv_charmap.specs.Entries.{Pair}

-- The bytes of a pair of the list read as its character, whatever the state. The state after it is the start.
abbrev pub map_reads : List Pair → ItemRelation
map_reads pairs s bytes item =
    (character : ℕ) × Contains pairs (bytes, character) × (item ≡ taken (length bytes) (Some character) read.Start)

-- what is written for a pair: its bytes, after which the state is the start
abbrev pub as_written : Pair → List ℕ × WriteState
as_written pair = (pair.0, write.Start)

-- A character is written as the bytes of its first pair, whatever the state.
abbrev pub map_writes : List Pair → Writing
map_writes pairs t character = option_map as_written (find (λ pair. pair.1 == character) pairs)

-- no bytes close a text
abbrev pub map_closes : WriteState → List ℕ
map_closes t = []
