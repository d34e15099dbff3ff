-- The entries of a mapping line in counting order (XBD 6.4). That `..` counts in hexadecimal is the project's own.
use Rattle.std.specs.Prelude.{ℕ, zero, suc, ◌+◌, ◌-◌, ◌*◌, ◌/◌, ◌%◌, ◌^◌, Bool, not, ◌||◌, List, [], ◌∷◌, ◌++◌, length}
use Rattle.std.specs.Prelude.{map, fold, nat_lt, nat_le, if◌then◌else◌, Result, Ok, Err}
use Rattle.std.specs.List.{range_with_len}
use Rattle.cv_lex.specs.Names.{is_scalar}
use Rattle.cv_lex.specs.Mappings.{Mapping, One, Range}
use Rattle.cv_lex.specs.declared.cause.Cause.{Cause}
use Rattle.cv_lex.specs.declared.cause.Cause.TheVariants.{NotScalar, Length, Carry}

-- bytes, and the character that they encode
abbrev pub Pair : Type 0
Pair = List ℕ × ℕ

-- the number that bytes write, the most significant first
abbrev pub number_of : List ℕ → ℕ
number_of bytes = fold (λ n b. 256 * n + b) 0 bytes

-- a number in `size` bytes, the most significant first
abbrev pub bytes_in : ℕ → ℕ → List ℕ
bytes_in zero n = []
bytes_in (suc size) n = bytes_in size (n / 256) ++ n % 256 ∷ []

-- the number whose hexadecimal digits are the last `digits` decimal digits of a number
abbrev pub reread : ℕ → ℕ → ℕ
reread zero n = 0
reread (suc digits) n = 16 * reread digits (n / 10) + n % 10

-- The character that a number of a range names: the number itself for `..`; for `...` the number that its decimal
-- digits write in hexadecimal, of which a name has eight at most.
abbrev pub range_number : Bool → ℕ → ℕ
range_number hex n = if hex then n else reread 8 n

-- The `i`th entry of a range after the first. Its bytes count up as one number, and are as many as those of the first:
-- a number that does not fit them is at fault.
unfoldable pub entry_at : Bool → ℕ → List ℕ → ℕ → Result Pair Cause
entry_at hex first bytes i =
    let character : ℕ = range_number hex (first + i) in
    let number : ℕ = number_of bytes + i in
    if not (is_scalar character) then Err NotScalar else
    if nat_le (256 ^ length bytes) number then Err Carry else Ok (bytes_in (length bytes) number, character)

-- the entries of a mapping in counting order, each a pair or a cause
abbrev pub entries_of : Mapping → List (Result Pair Cause)
entries_of (One character bytes) = Ok (bytes, character) ∷ []
entries_of (Range first last hex bytes) = map (entry_at hex first bytes) (range_with_len 0 (last + 1 - first))

-- the bytes of a mapping, those of its first character
abbrev pub bytes_of_mapping : Mapping → List ℕ
bytes_of_mapping (One character bytes) = bytes
bytes_of_mapping (Range first last hex bytes) = bytes

-- the entries of a mapping, if it has at least `least` and at most `most` bytes; this is tested first
abbrev pub sized_entries : ℕ → ℕ → Mapping → List (Result Pair Cause)
sized_entries least most mapping =
    let size : ℕ = length (bytes_of_mapping mapping) in
    if nat_lt size least || nat_lt most size then Err Length ∷ [] else entries_of mapping
