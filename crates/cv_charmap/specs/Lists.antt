-- The list of a charmap's pairs, and what is wrong with a pair at its place (the project's own, after XBD 6.4).
use Rattle.std.specs.Prelude.{ℕ, Bool, not, ◌&&◌, ◌||◌, ◌==◌, List, [], ◌∷◌, ◌++◌, length, fold, nat_le, bytes_eq}
use Rattle.std.specs.Prelude.{if◌then◌else◌, Option, Some, None, Result, Ok, Err}
use Rattle.std.specs.List.{list_any}
use Rattle.cv_lex.specs.Words.{begins}
use Rattle.cv_lex.specs.declared.cause.Cause.{Cause}
use Rattle.cv_lex.specs.declared.cause.Cause.TheVariants.{Clash, Prefix, TooMany}
use Rattle.cv_charmap.specs.Entries.{Pair}

-- how many pairs a charmap has at most
abbrev pub most_pairs : ℕ
most_pairs = 262144

-- whether a pair has the same bytes and the same character
abbrev pub repeats : Pair → Pair → Bool
repeats p q = bytes_eq q.0 p.0 && q.1 == p.1

-- whether a pair has the same bytes and another character
abbrev pub clashes : Pair → Pair → Bool
clashes p q = bytes_eq q.0 p.0 && not (q.1 == p.1)

-- whether a pair has other bytes, of which one begins the other
abbrev pub overlaps : Pair → Pair → Bool
overlaps p q = not (bytes_eq q.0 p.0) && (begins q.0 p.0 || begins p.0 q.0)

-- the list with one more pair, unless it is in the list
abbrev pub entered : List Pair → Pair → List Pair
entered all p = if list_any (repeats p) all then all else all ++ p ∷ []

-- pairs with repeats taken out
abbrev pub distinct : List Pair → List Pair
distinct pairs = fold entered [] pairs

-- what is wrong with a pair, by the list of those above it
unfoldable pub pair_cause : List Pair → Pair → Option Cause
pair_cause all p =
    if list_any (clashes p) all then Some Clash else
    if list_any (overlaps p) all then Some Prefix else
    if not (list_any (repeats p) all) && nat_le most_pairs (length all) then Some TooMany else None

-- what is wrong with an entry, by the list of the pairs above it
abbrev pub entry_cause : List Pair → Result Pair Cause → Option Cause
entry_cause all (Ok pair) = pair_cause all pair
entry_cause all (Err cause) = Some cause
