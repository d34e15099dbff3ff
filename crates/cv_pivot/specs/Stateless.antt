-- Encodings without marks and shifts. A conversion between two of them has no state, so it depends on its own input
-- alone. (POSIX iconv() calls other encodings state-dependent.)
use Rattle.std.specs.Prelude.{◌≡◌, ℕ, List}
use Rattle.cv_base.specs.declared.policy.Policy.{Policy}
use Rattle.cv_utf16.specs.declared.order.Order.{Order}
use Rattle.cv_utf16.specs.declared.order.Order.TheVariants.{Be, Le, Marked}
use Rattle.cv_pivot.specs.Conversions.{start, Converted, IsConverted}
use Rattle.cv_pivot.specs.Encodings.{Builtin, Ascii, Latin1, Utf8, Utf16, Utf32, Utf7, Form, Own, Mapped, form_reads}
use Rattle.cv_pivot.specs.Encodings.{form_writes}

-- The byte order is fixed: no mark gives it.
abbrev pub IsUnmarked : Order → Type 0
IsUnmarked Be = Unit {0}
IsUnmarked Le = Unit {0}
IsUnmarked Marked = ⊥

-- A built-in encoding has neither marks nor shifts.
abbrev pub HasNoStates : Builtin → Type 0
HasNoStates Ascii = Unit {0}
HasNoStates Latin1 = Unit {0}
HasNoStates Utf8 = Unit {0}
HasNoStates (Utf16 order) = IsUnmarked order
HasNoStates (Utf32 order) = IsUnmarked order
HasNoStates Utf7 = ⊥

-- An encoding has neither marks nor shifts: any but UTF-16, UTF-32 and UTF-7.
abbrev pub IsStateless : Form → Type 0
IsStateless (Own builtin) = HasNoStates builtin
IsStateless (Mapped pairs) = Unit {0}

-- A conversion from the start between two stateless encodings ends at the start, whatever the input, the room and the
-- policy. So the next one is from the start too.
abbrev pub StaysAtStart : Type 0
StaysAtStart = (from to : Form) → IsStateless from → IsStateless to → (policy : Policy) (text : List ℕ) (room : ℕ)
    (c : Converted) → IsConverted (form_reads from) (form_writes to) policy start text room c → c.states ≡ start
