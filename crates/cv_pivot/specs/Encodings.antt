-- The encodings: the built-in ones with their names, and charmaps; what each reads and what it writes.
use Rattle.std.specs.Prelude.{ℕ, List, [], Option, Some, None, codes, if◌then◌else◌}
use Rattle.std.specs.Arc.{arc_value}
use Rattle.cv_base.specs.Items.{ItemRelation}
use Rattle.cv_base.specs.Codecs.{Writing}
use Rattle.cv_base.specs.Names.{is_same_name}
use Rattle.cv_base.specs.SingleBytes.{byte_reads, byte_writes}
use Rattle.cv_base.specs.declared.state.WriteState.{WriteState}
use Rattle.cv_utf16.specs.Orders.{reads_in, writes_in}
use Rattle.cv_utf8.specs.Utf8.{utf8_reads, utf8_writes}
use Rattle.cv_utf16.specs.Utf16.{utf16}
use Rattle.cv_utf16.specs.Utf32.{utf32}
use Rattle.cv_utf7.specs.Utf7.{utf7_reads, utf7_writes, utf7_closes}
use Rattle.cv_utf16.specs.declared.order.Order.{Order}
use Rattle.cv_utf16.specs.declared.order.Order.TheVariants.{Be, Le, Marked}
use Rattle.cv_charmap.specs.Entries.{Pair}
use Rattle.cv_charmap.specs.Maps.{IsMap}
use Rattle.cv_trie.specs.Charmaps.{map_reads, map_writes, map_closes}
use Rattle.cv_pivot.specs.declared.encoding.Encoding.{Encoding}
use Rattle.cv_pivot.specs.declared.encoding.Encoding.TheVariants as encoding

-- The built-in encodings.
pub data Builtin : Type 0 where
  Ascii : Builtin
  Latin1 : Builtin
  Utf8 : Builtin
  Utf16 : (order : Order) → Builtin
  Utf32 : (order : Order) → Builtin
  Utf7 : Builtin

-- The form of an encoding: a built-in encoding, or the list of a charmap.
pub data Form : Type 0 where
  Own : (builtin : Builtin) → Form
  Mapped : (pairs : List Pair) → Form

-- the built-in encoding of a name
unfoldable pub builtin_of : List ℕ → Option Builtin
builtin_of name =
    if is_same_name name (codes "US-ASCII") then Some Ascii else
    if is_same_name name (codes "ISO-8859-1") then Some Latin1 else
    if is_same_name name (codes "UTF-8") then Some Utf8 else
    if is_same_name name (codes "UTF-16") then Some (Utf16 Marked) else
    if is_same_name name (codes "UTF-16BE") then Some (Utf16 Be) else
    if is_same_name name (codes "UTF-16LE") then Some (Utf16 Le) else
    if is_same_name name (codes "UTF-32") then Some (Utf32 Marked) else
    if is_same_name name (codes "UTF-32BE") then Some (Utf32 Be) else
    if is_same_name name (codes "UTF-32LE") then Some (Utf32 Le) else
    if is_same_name name (codes "UTF-7") then Some Utf7 else None

-- what a built-in encoding reads
abbrev pub builtin_reads : Builtin → ItemRelation
builtin_reads Ascii = byte_reads 128
builtin_reads Latin1 = byte_reads 256
builtin_reads Utf8 = utf8_reads
builtin_reads (Utf16 order) = reads_in utf16 order
builtin_reads (Utf32 order) = reads_in utf32 order
builtin_reads Utf7 = utf7_reads

-- what a built-in encoding writes
abbrev pub builtin_writes : Builtin → Writing
builtin_writes Ascii = byte_writes 128
builtin_writes Latin1 = byte_writes 256
builtin_writes Utf8 = utf8_writes
builtin_writes (Utf16 order) = writes_in utf16 order
builtin_writes (Utf32 order) = writes_in utf32 order
builtin_writes Utf7 = utf7_writes

-- what closes a text of a built-in encoding
abbrev pub builtin_closes : Builtin → WriteState → List ℕ
builtin_closes Ascii t = []
builtin_closes Latin1 t = []
builtin_closes Utf8 t = []
builtin_closes (Utf16 order) t = []
builtin_closes (Utf32 order) t = []
builtin_closes Utf7 t = utf7_closes t

-- what a form reads
abbrev pub form_reads : Form → ItemRelation
form_reads (Own builtin) = builtin_reads builtin
form_reads (Mapped pairs) = map_reads pairs

-- what a form writes
abbrev pub form_writes : Form → Writing
form_writes (Own builtin) = builtin_writes builtin
form_writes (Mapped pairs) = map_writes pairs

-- what closes a text of a form
abbrev pub form_closes : Form → WriteState → List ℕ
form_closes (Own builtin) t = builtin_closes builtin t
form_closes (Mapped pairs) t = map_closes t

-- If a form is a list, it is that of a charmap.
abbrev pub IsForm : Form → Type 0
IsForm (Own builtin) = Unit {0}
IsForm (Mapped pairs) = IsMap pairs

-- the form of a value of the program; of a charmap it is the list alone
abbrev pub form_of : Encoding → Form
form_of encoding.Ascii = Own Ascii
form_of encoding.Latin1 = Own Latin1
form_of encoding.Utf8 = Own Utf8
form_of (encoding.Utf16 order) = Own (Utf16 order)
form_of (encoding.Utf32 order) = Own (Utf32 order)
form_of encoding.Utf7 = Own Utf7
form_of (encoding.Charmap map) = Mapped (arc_value map).pairs

-- the value of the program that is a built-in encoding
abbrev pub encoding_of : Builtin → Encoding
encoding_of Ascii = encoding.Ascii
encoding_of Latin1 = encoding.Latin1
encoding_of Utf8 = encoding.Utf8
encoding_of (Utf16 order) = encoding.Utf16 order
encoding_of (Utf32 order) = encoding.Utf32 order
encoding_of Utf7 = encoding.Utf7
