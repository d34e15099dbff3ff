-- An encoding satisfies the laws of codecs.
use Rattle.std.proofs.Common.{refl}
use Rattle.cv_base.specs.Codecs.{IsReadable, CanSubstitute}
use Rattle.cv_base.proofs.SingleByteLaws.{byte_readable}
use Rattle.cv_utf16.proofs.FormsInOrder.{in_readable, in_substitutable}
use Rattle.cv_utf8.proofs.Utf8Laws.{utf8_readable}
use Rattle.cv_utf16.specs.Utf16.{utf16}
use Rattle.cv_utf16.proofs.Utf16Form.{utf16_is_form}
use Rattle.cv_utf16.specs.Utf32.{utf32}
use Rattle.cv_utf16.proofs.Utf32Form.{utf32_is_form}
use Rattle.cv_utf7.proofs.OneItem.{utf7_readable, utf7_substitutable}
use Rattle.cv_trie.proofs.MapLaws.{map_readable, map_substitutes}
use Rattle.cv_pivot.specs.Encodings.{Builtin, Ascii, Latin1, Utf8, Utf16, Utf32, Utf7, Form, Own, Mapped, IsForm}
use Rattle.cv_pivot.specs.Encodings.{builtin_reads, builtin_writes, form_reads, form_writes}

builtin_readable : (builtin : Builtin) → IsReadable (builtin_reads builtin)
builtin_readable Ascii = byte_readable 128
builtin_readable Latin1 = byte_readable 256
builtin_readable Utf8 = utf8_readable
builtin_readable (Utf16 order) = in_readable utf16 utf16_is_form order
builtin_readable (Utf32 order) = in_readable utf32 utf32_is_form order
builtin_readable Utf7 = utf7_readable

builtin_substitutable : (builtin : Builtin) → CanSubstitute (builtin_writes builtin)
builtin_substitutable Ascii t = refl
builtin_substitutable Latin1 t = refl
builtin_substitutable Utf8 t = refl
builtin_substitutable (Utf16 order) t = in_substitutable utf16 order t
builtin_substitutable (Utf32 order) t = in_substitutable utf32 order t
builtin_substitutable Utf7 t = utf7_substitutable t

-- each encoding is readable
pub form_readable : (form : Form) → IsForm form → IsReadable (form_reads form)
form_readable (Own builtin) is = builtin_readable builtin
form_readable (Mapped pairs) is = map_readable pairs is

-- each encoding can write `?`
pub form_substitutable : (form : Form) → IsForm form → CanSubstitute (form_writes form)
form_substitutable (Own builtin) is = builtin_substitutable builtin
form_substitutable (Mapped pairs) is = map_substitutes pairs is
