-- Each encoding reads back the texts that it writes.
use Rattle.cv_base.specs.ReadBack.{ReadsBack}
use Rattle.cv_base.proofs.SingleByteLaws.{bytes_back}
use Rattle.cv_utf16.specs.Utf16.{utf16}
use Rattle.cv_utf16.specs.Utf32.{utf32}
use Rattle.cv_utf16.proofs.FormReadBack.{form_reads_back as utf_reads_back}
use Rattle.cv_utf8.proofs.Utf8ReadBack.{utf8_reads_back}
use Rattle.cv_utf7.proofs.ReadBack.{utf7_reads_back}
use Rattle.cv_trie.proofs.MapReadBack.{maps_back}
use Rattle.cv_pivot.specs.Encodings.{Builtin, Ascii, Latin1, Utf8, Utf16, Utf32, Utf7, Form, Own, Mapped}
use Rattle.cv_pivot.specs.Encodings.{builtin_reads, builtin_writes, builtin_closes, form_reads, form_writes}
use Rattle.cv_pivot.specs.Encodings.{form_closes}

builtin_reads_back : (builtin : Builtin)
    → ReadsBack (builtin_reads builtin) (builtin_writes builtin) (builtin_closes builtin)
builtin_reads_back Ascii = bytes_back 128
builtin_reads_back Latin1 = bytes_back 256
builtin_reads_back Utf8 = utf8_reads_back
builtin_reads_back (Utf16 order) = utf_reads_back utf16 order
builtin_reads_back (Utf32 order) = utf_reads_back utf32 order
builtin_reads_back Utf7 = utf7_reads_back

-- each encoding reads back by its own law
pub form_reads_back : (form : Form) → ReadsBack (form_reads form) (form_writes form) (form_closes form)
form_reads_back (Own builtin) = builtin_reads_back builtin
form_reads_back (Mapped pairs) = maps_back pairs
