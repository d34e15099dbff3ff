-- What the loops read and write that convert without a buffer of characters.
use Rattle.std.specs.Prelude.{◌≡◌, ◌<◌, ℕ, List, [], ◌∷◌}
use Rattle.cv_base.specs.declared.state.ReadState.{ReadState}
use Rattle.cv_base.specs.declared.state.ReadState.TheVariants as reading
use Rattle.cv_base.specs.declared.state.WriteState.{WriteState}
use Rattle.cv_base.specs.declared.state.WriteState.TheVariants as writing
use Rattle.cv_block.specs.StatelessForms.{BytesOf}
use Rattle.cv_transcode.specs.Runs.{IsTranscoded}
use Rattle.cv_transcode.specs.declared.run.Run.{Run}
use Rattle.cv_utf8.specs.Utf8.{utf8_bytes}
use Rattle.cv_utf16.specs.declared.order.Order.{Order}
use Rattle.cv_utf16.specs.KeptStates.{KeepsReading, KeepsWriting}
use Rattle.cv_utf16.specs.Utf16.{utf16}
use Rattle.cv_utf16.specs.Utf32.{utf32}
use Rattle.cv_pivot.specs.Encodings.{Builtin, Form, Own, Latin1, Utf8, Utf16, Utf32}
use Rattle.cv_pivot.specs.declared.fast_path.FastForm.{FastForm}
use Rattle.cv_pivot.specs.declared.fast_path.FastForm.TheVariants as fast
use Rattle.cv_pivot.specs.declared.fast_path.FastPath.{FastPath}
use Rattle.cv_pivot.specs.declared.fast_path.ReadForm.{ReadForm}
use Rattle.cv_pivot.specs.declared.fast_path.ReadForm.TheVariants as read
use Rattle.cv_pivot.specs.declared.fast_path.WrittenForm.{WrittenForm}
use Rattle.cv_pivot.specs.declared.fast_path.WrittenForm.TheVariants as written
use Rattle.cv_pivot.specs.declared.step.Progress.{Progress}

-- the encoding that a form is of
abbrev pub fast_builtin : FastForm → Builtin
fast_builtin fast.Latin1 = Latin1
fast_builtin fast.Utf8 = Utf8
fast_builtin (fast.Utf16 order) = Utf16 order
fast_builtin (fast.Utf32 order) = Utf32 order

-- the bytes of a character in a form that is read
abbrev pub read_bytes : ReadForm → BytesOf
read_bytes read.Latin1 = λ c. c ∷ []
read_bytes read.Utf8 = utf8_bytes
read_bytes (read.Utf16 endian) = utf16 endian
read_bytes (read.Utf32 endian) = utf32 endian

-- the bytes of a character in a form that is written
abbrev pub written_bytes : WrittenForm → BytesOf
written_bytes written.Latin1 = λ c. c ∷ []
written_bytes written.Utf8 = utf8_bytes
written_bytes (written.Utf16 endian) = utf16 endian

-- In this state an encoding is read in this form, and the state stays.
abbrev pub IsReadAs : ReadForm → Form → ReadState → Type 0
IsReadAs read.Latin1 form s = (form ≡ Own Latin1) × (s ≡ reading.Start)
IsReadAs read.Utf8 form s = (form ≡ Own Utf8) × (s ≡ reading.Start)
IsReadAs (read.Utf16 endian) form s = (order : Order) × (form ≡ Own (Utf16 order)) × KeepsReading order s endian
IsReadAs (read.Utf32 endian) form s = (order : Order) × (form ≡ Own (Utf32 order)) × KeepsReading order s endian

-- In this state an encoding is written in this form, and the state stays.
abbrev pub IsWrittenAs : WrittenForm → Form → WriteState → Type 0
IsWrittenAs written.Latin1 form t = (form ≡ Own Latin1) × (t ≡ writing.Start)
IsWrittenAs written.Utf8 form t = (form ≡ Own Utf8) × (t ≡ writing.Start)
IsWrittenAs (written.Utf16 endian) form t = (order : Order) × (form ≡ Own (Utf16 order)) × KeepsWriting order t endian

-- A loop takes some characters.
pub record IsFastStep (path : FastPath) (rest before : List ℕ) (at : ℕ) (step : Progress)
    (after : List ℕ) : Type 0 where
  pub run : Run
  pub some : 0 < run.used
  pub is : step ≡ record { read = run.used; written = run.wrote; replaced = 0 }
  pub transcoded : IsTranscoded (read_bytes path.from) (written_bytes path.to) rest before at run after
