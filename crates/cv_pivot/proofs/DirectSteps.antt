-- Converting directly is a step.
use Rattle.std.proofs.Common.{ℕ, ◌+◌, ◌<◌, List, [], ◌∷◌, ◌++◌, length, length-take, take, drop, get_or, refl, sym}
use Rattle.std.proofs.Common.{◌∙◌, ap, arith, append_assoc, suc, inl, inr}
use Rattle.std.specs.Prelude.{◌≡◌, Option, None, Some, MatchOption}
use Rattle.std.specs.List.{flat_map}
use Rattle.std.proofs.lemmas.List.{take_all, get_or-append-add, get_or_append_left, get_or_past}
use Rattle.std.proofs.lemmas.Bool.{cases_lt}
use Rattle.cv_base.specs.Items.{ItemRelation, Begins}
use Rattle.cv_base.specs.Scalars.{AreScalars}
use Rattle.cv_base.specs.SingleBytes.{byte_reads, byte_writes}
use Rattle.cv_base.specs.Chains.{output, output_for}
use Rattle.cv_base.specs.Blocks.{IsWrittenBlock}
use Rattle.cv_base.specs.Places.{IsPut}
use Rattle.cv_base.specs.declared.state.WriteState.TheVariants as write
use Rattle.cv_base.specs.declared.policy.Policy.{Policy}
use Rattle.cv_base.specs.declared.state.ReadState.{ReadState}
use Rattle.cv_base.specs.declared.state.ReadState.TheVariants as read
use Rattle.cv_base.specs.declared.state.WriteState.{WriteState}
use Rattle.cv_base.proofs.AllWritten.{below_written, none_allowed}
use Rattle.cv_base.proofs.BlockLaws.{AreRead, each_byte, read_block_of}
use Rattle.cv_block.specs.StatelessForms.{BytesOf, IsFormWritten}
use Rattle.cv_base.specs.declared.block.WrittenBlock.{WrittenBlock}
use Rattle.cv_block.proofs.FormBlocks.{scalars_read, spelled_written}
use Rattle.cv_transcode.specs.Runs.{IsTranscoded}
use Rattle.cv_transcode.specs.declared.run.Run.{Run}
use Rattle.cv_utf8.specs.Utf8.{utf8_bytes}
use Rattle.cv_utf8.proofs.Utf8Spelled.{utf8_reads_spelled}
use Rattle.cv_pivot.specs.declared.outcome.States.{States}
use Rattle.cv_pivot.specs.Encodings.{Form, form_reads, form_writes}
use Rattle.cv_pivot.specs.Private.Steps.FastPaths.{IsFastStep, IsReadAs, IsWrittenAs, read_bytes, written_bytes}
use Rattle.cv_pivot.specs.Private.Steps.{TakesSome}
use Rattle.cv_pivot.specs.declared.fast_path.FastPath.{FastPath}
use Rattle.cv_pivot.specs.declared.fast_path.ReadForm.{ReadForm}
use Rattle.cv_pivot.specs.declared.fast_path.ReadForm.TheVariants as read_form
use Rattle.cv_pivot.specs.declared.fast_path.WrittenForm.{WrittenForm}
use Rattle.cv_pivot.specs.declared.fast_path.WrittenForm.TheVariants as written_form
use Rattle.cv_pivot.specs.declared.step.Progress.{Progress}
use Rattle.cv_utf16.specs.Utf16.{utf16}
use Rattle.cv_utf16.specs.Utf32.{utf32}
use Rattle.cv_pivot.proofs.BlockSteps.{block_takes}

-- In this state characters at the start of a text read as they are spelled.
abbrev ReadsAll : ItemRelation → ReadState → BytesOf → List ℕ → Type 0
ReadsAll reads s bytes_of rest = (characters : List ℕ) → AreScalars characters
    → Begins (flat_map bytes_of characters) rest → AreRead reads s bytes_of characters

bytes_read : (characters rest : List ℕ) → ((k : ℕ) → get_or rest k 0 < 256)
    → Begins (flat_map (λ c. c ∷ []) characters) rest → AreRead (byte_reads 256) read.Start (λ c. c ∷ []) characters
bytes_read [] rest p h = tt
bytes_read (c ∷ characters) [] p h = absurd h
bytes_read (c ∷ characters) (b ∷ rest) p h =
    ((omega (arith, h.0, p 0), refl), bytes_read characters rest (λ k. p (suc k)) h.1)

reads_all : (form : ReadForm) (from : Form) (s : ReadState) → IsReadAs form from s
    → (rest : List ℕ) → ((k : ℕ) → get_or rest k 0 < 256) → ReadsAll (form_reads from) s (read_bytes form) rest
reads_all read_form.Latin1 from s p rest b = λ characters scalars begins.
    rw (p.0, p.1) (bytes_read characters rest b begins)
reads_all read_form.Utf8 from s p rest b = λ characters scalars begins.
    scalars_read (form_reads from) s utf8_bytes (rw (p.0, p.1) utf8_reads_spelled) characters scalars
reads_all (read_form.Utf16 endian) from s p rest b = λ characters scalars begins.
    scalars_read (form_reads from) s (utf16 endian) (rw p.1 (p.2 utf16)) characters scalars
reads_all (read_form.Utf32 endian) from s p rest b = λ characters scalars begins.
    scalars_read (form_reads from) s (utf32 endian) (rw p.1 (p.2 utf32)) characters scalars

-- characters below 256 are written as the bytes of their numbers
bytes_written : (characters : List ℕ) → ((k : ℕ) → get_or characters k 0 < 256)
    → output_for (byte_writes 256) write.Start characters ≡ output (flat_map (λ c. c ∷ []) characters) 0 write.Start
bytes_written [] h = refl
bytes_written (c ∷ characters) h =
    rw (below_written 256 c (h 0)) (rw (bytes_written characters (λ k. h (suc k))) refl)

-- In this state characters are written as they are spelled, if they are spelled in bytes.
writes_all : (form : WrittenForm) (to : Form) (t : WriteState) → IsWrittenAs form to t
    → (characters before : List ℕ) (at : ℕ) (block : WrittenBlock) (after : List ℕ)
    → ((k : ℕ) → get_or (flat_map (written_bytes form) characters) k 0 < 256)
    → IsFormWritten (written_bytes form) t characters before at block after
    → IsWrittenBlock (form_writes to) t characters before at block after
writes_all written_form.Latin1 to t p characters before at block after b f = rw (p.0, p.1)
    (rw (bytes_written characters (rw (each_byte characters) at b)) (rw p.1 at f))
writes_all written_form.Utf8 to t p characters before at block after b f =
    spelled_written (form_writes to) t utf8_bytes (rw (p.0, p.1) (λ c. refl)) characters before at block after f
writes_all (written_form.Utf16 endian) to t p characters before at block after b f =
    spelled_written (form_writes to) t (utf16 endian) (rw p.1 (p.2 utf16)) characters before at block after f

-- what was put into bytes is bytes
put_bytes : (bytes before : List ℕ) (at n : ℕ) (after : List ℕ) → IsPut bytes before at n after
    → ((k : ℕ) → get_or after k 0 < 256) → (k : ℕ) → get_or bytes k 0 < 256
put_bytes bytes before at n after p b k =
    elim (cases_lt k (length bytes)) [
      | inl h ↦
          let front : List ℕ = take at before in
          let size : length front ≡ at = omega (arith, length-take at before, p.fits) in
          let place : length front + k ≡ at + k = omega (arith, size) in
          let is : get_or after (at + k) 0 ≡ get_or bytes k 0 =
          ap (λ (l : List ℕ). get_or l (at + k) 0) (p.out ∙ append_assoc front bytes (drop (at + n) before))
          ∙ ap (λ (i : ℕ). get_or (front ++ (bytes ++ drop (at + n) before)) i 0) (sym place)
          ∙ get_or-append-add front (bytes ++ drop (at + n) before) k 0
          ∙ get_or_append_left bytes (drop (at + n) before) 0 k h in
          omega (arith, is, b (at + k))
      | inr h ↦ omega (arith, get_or_past bytes k 0 h)
    ]

-- what a loop converted that reads and writes these encodings' forms
fast_takes : (form : ReadForm) (target : WrittenForm) (from to : Form) (policy : Policy) (states : States)
    → IsReadAs form from states.reading → IsWrittenAs target to states.writing
    → (rest before : List ℕ) (at : ℕ) (run : Run) (after : List ℕ) → ((k : ℕ) → get_or rest k 0 < 256)
    → ((k : ℕ) → get_or after k 0 < 256) → 0 < run.used
    → IsTranscoded (read_bytes form) (written_bytes target) rest before at run after
    → TakesSome (form_reads from) (form_writes to) policy states rest before at
    (record { read = run.used; written = run.wrote; replaced = 0 }) states after
fast_takes form target from to policy states r w rest before at run after b out some p =
    let characters : List ℕ = p.characters in
    let n : ℕ = length characters in
    let whole = take_all n characters (omega arith) in
    let bytes_of = read_bytes form in
    let are_read = reads_all form from states.reading r rest b characters p.scalars p.begins in
    let block = read_block_of (form_reads from) states.reading bytes_of rest characters characters n run.used are_read
    p.begins p.uses whole (omega arith) in
    let bytes : List ℕ = flat_map (written_bytes target) characters in
    let written = writes_all target to states.writing w characters before at
    (record { wrote = run.wrote; count = 0; next = states.writing }) after
    (put_bytes bytes before at run.wrote after p.put out) (record { bytes = p.put; counts = refl; next = refl }) in
    let allowed = none_allowed policy _ (sym written.counts) in
    block_takes (form_reads from)
    (form_writes to) policy states rest before at _ characters characters _ after block some (sym whole) allowed written

-- what a step by a loop took, or nothing
pub fast_step_takes : (path : FastPath) (from to : Form) (states : States) → IsReadAs path.from from states.reading
    → IsWrittenAs path.to to states.writing → (rest before : List ℕ) (at : ℕ) (after : List ℕ)
    → ((k : ℕ) → get_or rest k 0 < 256) → ((k : ℕ) → get_or after k 0 < 256) → (result : Option Progress)
    → MatchOption result (after ≡ before) (λ step. IsFastStep path rest before at step after)
    → MatchOption result (after ≡ before) (λ step. (policy : Policy)
    → TakesSome (form_reads from) (form_writes to) policy states rest before at step states after)
fast_step_takes path from to states r w rest before at after b out None h = h
fast_step_takes path from to states r w rest before at after b out (Some step) h = λ policy. rw h.is
    (fast_takes path.from path.to from to policy states r w rest before at h.run after b out h.some h.transcoded)
