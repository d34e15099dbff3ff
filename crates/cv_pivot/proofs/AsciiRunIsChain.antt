-- A run of characters below a limit is a chain.
use Rattle.std.proofs.Common.{◌≡◌, ℕ, ◌+◌, ◌*◌, ◌<◌, ◌≤◌, List, [], ◌∷◌, ◌++◌, length, take, drop, refl, sym, ◌∙◌, ap}
use Rattle.std.proofs.Common.{arith, zero, suc, Some, length-append, add-zero, append-nil, take-append-drop}
use Rattle.std.specs.Prelude.{MatchOption}
use Rattle.std.proofs.lemmas.Nat.{mul-le}
use Rattle.std.proofs.Math.Nat.{mul-suc, mul-zero}
use Rattle.cv_base.specs.Items.{Taken, taken, ItemRelation, Begins}
use Rattle.cv_base.specs.Codecs.{Writing}
use Rattle.cv_base.specs.Ascii.{AreBelow, ReadsAscii, ReadsBelow, WritesBelow}
use Rattle.cv_base.specs.Blocks.{IsWrittenRun}
use Rattle.cv_base.specs.Places.{IsPut}
use Rattle.cv_base.specs.Units.{unit_of, unit_size}
use Rattle.cv_base.specs.declared.ascii_form.AsciiForm.{AsciiForm}
use Rattle.cv_base.specs.declared.ascii_form.AsciiForm.TheVariants.{Byte}
use Rattle.cv_base.specs.declared.policy.Policy.{Policy}
use Rattle.cv_base.specs.declared.state.ReadState.{ReadState}
use Rattle.cv_base.specs.declared.state.WriteState.{WriteState}
use Rattle.cv_base.proofs.Front.{Begins-front, Begins-back, Begins-length}
use Rattle.cv_pivot.specs.declared.outcome.States.{States}
use Rattle.cv_base.specs.Chains.{IsChain, used_bytes, read_state, characters_of, Output, output, output_of, output_for}
use Rattle.cv_block.specs.AsciiRuns.{bytes_of_units, IsRunBelow, characters_in}
use Rattle.cv_pivot.specs.Private.Steps.{TakesSome, run_progress}
use Rattle.cv_base.proofs.AllWritten.{none_allowed}
use Rattle.cv_base.proofs.ChainLaws.{output_of_characters}
use Rattle.cv_block.proofs.UnitBytes.{length-unit_of, some_bytes}
use Rattle.cv_block.proofs.AsciiRuns.{length-run, run_is_below, run_begins}

-- the items of a run
run_items : ReadState → AsciiForm → List ℕ → List Taken
run_items s form [] = []
run_items s form (c ∷ characters) = taken (unit_size form) (Some c) s ∷ run_items s form characters

run_chain : (limit : ℕ) (reads : ItemRelation) (s : ReadState) (form : AsciiForm) → ReadsBelow limit reads s form
    → (characters text : List ℕ) → AreBelow limit characters → Begins (bytes_of_units form characters) text
    → IsChain reads s text (run_items s form characters)
unfolding run_items
run_chain limit reads s form r [] text p q = tt
run_chain limit reads s form r (c ∷ characters) text p q =
    let back : Begins (bytes_of_units form characters) (drop (unit_size form) text) =
    rw length-unit_of at (Begins-back (unit_of form c) (bytes_of_units form characters) text q) in (
      record {
        bytes = unit_of form c;
        is_item = r c p.0;
        front = Begins-front (unit_of form c) (bytes_of_units form characters) text q;
      },
      run_chain limit reads s form r characters (drop (unit_size form) text) p.1 back,
    )

run_used : (s : ReadState) (form : AsciiForm) (characters : List ℕ)
    → used_bytes (run_items s form characters) ≡ length (bytes_of_units form characters)
unfolding run_items
run_used s form [] = refl
run_used s form (c ∷ characters) = omega (
  arith,
  run_used s form characters,
  length-unit_of form c,
  length-append (unit_of form c) (bytes_of_units form characters),
)

run_state : (s : ReadState) (form : AsciiForm) (characters : List ℕ) → read_state s (run_items s form characters) ≡ s
unfolding run_items
run_state s form [] = refl
run_state s form (c ∷ characters) = run_state s form characters

run_output : (limit : ℕ) (writes : Writing) (t : WriteState) (target : AsciiForm)
    → WritesBelow limit writes t target → (characters : List ℕ) → AreBelow limit characters
    → output_for writes t characters ≡ output (bytes_of_units target characters) 0 t
run_output limit writes t target w [] p = refl
run_output limit writes t target w (c ∷ characters) p =
    rw (w c p.0) (rw (run_output limit writes t target w characters p.1) refl)

run_characters : (s : ReadState) (form : AsciiForm) (characters : List ℕ)
    → characters_of (run_items s form characters) ≡ characters
unfolding run_items
run_characters s form [] = refl
run_characters s form (c ∷ characters) = ap (λ (x : List ℕ). c ∷ x) (run_characters s form characters)

-- characters that are in one form in the text, and were put as the bytes as which they are written, are a chain
pub run_takes : (limit : ℕ) (reads : ItemRelation) (writes : Writing) (policy : Policy) (from : States)
    (rest before : List ℕ) (at : ℕ) (form : AsciiForm) (characters bytes : List ℕ) (after : List ℕ) → ReadsBelow limit
    reads from.reading form → output_for writes from.writing characters ≡ output bytes 0 from.writing → AreBelow limit
    characters → Begins (bytes_of_units form characters) rest → 0 < length (bytes_of_units form characters)
    → at + length bytes ≤ length before → after ≡ take at before ++ bytes ++ drop (at + length bytes) before
    → TakesSome reads writes policy from rest before
    at (record { read = length (bytes_of_units form characters); written = length bytes; replaced = 0 }) from after
run_takes limit reads writes policy from rest before at form characters bytes after r w small front some fits put =
    let items = run_items from.reading form characters in
    let o : output_of writes from.writing items ≡ output bytes 0 from.writing = output_of_characters writes from.writing
    items ∙ ap (output_for writes from.writing) (run_characters from.reading form characters) ∙ w in
    record {
      some = some;
      takes = record {
        chain = items;
        is_chain = run_chain limit reads from.reading form r characters rest small front;
        allowed = none_allowed policy (output_of writes from.writing items) (ap (λ x. x.count) o);
        uses = sym (run_used from.reading form characters);
        reading = sym (run_state from.reading form characters);
        counts = sym (ap (λ x. x.count) o);
        writing = sym (ap (λ x. x.next) o);
        writes_bytes = sym (ap (λ x. length x.bytes) o);
        fits = fits;
        out = put ∙ ap (λ (x : Output). take at before ++ x.bytes ++ drop (at + length bytes) before) (sym o);
      };
    }

-- a run of units whose characters were put in another form is a chain
pub units_take : (limit : ℕ) → limit ≤ 0x100 → (reads : ItemRelation) (writes : Writing)
    (policy : Policy) (from : States) (rest before : List ℕ) (at n : ℕ) (form target : AsciiForm) (after : List ℕ)
    → ReadsBelow limit reads from.reading form → WritesBelow limit writes from.writing target
    → 0 < n → unit_size form * n ≤ length rest → at + unit_size target * n ≤ length before
    → IsRunBelow limit form rest n → after ≡ take at before ++ bytes_of_units target (characters_in form rest n)
    ++ drop (at + unit_size target * n) before → TakesSome reads writes policy from rest before
    at (record { read = unit_size form * n; written = unit_size target * n; replaced = 0 }) from after
units_take limit few reads writes policy from rest before at n form target after r w some within fits small put =
    let characters = characters_in form rest n in
    let a : length (bytes_of_units form characters) ≡ unit_size form * n = length-run form form rest n in
    let b : length (bytes_of_units target characters) ≡ unit_size target * n = length-run form target rest n in
    let more : 1 * 1 ≤ unit_size form * n = mul-le 1 1 (unit_size form) n (some_bytes form) some in
    let below = run_is_below limit few form rest n small in
    rw (a, b) at (run_takes limit reads writes policy from rest before at form characters
    (bytes_of_units target characters) after r (run_output limit writes from.writing target w characters below) below
    (run_begins limit few form rest n within small) (omega arith) (omega arith) (put ∙ rw b refl))

-- the result of a run, if there is one
pub units_taken : (limit : ℕ) → limit ≤ 0x100 → (reads : ItemRelation) (writes : Writing)
    (from : States) (rest before : List ℕ) (at : ℕ) (form target : AsciiForm) (after : List ℕ) (n : ℕ)
    → ReadsBelow limit reads from.reading form → WritesBelow limit writes from.writing target
    → unit_size form * n ≤ length rest → at + unit_size target * n ≤ length before → IsRunBelow limit form rest n
    → (n ≡ 0 → after ≡ before) → after ≡ take at before ++ bytes_of_units target (characters_in form rest n)
    ++ drop (at + unit_size target * n) before → MatchOption (run_progress form target n) (after ≡ before)
    (λ step. (policy : Policy) → TakesSome reads writes policy from rest before at step from after)
units_taken limit few reads writes from rest before at form target after zero r w within fits small none put = none refl
units_taken limit few reads writes from rest before at form target after (suc n) r w within fits small none put =
    λ policy. units_take limit few reads writes policy from rest before at (suc n) form target after r w
    (omega arith) within fits small put

-- how many bytes the units of characters have
length-units : (form : AsciiForm) (characters : List ℕ)
    → length (bytes_of_units form characters) ≡ unit_size form * length characters
length-units form [] = sym (mul-zero (unit_size form))
length-units form (c ∷ characters) = omega (
  arith,
  length-append (unit_of form c) (bytes_of_units form characters),
  length-unit_of form c,
  length-units form characters,
  mul-suc (unit_size form) (length characters),
)

-- a run that was written as bytes is within the text
pub run_within : (writes : Writing) (t : WriteState) (form : AsciiForm) (rest before : List ℕ) (at n : ℕ)
    (after : List ℕ) → IsWrittenRun writes t form rest before at n after → unit_size form * n ≤ length rest
run_within writes t form rest before at n after p =
    let long : length (bytes_of_units form p.characters) ≡ unit_size form * n = length-units form p.characters
    ∙ ap (λ (k : ℕ). unit_size form * k) (sym p.put.wrote) in
    omega (arith, long, Begins-length (bytes_of_units form p.characters) rest p.stand)

nothing_put : (bytes before : List ℕ) (at : ℕ) (after : List ℕ) → IsPut bytes before at 0 after → after ≡ before
nothing_put [] before at after p = p.out ∙ rw (add-zero, append-nil) (take-append-drop at before)
nothing_put (b ∷ bytes) before at after p = absurd (omega (arith, p.wrote))

-- the result of a run that is written as bytes, if there is one
pub bytes_taken : (reads : ItemRelation) (writes : Writing) (from : States) (rest before : List ℕ) (at : ℕ)
    (form : AsciiForm) (n : ℕ) (after : List ℕ) → ReadsAscii reads from.reading form → IsWrittenRun writes from.writing
    form rest before at n after → MatchOption (run_progress form Byte n) (after ≡ before) (λ step. (policy : Policy)
    → TakesSome reads writes policy from rest before at step from after)
bytes_taken reads writes from rest before at form zero after r p = nothing_put p.characters before at after p.put
bytes_taken reads writes from rest before at form (suc n) after r p =
    λ policy.
    let a : length (bytes_of_units form p.characters) ≡ unit_size form * suc n = length-units form p.characters
    ∙ ap (λ (k : ℕ). unit_size form * k) (sym p.put.wrote) in
    let b : length p.characters ≡ unit_size Byte * suc n = omega (arith, p.put.wrote) in
    let end : at + suc n ≡ at + length p.characters = omega (arith, p.put.wrote) in
    let more : 1 * 1 ≤ unit_size form * suc n = mul-le 1 1 (unit_size form) (suc n) (some_bytes form) (omega arith) in
    rw (a, b) at (run_takes 128 reads writes policy from rest before at form p.characters p.characters after r p.written
    p.small p.stand (omega (arith, a)) (omega (arith, p.put.fits, p.put.wrote)) (rw end at p.put.out))
