-- Characters that were read by their bytes are a block.
use Rattle.std.proofs.Common.{◌≡◌, ℕ, ◌≤◌, ◌<◌, suc, get_or, get_or-take, length-take, List, [], ◌∷◌, length, take}
use Rattle.std.proofs.Common.{drop, refl, sym, ◌∙◌, ap, arith, Some, length-append, add-zero, append-nil}
use Rattle.std.proofs.Common.{take-append-drop}
use Rattle.std.specs.List.{flat_map}
use Rattle.cv_base.specs.Items.{Taken, taken, ItemRelation, Begins}
use Rattle.cv_base.specs.Chains.{IsChain, used_bytes, read_state, characters_of}
use Rattle.cv_base.specs.Blocks.{IsReadBlock, IsWrittenRun}
use Rattle.cv_base.specs.Codecs.{Writing}
use Rattle.cv_base.specs.declared.ascii_form.AsciiForm.{AsciiForm}
use Rattle.cv_base.specs.declared.state.ReadState.{ReadState}
use Rattle.cv_base.specs.declared.state.WriteState.{WriteState}
use Rattle.cv_base.specs.SingleBytes.{byte_reads}
use Rattle.cv_base.specs.declared.state.ReadState.TheVariants as read
use Rattle.cv_base.proofs.Front.{Begins-front, Begins-back, Begins-take}

-- the items of characters that are spelled
abbrev pub items_for : ReadState → (ℕ → List ℕ) → List ℕ → List Taken
items_for s bytes_of [] = []
items_for s bytes_of (c ∷ characters) = taken (length (bytes_of c)) (Some c) s ∷ items_for s bytes_of characters

-- the bytes of each character read as it, and the state stays
abbrev pub AreRead : ItemRelation → ReadState → (ℕ → List ℕ) → List ℕ → Type 0
AreRead reads s bytes_of [] = Unit {0}
AreRead reads s bytes_of (c ∷ characters) = reads s (bytes_of c) (taken (length (bytes_of c)) (Some c) s)
    × AreRead reads s bytes_of characters

-- characters whose bytes begin a text are a chain
pub chain_for : (reads : ItemRelation) (s : ReadState) (bytes_of : ℕ → List ℕ) (characters text : List ℕ)
    → AreRead reads s bytes_of characters → Begins (flat_map bytes_of characters) text
    → IsChain reads s text (items_for s bytes_of characters)
chain_for reads s bytes_of [] text p q = tt
chain_for reads s bytes_of (c ∷ characters) text p q = (
  record { bytes = bytes_of c; is_item = p.0; front = Begins-front (bytes_of c) (flat_map bytes_of characters) text q },
  chain_for reads s bytes_of characters (drop (length (bytes_of c)) text) p.1
      (Begins-back (bytes_of c) (flat_map bytes_of characters) text q),
)

pub used_for : (s : ReadState) (bytes_of : ℕ → List ℕ) (characters : List ℕ)
    → used_bytes (items_for s bytes_of characters) ≡ length (flat_map bytes_of characters)
used_for s bytes_of [] = refl
used_for s bytes_of (c ∷ characters) =
    omega (arith, used_for s bytes_of characters, length-append (bytes_of c) (flat_map bytes_of characters))

-- after them the state is as before
pub state_for : (s : ReadState) (bytes_of : ℕ → List ℕ) (characters : List ℕ)
    → read_state s (items_for s bytes_of characters) ≡ s
state_for s bytes_of [] = refl
state_for s bytes_of (c ∷ characters) = state_for s bytes_of characters

characters_for : (s : ReadState) (bytes_of : ℕ → List ℕ) (characters : List ℕ)
    → characters_of (items_for s bytes_of characters) ≡ characters
characters_for s bytes_of [] = refl
characters_for s bytes_of (c ∷ characters) = ap (λ (x : List ℕ). c ∷ x) (characters_for s bytes_of characters)

-- characters whose bytes begin a text are a block, once they are in a buffer
pub read_block_of : (reads : ItemRelation) (s : ReadState) (bytes_of : ℕ → List ℕ) (text characters buffer : List ℕ)
    (n used : ℕ) → AreRead reads s bytes_of characters → Begins (flat_map bytes_of characters) text
    → used ≡ length (flat_map bytes_of characters) → take n buffer ≡ characters → n ≤ length buffer
    → IsReadBlock reads s text (record { n = n; used = used; next = s }) buffer
read_block_of reads s bytes_of text characters buffer n used p q e f h = record {
  chain = items_for s bytes_of characters;
  is_chain = chain_for reads s bytes_of characters text p q;
  within = h;
  gives = f ∙ sym (characters_for s bytes_of characters);
  uses = e ∙ sym (used_for s bytes_of characters);
  next = sym (state_for s bytes_of characters);
}

-- no item was read
pub nothing_read : (reads : ItemRelation) (s : ReadState) (text buffer : List ℕ)
    → IsReadBlock reads s text (record { n = 0; used = 0; next = s }) buffer
nothing_read reads s text buffer =
    record { chain = []; is_chain = tt; within = omega arith; gives = refl; uses = refl; next = refl }

-- bytes below a limit are read as the characters of their numbers
pub bytes_are_read : (limit : ℕ) (bytes : List ℕ) → ((k : ℕ) → k < length bytes → get_or bytes k 0 < limit)
    → AreRead (byte_reads limit) read.Start (λ c. c ∷ []) bytes
bytes_are_read limit [] h = tt
bytes_are_read limit (b ∷ bytes) h =
    ((h 0 (omega arith), refl), bytes_are_read limit bytes (λ k l. h (suc k) (omega arith)))

-- the lists of one byte each, joined, are the bytes
pub each_byte : (bytes : List ℕ) → flat_map (λ (c : ℕ). c ∷ []) bytes ≡ bytes
each_byte [] = refl
each_byte (b ∷ bytes) = ap (λ (x : List ℕ). b ∷ x) (each_byte bytes)

-- bytes below the limit at the start of a text are a block, once they are in a buffer
pub bytes_read : (limit n : ℕ) (text buffer : List ℕ) → n ≤ length text → n ≤ length buffer
    → take n buffer ≡ take n text → ((k : ℕ) → k < n → get_or text k 0 < limit)
    → IsReadBlock (byte_reads limit) read.Start text (record { n = n; used = n; next = read.Start }) buffer
bytes_read limit n text buffer h l e below =
    let front : List ℕ = take n text in
    read_block_of (byte_reads limit) read.Start (λ c. c ∷ []) text front buffer n n (bytes_are_read limit front (λ k m.
    rw (get_or-take n text k 0 (omega (arith, length-take n text))) (below k (omega (arith, length-take n text)))))
    (rw (each_byte front) (Begins-take n text)) (rw (each_byte front) (omega (arith, length-take n text))) e l

-- a run of no units is written
pub no_run : (writes : Writing) (t : WriteState) (form : AsciiForm) (text before : List ℕ) (at : ℕ) → at ≤ length before
    → IsWrittenRun writes t form text before at 0 before
no_run writes t form text before at h = record {
  characters = [];
  small = tt;
  stand = tt;
  written = refl;
  put = record { wrote = refl; fits = omega arith; out = rw (add-zero, append-nil) (sym (take-append-drop at before)) };
}
