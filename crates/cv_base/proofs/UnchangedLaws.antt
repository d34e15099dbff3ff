-- Characters that are written as the bytes that they were read by.
use Rattle.std.proofs.Common.{◌≡◌, ℕ, ◌<◌, ◌≤◌, suc, get_or, length-take, List, [], ◌∷◌, length, take, refl, sym, ◌∙◌}
use Rattle.std.proofs.Common.{ap, subst, arith, Some}
use Rattle.std.proofs.lemmas.Bool.{lt-ltb}
use Rattle.std.proofs.lemmas.List.{take_all}
use Rattle.std.specs.List.{flat_map}
use Rattle.cv_base.specs.Items.{ItemRelation, Begins}
use Rattle.cv_base.specs.Codecs.{Writing}
use Rattle.cv_base.specs.Chains.{output, output_of}
use Rattle.cv_base.specs.Blocks.{IsUnchanged}
use Rattle.cv_base.specs.SingleBytes.{byte_reads, byte_writes}
use Rattle.cv_base.specs.declared.state.ReadState.{ReadState}
use Rattle.cv_base.specs.declared.state.ReadState.TheVariants as read
use Rattle.cv_base.specs.declared.state.WriteState.{WriteState}
use Rattle.cv_base.specs.declared.state.WriteState.TheVariants as write
use Rattle.cv_base.proofs.Front.{Begins-take}
use Rattle.cv_base.proofs.BlockLaws.{AreRead, items_for, chain_for, used_for, state_for, bytes_are_read, each_byte}

-- each character is written as its bytes, and the state stays
abbrev pub AreWrittenAs : Writing → WriteState → (ℕ → List ℕ) → List ℕ → Type 0
AreWrittenAs writes t bytes_of [] = Unit {0}
AreWrittenAs writes t bytes_of (c ∷ characters) = (writes t c ≡ Some (bytes_of c, t))
    × AreWrittenAs writes t bytes_of characters

written_back : (writes : Writing) (s : ReadState) (t : WriteState) (bytes_of : ℕ → List ℕ) (characters : List ℕ)
    → AreWrittenAs writes t bytes_of characters
    → output_of writes t (items_for s bytes_of characters) ≡ output (flat_map bytes_of characters) 0 t
written_back writes s t bytes_of [] p = refl
written_back writes s t bytes_of (c ∷ characters) p = rw p.0 (rw (written_back writes s t bytes_of characters p.1) refl)

-- characters whose bytes begin a text, and which are written as these bytes, stay unchanged
pub unchanged_of : (reads : ItemRelation) (writes : Writing) (s : ReadState) (t : WriteState) (bytes_of : ℕ → List ℕ)
    (characters text : List ℕ) (n : ℕ) → AreRead reads s bytes_of characters → AreWrittenAs writes t bytes_of characters
    → flat_map bytes_of characters ≡ take n text → n ≤ length text → IsUnchanged reads writes s t text n
unchanged_of reads writes s t bytes_of characters text n p q e h = record {
  chain = items_for s bytes_of characters;
  is_chain =
      chain_for reads s bytes_of characters text p (subst (λ (x : List ℕ). Begins x text) (sym e) (Begins-take n text));
  within = h;
  uses = omega (arith, used_for s bytes_of characters, ap length e, length-take n text);
  stays = state_for s bytes_of characters;
  output = written_back writes s t bytes_of characters q ∙ ap (λ (x : List ℕ). output x 0 t) e;
}

-- the first 0 bytes of a text stay unchanged
pub none_unchanged : (reads : ItemRelation) (writes : Writing) (s : ReadState) (t : WriteState) (text : List ℕ)
    → IsUnchanged reads writes s t text 0
none_unchanged reads writes s t text =
    record { chain = []; is_chain = tt; within = omega arith; uses = refl; stays = refl; output = refl }

bytes_are_written : (limit : ℕ) (bytes : List ℕ) → ((k : ℕ) → k < length bytes → get_or bytes k 0 < limit)
    → AreWrittenAs (byte_writes limit) write.Start (λ c. c ∷ []) bytes
bytes_are_written limit [] h = tt
bytes_are_written limit (b ∷ bytes) h =
    (rw (lt-ltb b limit (h 0 (omega arith))) refl, bytes_are_written limit bytes (λ k l. h (suc k) (omega arith)))

-- a text of bytes below the limit stays unchanged
pub bytes_unchanged : (limit : ℕ) (text : List ℕ) → ((k : ℕ) → k < length text → get_or text k 0 < limit)
    → IsUnchanged (byte_reads limit) (byte_writes limit) read.Start write.Start text (length text)
bytes_unchanged limit text below =
    unchanged_of (byte_reads limit) (byte_writes limit) read.Start write.Start (λ c. c ∷ []) text text (length text)
    (bytes_are_read limit text below) (bytes_are_written limit text below)
    (each_byte text ∙ sym (take_all (length text) text (omega arith)))
    (omega arith)
