-- A prefix of a text that is characters, and which stays if they are written as they were read.
use Rattle.std.proofs.Common.{◌≡◌, ℕ, ◌+◌, ◌*◌, List, [], ◌∷◌, ◌++◌, length, take, drop, refl, sym, ◌∙◌, ap, arith}
use Rattle.std.proofs.Common.{length-append}
use Rattle.std.proofs.lemmas.List.{take_all}
use Rattle.std.proofs.lemmas.List.Concat.{flat_map-append}
use Rattle.std.specs.List.{flat_map}
use Rattle.cv_base.specs.Items.{ItemRelation, Begins}
use Rattle.cv_base.specs.Codecs.{Writing}
use Rattle.cv_base.specs.Blocks.{IsUnchanged}
use Rattle.cv_base.specs.Units.{unit_size}
use Rattle.cv_base.specs.declared.ascii_form.AsciiForm.{AsciiForm}
use Rattle.cv_base.specs.declared.state.ReadState.{ReadState}
use Rattle.cv_base.specs.declared.state.WriteState.{WriteState}
use Rattle.cv_base.proofs.Front.{Begins-join, Begins-length}
use Rattle.cv_base.proofs.UnchangedLaws.{AreWrittenAs, unchanged_of}
use Rattle.cv_block.specs.StatelessForms.{BytesOf, IsFormPrefix}
use Rattle.cv_block.specs.Units.{AreUnits, AreScalarsBelow, HasUnits}
use Rattle.cv_block.proofs.FormBlocks.{ReadsForm, WritesForm, scalars_read}
use Rattle.cv_block.proofs.FormRuns.{AreScalars-append}
use Rattle.cv_block.proofs.UnitRuns.{begun, all_scalars}

-- what begins a text is its prefix
begins_is_front : (a text : List ℕ) → Begins a text → a ≡ take (length a) text
begins_is_front [] text p = refl
begins_is_front (x ∷ a) [] p = absurd p
begins_is_front (x ∷ a) (t ∷ text) p = cc (p.0, begins_is_front a text p.1)

-- at first the prefix has no characters
pub none_spelled : (bytes_of : BytesOf) (text : List ℕ) → IsFormPrefix bytes_of text 0
none_spelled bytes_of text = record { characters = []; scalars = tt; begins = tt; uses = refl }

-- a prefix of characters, and more after it, is one
pub front_more : (bytes_of : BytesOf) (text : List ℕ) (n k : ℕ) → IsFormPrefix bytes_of text n
    → IsFormPrefix bytes_of (drop n text) k → IsFormPrefix bytes_of text (n + k)
front_more bytes_of text n k p q =
    let all : flat_map bytes_of (p.characters ++ q.characters) ≡ flat_map bytes_of p.characters
    ++ flat_map bytes_of q.characters = flat_map-append bytes_of p.characters q.characters in
    record {
      characters = p.characters ++ q.characters;
      scalars = AreScalars-append p.characters q.characters p.scalars q.scalars;
      begins = rw all (Begins-join (flat_map bytes_of p.characters) (flat_map bytes_of q.characters) text p.begins
          (rw p.uses at q.begins));
      uses = rw all (omega
          (arith, length-append (flat_map bytes_of p.characters) (flat_map bytes_of q.characters), p.uses, q.uses));
    }

-- sixteen units that are characters are such a prefix
pub units_spelled : (bytes_of : BytesOf) (form : AsciiForm) → HasUnits form bytes_of → (text numbers : List ℕ)
    → length numbers ≡ 16 → AreUnits form text numbers 16 → AreScalarsBelow numbers 16
    → IsFormPrefix bytes_of text (unit_size form * 16)
units_spelled bytes_of form spells text numbers long units scalars =
    let b = begun bytes_of form spells text numbers 16 (omega arith) units in
    let all : take 16 numbers ≡ numbers = take_all 16 numbers (omega arith) in
    record {
      characters = numbers;
      scalars = all_scalars numbers (rw long scalars);
      begins = rw all at b.begins;
      uses = sym (rw all at b.uses);
    }

scalars_written : (writes : Writing) (t : WriteState) (bytes_of : BytesOf) → WritesForm writes t bytes_of
    → (characters : List ℕ) → AreWrittenAs writes t bytes_of characters
scalars_written writes t bytes_of w [] = tt
scalars_written writes t bytes_of w (c ∷ characters) = (w c, scalars_written writes t bytes_of w characters)

-- characters that are written as the bytes that they were read by stay
pub spelled_unchanged : (reads : ItemRelation) (writes : Writing) (s : ReadState) (t : WriteState) (bytes_of : BytesOf)
    → ReadsForm reads s bytes_of → WritesForm writes t bytes_of → (text : List ℕ) (n : ℕ) → IsFormPrefix bytes_of text n
    → IsUnchanged reads writes s t text n
spelled_unchanged reads writes s t bytes_of r w text n p =
    let bytes : List ℕ = flat_map bytes_of p.characters in
    unchanged_of reads writes s t bytes_of p.characters text n
    (scalars_read reads s bytes_of r p.characters p.scalars) (scalars_written writes t bytes_of w p.characters)
    (begins_is_front bytes text p.begins ∙ ap (λ k. take k text) (sym p.uses))
    (omega (arith, p.uses, Begins-length bytes text p.begins))
