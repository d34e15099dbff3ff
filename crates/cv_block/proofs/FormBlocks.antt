-- What was read or written of a stateless form is a block.
use Rattle.std.proofs.Common.{◌≡◌, ℕ, List, [], ◌∷◌, length, take, refl, sym, ◌∙◌, ap, arith, Some, zero-add}
use Rattle.std.specs.List.{flat_map}
use Rattle.cv_base.specs.Items.{taken, ItemRelation}
use Rattle.cv_base.specs.Codecs.{Writing}
use Rattle.cv_base.specs.Chains.{output, output_for}
use Rattle.cv_base.specs.Blocks.{IsReadBlock, IsWrittenBlock}
use Rattle.cv_base.specs.Scalars.{IsScalar, AreScalars}
use Rattle.cv_base.specs.declared.block.ReadBlock.{ReadBlock}
use Rattle.cv_base.specs.declared.block.WrittenBlock.{WrittenBlock}
use Rattle.cv_base.specs.declared.state.ReadState.{ReadState}
use Rattle.cv_base.specs.declared.state.WriteState.{WriteState}
use Rattle.cv_base.proofs.BlockLaws.{AreRead, read_block_of}
use Rattle.cv_block.specs.StatelessForms.{BytesOf, IsFormRead, IsFormWritten}

-- In this state the bytes of each character read as it, and the state stays.
abbrev pub ReadsForm : ItemRelation → ReadState → BytesOf → Type 0
ReadsForm reads s bytes_of = (c : ℕ) → IsScalar c → reads s (bytes_of c) (taken (length (bytes_of c)) (Some c) s)

-- In this state each character is written as its bytes, and the state stays.
abbrev pub WritesForm : Writing → WriteState → BytesOf → Type 0
WritesForm writes t bytes_of = (c : ℕ) → writes t c ≡ Some (bytes_of c, t)

-- characters of a form are read by their bytes
pub scalars_read : (reads : ItemRelation) (s : ReadState) (bytes_of : BytesOf) → ReadsForm reads s bytes_of
    → (characters : List ℕ) → AreScalars characters → AreRead reads s bytes_of characters
scalars_read reads s bytes_of r [] p = tt
scalars_read reads s bytes_of r (c ∷ characters) p = (r c p.0, scalars_read reads s bytes_of r characters p.1)

-- a block that was read in a form
pub spelled_read : (reads : ItemRelation) (s : ReadState) (bytes_of : BytesOf) → ReadsForm reads s bytes_of
    → (text before : List ℕ) (block : ReadBlock) (after : List ℕ) → IsFormRead bytes_of s text before block after
    → IsReadBlock reads s text block after
spelled_read reads s bytes_of r text before block after p =
    let run = p.0 in
    let stand : take block.n after ≡ run.characters = ap (λ i. take i after) (sym (zero-add block.n)) ∙ run.stand in
    let it = read_block_of reads s bytes_of text run.characters after block.n block.used (scalars_read reads s bytes_of
    r run.characters run.scalars) run.begins run.uses stand (omega (arith, run.fits, run.size)) in
    record {
      chain = it.chain;
      is_chain = it.is_chain;
      within = it.within;
      gives = it.gives;
      uses = it.uses;
      next = p.1 ∙ it.next;
    }

-- what is written for characters of a form
output_spelled : (writes : Writing) (t : WriteState) (bytes_of : BytesOf) → WritesForm writes t bytes_of
    → (characters : List ℕ) → output_for writes t characters ≡ output (flat_map bytes_of characters) 0 t
output_spelled writes t bytes_of w [] = refl
output_spelled writes t bytes_of w (c ∷ characters) = rw (w c) (rw (output_spelled writes t bytes_of w characters) refl)

-- a block that was written in a form
pub spelled_written : (writes : Writing) (t : WriteState) (bytes_of : BytesOf) → WritesForm writes t bytes_of
    → (characters before : List ℕ) (at : ℕ) (block : WrittenBlock) (after : List ℕ) → IsFormWritten bytes_of t
    characters before at block after → IsWrittenBlock writes t characters before at block after
spelled_written writes t bytes_of w characters before at block after p =
    rw (output_spelled writes t bytes_of w characters) p
