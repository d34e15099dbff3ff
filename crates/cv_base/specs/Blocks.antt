-- Blocks: characters that are read or written many at once. They exist for speed: no contract of a conversion cites
-- them.
use Rattle.std.specs.Prelude.{◌≡◌, ℕ, ◌≤◌, List, take, length, Option, Some, None}
use Rattle.std.specs.List.{flat_map}
use Rattle.cv_base.specs.Ascii.{AreBelow}
use Rattle.cv_base.specs.Items.{Taken, ItemRelation, Begins}
use Rattle.cv_base.specs.Codecs.{Writing}
use Rattle.cv_base.specs.Chains.{IsChain, used_bytes, read_state, characters_of, output, output_of, output_for}
use Rattle.cv_base.specs.Places.{IsOutput, IsPut}
use Rattle.cv_base.specs.Policies.{Allows}
use Rattle.cv_base.specs.Units.{unit_of}
use Rattle.cv_base.specs.declared.ascii_form.AsciiForm.{AsciiForm}
use Rattle.cv_base.specs.declared.block.ReadBlock.{ReadBlock}
use Rattle.cv_base.specs.declared.block.WrittenBlock.{WrittenBlock}
use Rattle.cv_base.specs.declared.policy.Policy.{Policy}
use Rattle.cv_base.specs.declared.state.ReadState.{ReadState}
use Rattle.cv_base.specs.declared.state.WriteState.{WriteState}

-- A chain of items at the start of a text uses the block's bytes and gives its characters, which are at the start of
-- the buffer. The block has the state after the chain.
pub record IsReadBlock (reads : ItemRelation) (s : ReadState) (text : List ℕ) (block : ReadBlock)
    (buffer : List ℕ) : Type 0 where
  pub chain : List Taken
  pub is_chain : IsChain reads s text chain
  pub within : block.n ≤ length buffer
  pub gives : take block.n buffer ≡ characters_of chain
  pub uses : block.used ≡ used_bytes chain
  pub next : block.next ≡ read_state s chain

-- The output for these characters was written into a slice from index `at` on.
abbrev pub IsWrittenBlock : Writing → WriteState → List ℕ → List ℕ → ℕ → WrittenBlock → List ℕ → Type 0
IsWrittenBlock writes t characters before at block after =
    IsOutput (output_for writes t characters) before at block.wrote block.count block.next after

-- The result of writing characters into a slice under a policy: a block that the policy allows, or nothing, and then
-- the slice stays.
abbrev pub MayWriteBlock : Policy → Writing → WriteState → List ℕ → List ℕ → ℕ → Option WrittenBlock → List ℕ → Type 0
MayWriteBlock policy writes t characters before at None after = after ≡ before
MayWriteBlock policy writes t characters before at (Some block) after =
    Allows policy (output_for writes t characters) × IsWrittenBlock writes t characters before at block after

-- The first n bytes of a text are items that are written as the same bytes, and both states stay.
pub record IsUnchanged (reads : ItemRelation) (writes : Writing) (s : ReadState) (t : WriteState) (text : List ℕ)
    (n : ℕ) : Type 0 where
  pub chain : List Taken
  pub is_chain : IsChain reads s text chain
  pub within : n ≤ length text
  pub uses : n ≡ used_bytes chain
  pub stays : read_state s chain ≡ s
  pub output : output_of writes t chain ≡ output (take n text) 0 t

-- Units of one form at the start of a text are those of ASCII characters. Each is written as the byte of its number and
-- keeps the state. These n bytes were written into a slice from index `at` on.
pub record IsWrittenRun (writes : Writing) (t : WriteState) (form : AsciiForm) (text before : List ℕ) (at n : ℕ)
    (after : List ℕ) : Type 0 where
  pub characters : List ℕ
  pub small : AreBelow 128 characters
  pub stand : Begins (flat_map (unit_of form) characters) text
  pub written : output_for writes t characters ≡ output characters 0 t
  pub put : IsPut characters before at n after
