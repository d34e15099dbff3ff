-- Stateless forms: encodings, or states of them, in which the bytes of a character do not depend on its context. Blocks
-- use them.
use Rattle.std.specs.Prelude.{◌≡◌, ℕ, ◌+◌, ◌≤◌, List, ◌++◌, take, drop, length}
use Rattle.std.specs.List.{flat_map}
use Rattle.cv_base.specs.Scalars.{IsScalar, AreScalars}
use Rattle.cv_base.specs.Items.{Begins}
use Rattle.cv_base.specs.Chains.{output}
use Rattle.cv_base.specs.Places.{IsOutput}
use Rattle.cv_base.specs.declared.block.ReadBlock.{ReadBlock}
use Rattle.cv_base.specs.declared.block.WrittenBlock.{WrittenBlock}
use Rattle.cv_block.specs.declared.stateless_form.Converted.{Converted}
use Rattle.cv_base.specs.declared.state.ReadState.{ReadState}
use Rattle.cv_base.specs.declared.state.WriteState.{WriteState}

-- the bytes of each character
abbrev pub BytesOf : Type 0
BytesOf = ℕ → List ℕ

-- Each character has four bytes at most.
abbrev pub HasFourAtMost : BytesOf → Type 0
HasFourAtMost bytes_of = (c : ℕ) → length (bytes_of c) ≤ 4

-- The n bytes of a character are at index `at` of a text.
abbrev pub IsFormAt : BytesOf → List ℕ → ℕ → ℕ → ℕ → Type 0
IsFormAt bytes_of text at c n = IsScalar c × Begins (bytes_of c) (drop at text) × (n ≡ length (bytes_of c))

-- Characters whose bytes are at index `at` of a text were put into a buffer after its first n; what follows them in the
-- buffer may be anything.
pub record IsReadForm (bytes_of : BytesOf) (text : List ℕ) (at : ℕ) (before : List ℕ) (n : ℕ) (run : Converted)
    (after : List ℕ) : Type 0 where
  pub characters : List ℕ
  pub scalars : AreScalars characters
  pub begins : Begins (flat_map bytes_of characters) (drop at text)
  pub uses : run.used ≡ length (flat_map bytes_of characters)
  pub counts : run.n ≡ length characters
  pub stand : take (n + run.n) after ≡ take n before ++ characters
  pub fits : n + run.n ≤ length before
  pub size : length after ≡ length before

-- The first n bytes of a text are those of characters, one after the other.
pub record IsFormPrefix (bytes_of : BytesOf) (text : List ℕ) (n : ℕ) : Type 0 where
  pub characters : List ℕ
  pub scalars : AreScalars characters
  pub begins : Begins (flat_map bytes_of characters) text
  pub uses : n ≡ length (flat_map bytes_of characters)

-- The bytes of some characters after the first n were written from index `at` on; what follows these bytes may be
-- anything.
pub record IsWrittenForm (bytes_of : BytesOf) (characters : List ℕ) (n : ℕ) (before : List ℕ) (at : ℕ) (run : Converted)
    (after : List ℕ) : Type 0 where
  pub within : n + run.n ≤ length characters
  pub uses : run.used ≡ length (flat_map bytes_of (take run.n (drop n characters)))
  pub fits : at + run.used ≤ length before
  pub stand : take (at + run.used) after ≡ take at before ++ flat_map bytes_of (take run.n (drop n characters))
  pub size : length after ≡ length before

-- A block of characters was read in a form, and the state stayed.
abbrev pub IsFormRead : BytesOf → ReadState → List ℕ → List ℕ → ReadBlock → List ℕ → Type 0
IsFormRead bytes_of s text before block after =
    IsReadForm bytes_of text 0 before 0 (record { n = block.n; used = block.used }) after × (block.next ≡ s)

-- The bytes of a block of characters were written from index `at` on, and the state stayed.
abbrev pub IsFormWritten : BytesOf → WriteState → List ℕ → List ℕ → ℕ → WrittenBlock → List ℕ → Type 0
IsFormWritten bytes_of t characters before at block after =
    IsOutput (output (flat_map bytes_of characters) 0 t) before at block.wrote block.count block.next after
