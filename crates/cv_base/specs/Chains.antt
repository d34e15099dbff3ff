-- Chains of items, and what is written for them (POSIX iconv()).
use Rattle.std.specs.Prelude.{ℕ, ◌+◌, List, [], ◌∷◌, ◌++◌, drop, Option, Some, None, option_to_list}
use Rattle.cv_base.specs.Scalars.{question}
use Rattle.cv_base.specs.Items.{Taken, ItemRelation, Stands}
use Rattle.cv_base.specs.Codecs.{Writing}
use Rattle.cv_base.specs.declared.state.ReadState.{ReadState}
use Rattle.cv_base.specs.declared.state.WriteState.{WriteState}

-- Items of a text, one after the other: each begins where the used bytes of those before it end.
abbrev pub IsChain : ItemRelation → ReadState → List ℕ → List Taken → Type 0
IsChain reads s text [] = Unit {0}
IsChain reads s text (item ∷ items) = Stands reads s text item × IsChain reads item.next (drop item.used text) items

-- the bytes that a chain uses
abbrev pub used_bytes : List Taken → ℕ
used_bytes [] = 0
used_bytes (item ∷ items) = item.used + used_bytes items

-- the reading state after a chain
abbrev pub read_state : ReadState → List Taken → ReadState
read_state s [] = s
read_state s (item ∷ items) = read_state item.next items

-- the characters that a chain gives
abbrev pub characters_of : List Taken → List ℕ
characters_of [] = []
characters_of (item ∷ items) = option_to_list item.gives ++ characters_of items

-- What is written: the bytes, how many characters `?` replaces, and the writing state after it.
pub record Output : Type 0 where
  pub bytes : List ℕ
  pub count : ℕ
  pub next : WriteState

-- an output by its parts
abbrev pub output : List ℕ → ℕ → WriteState → Output
output bytes count next = record { bytes = bytes; count = count; next = next }

-- the output for a character that the target lacks: `?`, which is counted
abbrev pub substituted : WriteState → Option (List ℕ × WriteState) → Output
substituted t (Some (bytes, next)) = output bytes 1 next
substituted t None = output [] 1 t

-- the output for a character, or the other output if the target lacks the character
abbrev pub put_or : Output → Option (List ℕ × WriteState) → Output
put_or other (Some (bytes, next)) = output bytes 0 next
put_or other None = other

-- the output for what an item gives: nothing for a mark or a shift
abbrev pub written : Writing → WriteState → Option ℕ → Output
written writes t None = output [] 0 t
written writes t (Some c) = put_or (substituted t (writes t question)) (writes t c)

-- one output after another
abbrev pub followed : Output → Output → Output
followed first then = output (first.bytes ++ then.bytes) (first.count + then.count) then.next

-- the output for the items of a chain
abbrev pub output_of : Writing → WriteState → List Taken → Output
output_of writes t [] = output [] 0 t
output_of writes t (item ∷ items) =
    let first : Output = written writes t item.gives in followed first (output_of writes first.next items)

-- the output for characters
abbrev pub output_for : Writing → WriteState → List ℕ → Output
output_for writes t [] = output [] 0 t
output_for writes t (c ∷ characters) =
    let first : Output = written writes t (Some c) in followed first (output_for writes first.next characters)
