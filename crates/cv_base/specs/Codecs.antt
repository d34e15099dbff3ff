-- How characters are written, and what every codec keeps.
use Rattle.std.specs.Prelude.{◌≡◌, ℕ, ◌<◌, ◌≤◌, List, length, Option, IsSome, IfSome}
use Rattle.cv_base.specs.Scalars.{question}
use Rattle.cv_base.specs.Items.{Taken, ItemRelation, Begins, Stands, IsNext}
use Rattle.cv_base.specs.declared.item.Item.{Item}
use Rattle.cv_base.specs.declared.item.Item.TheVariants.{Ill}
use Rattle.cv_base.specs.declared.state.ReadState.{ReadState}
use Rattle.cv_base.specs.declared.state.WriteState.{WriteState}

-- How an encoding writes a character: its bytes and the state after them, or none if it lacks the character.
abbrev pub Writing : Type 0
Writing = WriteState → ℕ → Option (List ℕ × WriteState)

-- In each state at most one item is at the start of a text. An item uses at least one byte, and no more than its byte
-- string has.
pub record IsReadable (reads : ItemRelation) : Type 0 where
  pub one_item : (s : ReadState) (text a b : List ℕ) (i j : Taken) → reads s a i → reads s b j → Begins a text
      → Begins b text → i ≡ j
  pub uses : (s : ReadState) (a : List ℕ) (i : Taken) → reads s a i → (0 < i.used) × (i.used ≤ length a)

-- `?` can be written in every state.
abbrev pub CanSubstitute : Writing → Type 0
CanSubstitute writes = (t : WriteState) → IsSome (writes t question)

-- Each character that can be written has at most this many bytes.
abbrev pub WritesAtMost : ℕ → Writing → Type 0
WritesAtMost most writes = (t : WriteState) (c : ℕ) → IfSome (writes t c) (λ p. length p.0 ≤ most)

-- An item that is next stays next when bytes follow, and ill-formed bytes stay ill-formed.
pub record StaysWhenBytesFollow (reads : ItemRelation) : Type 0 where
  pub item : (s : ReadState) (text more : List ℕ) (i : Taken) → Begins text more → Stands reads s text i
      → Stands reads s more i
  pub ill : (s : ReadState) (text more : List ℕ) → Begins text more → IsNext reads s text Ill → IsNext reads s more Ill

-- An item that is next uses at least one byte, and no more than the text has.
abbrev pub UsesSome : ItemRelation → Type 0
UsesSome reads = (s : ReadState) (text : List ℕ) (i : Taken) → Stands reads s text i
    → (0 < i.used) × (i.used ≤ length text)

-- Only one thing is next.
abbrev pub OneIsNext : ItemRelation → Type 0
OneIsNext reads = (s : ReadState) (text : List ℕ) (a b : Item) → IsNext reads s text a → IsNext reads s text b → a ≡ b
