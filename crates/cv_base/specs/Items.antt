-- The items of a text, and what is next in it (POSIX iconv(); Unicode Standard, section 3.9, code unit sequences).
use Rattle.std.specs.Prelude.{◌≡◌, ℕ, ◌<◌, List, [], ◌∷◌, length, Option, Some, None}
use Rattle.cv_base.specs.declared.state.ReadState.{ReadState}
use Rattle.cv_base.specs.declared.item.Item.{Item}
use Rattle.cv_base.specs.declared.item.Item.TheVariants.{Char, Shift, Incomplete, Ill, End}

-- What an item is: how many bytes it uses, the character that it gives (a mark or a shift gives none), and the state
-- after it.
pub record Taken : Type 0 where
  pub used : ℕ
  pub gives : Option ℕ
  pub next : ReadState

-- an item by its parts
abbrev pub taken : ℕ → Option ℕ → ReadState → Taken
taken used gives next = record { used = used; gives = gives; next = next }

-- The item relation of an encoding: in this state this whole byte string reads as this item.
abbrev pub ItemRelation : Type 1
ItemRelation = ReadState → List ℕ → Taken → Type 0

-- the first list is a prefix of the second
abbrev pub Begins : List ℕ → List ℕ → Type 0
Begins [] text = Unit {0}
Begins (b ∷ bytes) [] = ⊥
Begins (b ∷ bytes) (c ∷ text) = (b ≡ c) × Begins bytes text

-- An item is at the start of the text.
pub record Stands (reads : ItemRelation) (s : ReadState) (text : List ℕ) (item : Taken) : Type 0 where
  pub bytes : List ℕ
  pub is_item : reads s bytes item
  pub front : Begins bytes text

-- No item is at the start of the text.
abbrev pub NoneStands : ItemRelation → ReadState → List ℕ → Type 0
NoneStands reads s text = (item : Taken) → Stands reads s text item → ⊥

-- The text is a prefix of an item.
pub record CanGrow (reads : ItemRelation) (s : ReadState) (text : List ℕ) : Type 0 where
  pub bytes : List ℕ
  pub item : Taken
  pub is_item : reads s bytes item
  pub front : Begins text bytes

-- What is next in a text, as the code reports it.
abbrev pub IsNext : ItemRelation → ReadState → List ℕ → Item → Type 0
IsNext reads s text (Char c n next) = Stands reads s text (taken n (Some c) next)
IsNext reads s text (Shift n next) = Stands reads s text (taken n None next)
IsNext reads s text Incomplete = (0 < length text) × NoneStands reads s text × CanGrow reads s text
IsNext reads s text Ill = (0 < length text) × NoneStands reads s text × (CanGrow reads s text → ⊥)
IsNext reads s text End = text ≡ []
