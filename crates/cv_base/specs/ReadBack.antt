-- The law *read back*: what is written for characters is read as those characters.
use Rattle.std.specs.Prelude.{◌≡◌, ℕ, List, ◌++◌, length}
use Rattle.cv_base.specs.Scalars.{AreScalars}
use Rattle.cv_base.specs.Items.{Taken, ItemRelation}
use Rattle.cv_base.specs.Codecs.{Writing}
use Rattle.cv_base.specs.Chains.{IsChain, used_bytes, characters_of, Output, output_for}
use Rattle.cv_base.specs.declared.state.ReadState.TheVariants as read
use Rattle.cv_base.specs.declared.state.WriteState.{WriteState}
use Rattle.cv_base.specs.declared.state.WriteState.TheVariants as write

-- From the start a chain uses the whole text, and its items give exactly these characters.
pub record IsReadAs (reads : ItemRelation) (text characters : List ℕ) : Type 0 where
  pub chain : List Taken
  pub is_chain : IsChain reads read.Start text chain
  pub whole : used_bytes chain ≡ length text
  pub gives : characters_of chain ≡ characters

-- What is written for characters from the start, and closed, is read from the start as those characters, if `?`
-- replaces none of them.
abbrev pub ReadsBack : ItemRelation → Writing → (WriteState → List ℕ) → Type 0
ReadsBack reads writes closes = (characters : List ℕ) → AreScalars characters → let o : Output =
    output_for writes write.Start characters in o.count ≡ 0 → IsReadAs reads (o.bytes ++ closes o.next) characters
