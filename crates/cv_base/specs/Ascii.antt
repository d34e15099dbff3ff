-- Small characters: each below a limit is one unit of the same form, and the state stays.
use Rattle.std.specs.Prelude.{◌≡◌, ℕ, ◌<◌, List, [], ◌∷◌, Some}
use Rattle.cv_base.specs.Items.{taken, ItemRelation}
use Rattle.cv_base.specs.Codecs.{Writing}
use Rattle.cv_base.specs.Units.{unit_of, unit_size}
use Rattle.cv_base.specs.declared.ascii_form.AsciiForm.{AsciiForm}
use Rattle.cv_base.specs.declared.state.ReadState.{ReadState}
use Rattle.cv_base.specs.declared.state.WriteState.{WriteState}

-- In this state the unit of each character below a limit reads as that character, and the state stays.
abbrev pub ReadsBelow : ℕ → ItemRelation → ReadState → AsciiForm → Type 0
ReadsBelow limit reads s form = (c : ℕ) → c < limit → reads s (unit_of form c) (taken (unit_size form) (Some c) s)

-- In this state the unit of each ASCII character reads as that character, and the state stays.
abbrev pub ReadsAscii : ItemRelation → ReadState → AsciiForm → Type 0
ReadsAscii = ReadsBelow 128

-- In this state each character below a limit is written as its unit, and the state stays.
abbrev pub WritesBelow : ℕ → Writing → WriteState → AsciiForm → Type 0
WritesBelow limit writes t form = (c : ℕ) → c < limit → writes t c ≡ Some (unit_of form c, t)

-- In this state each ASCII character is written as its unit, and the state stays.
abbrev pub WritesAscii : Writing → WriteState → AsciiForm → Type 0
WritesAscii = WritesBelow 128

-- each character is below a limit
abbrev pub AreBelow : ℕ → List ℕ → Type 0
AreBelow limit [] = Unit {0}
AreBelow limit (c ∷ characters) = (c < limit) × AreBelow limit characters
