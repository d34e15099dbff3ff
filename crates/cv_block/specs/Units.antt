-- Units that are in a text one after the other.
use Rattle.std.specs.Prelude.{◌≡◌, ℕ, ◌*◌, ◌<◌, List, drop, get_or}
use Rattle.cv_base.specs.Items.{Begins}
use Rattle.cv_base.specs.Scalars.{IsScalar}
use Rattle.cv_base.specs.Units.{unit_of, unit_size, unit_limit}
use Rattle.cv_base.specs.declared.ascii_form.AsciiForm.{AsciiForm}
use Rattle.cv_block.specs.StatelessForms.{BytesOf}

-- The unit of a number is at index `at` of a text.
pub record IsUnitAt (form : AsciiForm) (text : List ℕ) (at number : ℕ) : Type 0 where
  pub few : number < unit_limit form
  pub stands : Begins (unit_of form number) (drop at text)

-- The first n numbers are those of the units of a text, one after the other.
abbrev pub AreUnits : AsciiForm → List ℕ → List ℕ → ℕ → Type 0
AreUnits form text numbers n = (k : ℕ) → k < n → IsUnitAt form text (unit_size form * k) (get_or numbers k 0)

-- The first n numbers are those of characters.
abbrev pub AreScalarsBelow : List ℕ → ℕ → Type 0
AreScalarsBelow numbers n = (k : ℕ) → k < n → IsScalar (get_or numbers k 0)

-- The first n numbers are one unit each.
abbrev pub AreSingle : AsciiForm → List ℕ → ℕ → Type 0
AreSingle form numbers n = (k : ℕ) → k < n → get_or numbers k 0 < unit_limit form

-- A character of one unit has the bytes of that unit.
abbrev pub HasUnits : AsciiForm → BytesOf → Type 0
HasUnits form bytes_of = (c : ℕ) → c < unit_limit form → bytes_of c ≡ unit_of form c
