-- Runs: units of one form, one after the other, each of a character below a limit.
use Rattle.std.specs.Prelude.{ℕ, ◌+◌, ◌*◌, ◌<◌, List, [], ◌∷◌, ◌++◌, drop, get_or, zero, suc}
use Rattle.std.specs.List.{flat_map}
use Rattle.cv_base.specs.Items.{Begins}
use Rattle.cv_base.specs.Units.{unit_of, unit_size}
use Rattle.cv_base.specs.declared.ascii_form.AsciiForm.{AsciiForm}
use Rattle.cv_base.specs.declared.ascii_form.AsciiForm.TheVariants.{Byte, Two, Four}
use Rattle.cv_base.specs.declared.endian.Endian.TheVariants.{Big, Little}

-- the bytes of characters, each as its unit
abbrev pub bytes_of_units : AsciiForm → List ℕ → List ℕ
bytes_of_units form characters = flat_map (unit_of form) characters

-- the index of the lowest byte of a unit
abbrev pub offset : AsciiForm → ℕ
offset Byte = 0
offset (Two Big) = 1
offset (Two Little) = 0
offset (Four Big) = 3
offset (Four Little) = 0

-- The unit of a character below a limit is at index `at` of a text.
pub record IsBelowAt (limit : ℕ) (form : AsciiForm) (text : List ℕ) (at : ℕ) : Type 0 where
  pub c : ℕ
  pub small : c < limit
  pub stands : Begins (unit_of form c) (drop at text)

-- The first n units of a text are of characters below a limit.
abbrev pub IsRunBelow : ℕ → AsciiForm → List ℕ → ℕ → Type 0
IsRunBelow limit form text n = (k : ℕ) → k < n → IsBelowAt limit form text (unit_size form * k)

-- the lowest bytes of the first n units of a text; if each unit is a character below 256, these are the characters
unfoldable pub characters_in : AsciiForm → List ℕ → ℕ → List ℕ
characters_in form text zero = []
characters_in form text (suc n) = characters_in form text n ++ get_or text (unit_size form * n + offset form) 0 ∷ []
