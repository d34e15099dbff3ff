-- Characters of UTF-8 that all have three bytes, or all four, many at once.
use Rattle.std.specs.Prelude.{◌≡◌, ℕ, ◌*◌, ◌<◌, ◌⊎◌, List, take, get_or}
use Rattle.cv_base.specs.Scalars.{IsScalar}
use Rattle.cv_base.specs.Units.{unit_of}
use Rattle.cv_base.specs.declared.ascii_form.AsciiForm.TheVariants.{Four}
use Rattle.cv_base.specs.declared.endian.Endian.TheVariants.{Little}
use Rattle.cv_block.specs.Units.{IsUnitAt}
use Rattle.cv_utf8.specs.Utf8.{utf8_bytes}

-- The first n words are the four bytes at every `size`-th byte of a text, the lowest byte first.
abbrev pub AreWordsOf : ℕ → List ℕ → List ℕ → ℕ → Type 0
AreWordsOf size text words n = (k : ℕ) → k < n → IsUnitAt (Four Little) text (size * k) (get_or words k 0)

-- The number is 0, or that of a character whose bytes are the `size` lowest of a word.
abbrev pub IsNumberOf : ℕ → ℕ → ℕ → Type 0
IsNumberOf size word number = (number ≡ 0)
    ⊎ (IsScalar number × (utf8_bytes number ≡ take size (unit_of (Four Little) word)))

-- Each of the first n numbers is 0, or that of the character with which its word begins.
abbrev pub AreNumbersOf : ℕ → List ℕ → List ℕ → ℕ → Type 0
AreNumbersOf size words numbers n = (k : ℕ) → k < n → IsNumberOf size (get_or words k 0) (get_or numbers k 0)
