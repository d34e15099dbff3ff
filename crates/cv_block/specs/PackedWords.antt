-- Characters whose bytes are a prefix of a word.
use Rattle.std.specs.Prelude.{◌≡◌, ℕ, ◌<◌, List, length, get_or}
use Rattle.std.specs.Int.{to_le_bytes, w32}
use Rattle.cv_base.specs.Items.{Begins}
use Rattle.cv_block.specs.StatelessForms.{BytesOf}

-- The first n words begin with the bytes of the characters.
abbrev pub AreWords : BytesOf → List ℕ → List ℕ → ℕ → Type 0
AreWords bytes_of characters words n = (k : ℕ) → k < n
    → Begins (bytes_of (get_or characters k 0)) (to_le_bytes w32 (get_or words k 0))

-- The first n sizes are those of the characters.
abbrev pub AreSizes : BytesOf → List ℕ → List ℕ → ℕ → Type 0
AreSizes bytes_of characters sizes n = (k : ℕ) → k < n → get_or sizes k 0 ≡ length (bytes_of (get_or characters k 0))
