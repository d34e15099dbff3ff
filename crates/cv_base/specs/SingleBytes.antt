-- The encodings in which each character is the byte with its value: US-ASCII (ISO/IEC 646) and ISO-8859-1 (ISO/IEC
-- 8859-1).
use Rattle.std.specs.Prelude.{◌≡◌, ℕ, ◌<◌, List, [], ◌∷◌, Option, Some, None, nat_lt, if◌then◌else◌}
use Rattle.cv_base.specs.Items.{Taken, taken}
use Rattle.cv_base.specs.declared.state.ReadState.{ReadState}
use Rattle.cv_base.specs.declared.state.ReadState.TheVariants as read
use Rattle.cv_base.specs.declared.state.WriteState.{WriteState}
use Rattle.cv_base.specs.declared.state.WriteState.TheVariants as write

-- One byte below the limit is the character with its value.
abbrev pub byte_reads : ℕ → ReadState → List ℕ → Taken → Type 0
byte_reads limit s [] item = ⊥
byte_reads limit s (b ∷ []) item = (b < limit) × (item ≡ taken 1 (Some b) read.Start)
byte_reads limit s (b ∷ c ∷ bytes) item = ⊥

-- A character below the limit is the byte with its value; the encoding lacks all others.
abbrev pub byte_writes : ℕ → WriteState → ℕ → Option (List ℕ × WriteState)
byte_writes limit t c = if nat_lt c limit then Some (c ∷ [], write.Start) else None
