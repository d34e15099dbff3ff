-- What it costs to make room for a read.
use Rattle.std.specs.Prelude.{◌≡◌, ℕ, ◌+◌, ◌-◌, ◌*◌, ◌≤◌, ◌⊎◌, max}

-- A read of `room` bytes has room after the bytes that are held. There are three cases. Nothing was done. Or the held
-- bytes moved to the start of the buffer, and at least as many answered bytes were before them. Or they stay where they
-- are, and the buffer grew to twice its size, or to what the read needs if that is more.
abbrev pub MakesRoom : ℕ → ℕ → ℕ → ℕ → ℕ → ℕ → Type 0
MakesRoom room start end size start' size' =
    ((start' ≡ start) × (size' ≡ size))
    ⊎ ((start' ≡ 0) × (end - start ≤ start) × (size' ≡ size))
    ⊎ ((start' ≡ start) × (size' ≡ max (2 * size) (end + room)))
