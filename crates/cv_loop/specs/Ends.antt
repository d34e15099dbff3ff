-- What a pull and a push report, as POSIX.1-2017 `read` and `write` do: a read of 0 bytes into a buffer with room is
-- the end of the file.
use Rattle.std.specs.Prelude.{ℕ, Bool, true, false, ◌==◌, ◌&&◌, not, Result, Ok, Err}

-- A pull into a slice of this length, which is not empty, returned 0 bytes: the end.
abbrev pub gave_none : {E : Type 0} → Result ℕ E → ℕ → Bool
gave_none (Ok n) len = (n == 0) && not (len == 0)
gave_none (Err e) len = false

-- A push of a slice of this length failed, or took no byte although the slice is not empty.
abbrev pub took_none : {E : Type 0} → Result ℕ E → ℕ → Bool
took_none (Ok n) len = (n == 0) && not (len == 0)
took_none (Err e) len = true
