-- Which failures of an accept end listening.
use Rattle.std.specs.Prelude.{ℕ, ℤ, pos, int_lt, unsigned_abs, Bool, false, Option, None, Some, if◌then◌else◌, ◌==◌}
use Rattle.std.specs.Prelude.{◌||◌}

-- By Linux's error numbers: the descriptor is not open (9), it does not listen or was shut (22), it is not a socket
-- (88), or not one that can accept (95).
abbrev pub is_of_listener : ℕ → Bool
is_of_listener number = (number == 9) || (number == 22) || (number == 88) || (number == 95)

-- Whether an accept that failed with this error number, if it had one, means that every later accept fails too.
abbrev pub is_lasting : Option ℤ → Bool
is_lasting None = false
is_lasting (Some code) = if int_lt code (pos 0) then false else is_of_listener (unsigned_abs code)
