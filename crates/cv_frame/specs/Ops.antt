-- The numbers of the ops: what a request asks. They are this project's own.
use Rattle.std.specs.Prelude.{ℕ}

-- Compiles a charmap, and keeps it under its name.
abbrev pub op_put : ℕ
op_put = 1

-- Drops a charmap.
abbrev pub op_drop : ℕ
op_drop = 2

-- Opens a descriptor.
abbrev pub op_open : ℕ
op_open = 3

-- Converts by a descriptor.
abbrev pub op_conv : ℕ
op_conv = 4

-- Takes a descriptor back to its start.
abbrev pub op_reset : ℕ
op_reset = 5

-- Closes a descriptor.
abbrev pub op_close : ℕ
op_close = 6

-- Frees everything that a caller has.
abbrev pub op_bye : ℕ
op_bye = 7

-- Appends to the part of a charmap's text. An empty PART drops the part, and so does a PUT or a BYE that is answered
-- OK.
abbrev pub op_part : ℕ
op_part = 8
