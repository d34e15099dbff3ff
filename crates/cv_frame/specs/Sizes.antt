-- The length at the start of a frame is the number of bytes after its own four. The numbers are this project's own.
use Rattle.std.specs.Prelude.{ℕ}

-- The least length of a frame: four bytes of the caller, four of the tag, and the op or the status.
abbrev pub least_length : ℕ
least_length = 9

-- The greatest length of a frame. With the four bytes of the length it has 1,048,580 bytes.
abbrev pub most_length : ℕ
most_length = 1048576

-- The most bytes of a body: the greatest length without the 9 bytes of caller, tag and code.
abbrev pub most_body : ℕ
most_body = 1048567
