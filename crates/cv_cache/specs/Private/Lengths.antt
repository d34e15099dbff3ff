-- How long a text in a cache may be.
use Rattle.std.specs.Prelude.{ℕ}

-- How many bytes a text in a cache may have: as many as the body of the longest frame.
abbrev pub longest_text : ℕ
longest_text = 1_048_567
