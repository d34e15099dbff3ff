-- How much the program reads. The number is this project's own.
use Rattle.std.specs.Prelude.{ℕ}

-- The most reads that are made of a stream or a file.
abbrev pub most_reads : ℕ
most_reads = 1000000
