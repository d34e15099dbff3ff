-- The limits of a caller. The numbers are this project's own.
use Rattle.std.specs.Prelude.{ℕ}

-- How many descriptors a caller may have open.
abbrev pub most_descriptors : ℕ
most_descriptors = 16

-- How many charmaps a caller may hold.
abbrev pub most_charmaps : ℕ
most_charmaps = 8

-- How many mappings its charmaps may have together.
abbrev pub most_mappings : ℕ
most_mappings = 262144

-- How many bytes a caller counts for, besides its descriptors, charmaps and part.
abbrev pub caller_bytes : ℕ
caller_bytes = 512

-- How many bytes an open descriptor counts for.
abbrev pub descriptor_bytes : ℕ
descriptor_bytes = 160

-- How many bytes the part of an upload may have. With the longest body of a PUT after it, a text has 8,388,608 bytes.
abbrev pub most_part : ℕ
most_part = 7340041
