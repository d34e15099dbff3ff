-- Entries that are added one after another.
use Rattle.std.specs.Prelude.{ℕ, zero, suc, ◌+◌, ◌-◌, List, [], ◌∷◌, ◌++◌, length, take, slice_index_or}
use Rattle.cv_byte_trie.specs.Entries.{Entry}

-- the `k`th entry after the first: its last byte and its character are larger by `k`
abbrev pub counted : List ℕ → ℕ → ℕ → Entry
counted bytes character k =
    (take (length bytes - 1) bytes ++ (slice_index_or bytes (length bytes - 1) 0 + k) ∷ [], character + k)

-- the first so many of them
abbrev pub run_of : List ℕ → ℕ → ℕ → List Entry
run_of bytes character zero = []
run_of bytes character (suc n) = run_of bytes character n ++ counted bytes character n ∷ []
