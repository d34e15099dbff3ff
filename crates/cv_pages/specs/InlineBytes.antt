-- Bytes that are kept ready for writing, for the cells of pages.
use Rattle.std.specs.Prelude.{◌≡◌, ◌≢◌, ◌≤◌, ◌<◌, ℕ, List, [], length, take, slice_index_or}
use Rattle.cv_byte_trie.specs.Entries.{Entry, bytes_at}
use Rattle.cv_pages.specs.Paging.{unmapped}

-- the size of bytes that are more than four, or of no entry
abbrev pub not_inline : ℕ
not_inline = 33

-- The first `size` bytes, four at most, are those of the entry at an index.
pub record IsInline (entries : List Entry) (index : ℕ) (bytes : List ℕ) (size : ℕ) : Type 0 where
  pub few : size ≤ 4
  pub has : index ≢ unmapped
  pub is : take size bytes ≡ bytes_at entries index
  pub long : size ≡ length (bytes_at entries index)

-- Each cell that has a size has the bytes of the entry that it names.
pub record AreInline (stage2 : List ℕ) (bytes : List (List ℕ)) (sizes : List ℕ) (entries : List Entry) : Type 0 where
  pub least : (cell : ℕ) → slice_index_or sizes cell not_inline ≤ not_inline
  pub each : (cell : ℕ) → slice_index_or sizes cell not_inline < not_inline → IsInline entries
      (slice_index_or stage2 cell unmapped) (slice_index_or bytes cell []) (slice_index_or sizes cell not_inline)
