-- An entry that was read by its index, and the list that has it.
use Rattle.std.proofs.Common.{◌≡◌, ℕ, ◌<◌, List, length, get_or, sym, ap}
use Rattle.std.proofs.lemmas.List.{get_or_read}
use Rattle.cv_byte_trie.specs.Entries.{Entry, no_entry, bytes_at, character_at}

-- the bytes of an entry that was read
pub entry_bytes : (entries : List Entry) (k : ℕ) (x : Entry) → k < length entries → x ≡ get_or entries k x
    → bytes_at entries k ≡ x.0
entry_bytes entries k x low is = ap (λ (e : Entry). e.0) (sym (get_or_read entries k x low is no_entry))

-- the character of an entry that was read
pub entry_character : (entries : List Entry) (k : ℕ) (x : Entry) → k < length entries → x ≡ get_or entries k x
    → character_at entries k ≡ x.1
entry_character entries k x low is = ap (λ (e : Entry). e.1) (sym (get_or_read entries k x low is no_entry))
