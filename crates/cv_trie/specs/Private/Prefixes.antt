-- What was read at the start of a text, and what was written at the start of a buffer.
use Rattle.std.specs.Prelude.{◌≡◌, ◌≤◌, ◌*◌, ℕ, List, length, take}
use Rattle.cv_base.specs.Codecs.{Writing}
use Rattle.cv_base.specs.Chains.{output_for}
use Rattle.cv_base.specs.Blocks.{IsReadBlock}
use Rattle.cv_base.specs.declared.state.ReadState.TheVariants as read
use Rattle.cv_base.specs.declared.state.WriteState.TheVariants as write
use Rattle.cv_charmap.specs.Entries.{Pair}
use Rattle.cv_trie.specs.Charmaps.{map_reads, map_writes}
use Rattle.cv_trie.specs.declared.progress.Read.{Read}
use Rattle.cv_trie.specs.declared.progress.Written.{Written}

-- Characters were read from the start of a text into the start of a buffer.
pub record IsRead (pairs : List Pair) (text : List ℕ) (amount : Read) (buffer : List ℕ) : Type 0 where
  pub block : IsReadBlock (map_reads pairs) read.Start text
      (record { n = amount.n; used = amount.used; next = read.Start }) buffer
  pub within : amount.used ≤ length text

-- A buffer begins with what is written for characters.
pub record IsWrittenPrefix (writes : Writing) (characters buffer : List ℕ) (used count : ℕ) : Type 0 where
  pub bytes : take used buffer ≡ (output_for writes write.Start characters).bytes
  pub uses : used ≡ length (output_for writes write.Start characters).bytes
  pub counts : count ≡ (output_for writes write.Start characters).count
  pub next : (output_for writes write.Start characters).next ≡ write.Start

-- The first characters of a list were written into the start of a buffer, at most eight bytes for each. The buffer has
-- room for eight bytes for each character of the list.
pub record IsWritten (pairs : List Pair) (characters buffer : List ℕ) (written : Written) : Type 0 where
  pub prefix : IsWrittenPrefix (map_writes pairs) (take written.n characters) buffer written.used written.count
  pub within : written.n ≤ length characters
  pub short : written.used ≤ 8 * written.n
  pub few : written.count ≤ written.n
  pub room : 8 * length characters ≤ length buffer
