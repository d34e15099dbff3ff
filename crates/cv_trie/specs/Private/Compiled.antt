-- The invariant of a compiled charmap.
use Rattle.std.specs.Prelude.{◌≡◌, ℕ, ◌<◌, ◌≤◌, List, length, Bool, IsTrue}
use Rattle.cv_base.specs.Scalars.{question}
use Rattle.cv_base.specs.Ascii.{ReadsAscii, WritesAscii}
use Rattle.cv_base.specs.declared.ascii_form.AsciiForm.TheVariants.{Byte}
use Rattle.cv_base.specs.declared.state.ReadState.TheVariants as read
use Rattle.cv_base.specs.declared.state.WriteState.TheVariants as write
use Rattle.cv_byte_trie.specs.Entries.{bytes_at}
use Rattle.cv_charmap.specs.Entries.{Pair}
use Rattle.cv_charmap.specs.Maps.{IsMap}
use Rattle.cv_pages.specs.Paging.{index_of, AreFirst}
use Rattle.cv_pages.specs.InlineBytes.{AreInline}
use Rattle.cv_trie.specs.Charmaps.{map_reads, map_writes}
use Rattle.cv_trie.specs.Private.Ones.{AreOnes}
use Rattle.cv_trie.specs.Private.Twos.{AreTwos}
use Rattle.cv_trie.specs.Private.Starts.{AreStarts}

-- No pair has more than `most` bytes, which is 8 at most.
pub record HaveAtMost (most : ℕ) (pairs : List Pair) : Type 0 where
  pub few : most ≤ 8
  pub each : (k : ℕ) → k < length pairs → length (bytes_at pairs k) ≤ most

-- The list is a charmap's. The numbers of single bytes in `ones`, and those of two bytes in the rows `twos` if there
-- are any, are their characters or none. If there are `starts`, each byte has its cell or row in them. The pages name
-- the first pair of each character, and nothing else. The bytes that they keep ready are those of these pairs. The
-- substitute is the index of the first pair of `?`. A flag that is set says that ASCII is read as itself, or is written
-- so.
pub record IsCompiled (pairs : List Pair) (ones twos starts stage1 stage2 : List ℕ) (ready : List (List ℕ))
    (lengths : List ℕ) (substitute most : ℕ) (reads writes : Bool) : Type 0 where
  pub map : IsMap pairs
  pub long : length ones ≡ 256
  pub singles : AreOnes pairs ones 256
  pub doubles : 0 < length twos → AreTwos pairs ones twos
  pub begins : 0 < length starts → AreStarts ones twos starts
  pub names : AreFirst stage1 stage2 pairs
  pub inline : AreInline stage2 ready lengths pairs
  pub is_substitute : substitute ≡ index_of stage1 stage2 question
  pub sizes : HaveAtMost most pairs
  pub reads_ascii : IsTrue reads → ReadsAscii (map_reads pairs) read.Start Byte
  pub writes_ascii : IsTrue writes → WritesAscii (map_writes pairs) write.Start Byte
