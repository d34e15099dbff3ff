-- What is written for a character whose bytes the pages keep.
use Rattle.std.proofs.Common.{◌≡◌, ℕ, ◌<◌, ◌≤◌, List, [], length, get_or, take, refl, Some}
use Rattle.cv_base.specs.Chains.{output, written}
use Rattle.cv_base.specs.declared.state.WriteState.TheVariants as write
use Rattle.cv_byte_trie.specs.Entries.{Entry, bytes_at}
use Rattle.cv_pages.specs.Paging.{cell_of, index_of, AreFirst}
use Rattle.cv_pages.specs.InlineBytes.{not_inline, AreInline}
use Rattle.cv_trie.specs.Charmaps.{map_writes}
use Rattle.cv_trie.proofs.Written.{chosen}

-- the bytes that the pages keep for a character are those written for it
pub record IsReady (entries : List Entry) (c : ℕ) (w bytes : List ℕ) (size : ℕ) : Type 0 where
  pub few : size ≤ 4
  pub is : take size bytes ≡ w
  pub long : size ≡ length w
  pub written : written (map_writes entries) write.Start (Some c) ≡ output w 0 write.Start

module _ (entries : List Entry) (stage1 stage2 : List ℕ) (bytes : List (List ℕ)) (sizes : List ℕ)
    (names : AreFirst stage1 stage2 entries) (inline : AreInline stage2 bytes sizes entries) where
  pub ready_written : (c : ℕ) → get_or sizes (cell_of stage1 c) not_inline < not_inline
      → IsReady entries c (bytes_at entries (index_of stage1 stage2 c)) (get_or bytes (cell_of stage1 c) [])
      (get_or sizes (cell_of stage1 c) not_inline)
  ready_written c less =
      let short = inline.each (cell_of stage1 c) less in
      record {
        few = short.few;
        is = short.is;
        long = short.long;
        written = chosen entries (index_of stage1 stage2) names c (index_of stage1 stage2 c) refl short.has;
      }
