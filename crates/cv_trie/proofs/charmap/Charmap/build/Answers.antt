use Rattle.std.proofs.Common.{◌≡◌, ℕ, ◌<◌, List, arith, length, sym, subst, ap}
use Rattle.std.specs.Prelude.{IsTrue}
use Rattle.cv_base.specs.Ascii.{WritesAscii}
use Rattle.cv_base.specs.declared.ascii_form.AsciiForm.TheVariants.{Byte}
use Rattle.cv_base.specs.declared.state.WriteState.TheVariants as write
use Rattle.cv_byte_trie.specs.Entries.{Entry}
use Rattle.cv_charmap.specs.Maps.{IsMap}
use Rattle.cv_pages.specs.Paging.{AreFirst}
use Rattle.cv_pages.specs.InlineBytes.{AreInline}
use Rattle.cv_trie.specs.Charmaps.{map_writes}
use Rattle.cv_trie.specs.Private.Twos.{AreTwos}
use Rattle.cv_trie.specs.Private.Starts.{AreStarts}
use Rattle.cv_trie.proofs.RowBlocks.{twos_stay}
use Rattle.cv_trie.proofs.charmap.Charmap.build.Goals as goal

pub invariant_of-result : goal.invariant_of-result
invariant_of-result c =
    let pairs = c.into_parts-name.result.1.entries in
    let singles = c.in_ok-singles.singles in
    let ones = singles.cells.items in
    let first = c.in_ok-rows.rows.cells.items in
    let second = c.of-3.new.rows.cells.items in
    let rest = c.row_offsets_of.new.rows.cells.items in
    let twos = c.needed-rows.result.items in
    let starts = c.in_ok-row_offsets.row_offsets.items in
    let pages = c.in_ok-pages.pages in
    let ascii = c.does_write_ascii-writes_ascii in
    let kept : 0 < length twos → twos ≡ rest = c.needed-rows.ensures.same in
    let needs : 0 < length starts → twos ≡ rest = rw c.deref.ensures.value at c.needed-rows.ensures.offsets in
    let held : 0 < length twos → AreTwos pairs ones rest = λ some. (
    let e = ap length (kept some) in
    let more : 0 < length first = omega (arith, some, e, c.of-3.ensures.size, c.row_offsets_of.ensures.size) in
    let doubles = c.in_ok-rows.ensures more in
    c.row_offsets_of.ensures.rows pairs (twos_stay pairs ones first second c.of-3.ensures doubles)) in
    let names = λ (x : List Entry). AreFirst pages.stage1.items pages.stage2.items x in
    let inline =
    λ (x : List Entry). AreInline pages.stage2.items pages.inline.bytes.items pages.inline.sizes.items x in
    let writes = λ (x : List Entry). IsTrue ascii.result → WritesAscii (map_writes x) write.Start Byte in
    record {
      map = subst (λ (x : List Entry). IsMap x) (sym c.into_parts-name.ensures.pairs) c.into_parts-name.ensures.map;
      long = singles.long;
      singles = c.in_ok-singles.ensures;
      doubles = λ some. subst (λ (x : List ℕ). AreTwos pairs ones x) (sym (kept some)) (held some);
      begins = λ some. subst (λ (x : List ℕ). AreStarts ones x starts) (sym (needs some))
          (c.in_ok-row_offsets.ensures.offsets some);
      names = subst names c.entries-3.ensures.value c.in_ok-pages.ensures.names;
      inline = subst inline c.entries-3.ensures.value c.in_ok-pages.ensures.inline;
      is_substitute = c.first_index-substitute.ensures;
      sizes = c.longest-most.ensures;
      reads_ascii = c.does_read_ascii-reads_ascii.ensures;
      writes_ascii = subst writes c.entries-4.ensures.value ascii.ensures;
    }
