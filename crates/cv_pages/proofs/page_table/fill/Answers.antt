use Rattle.std.proofs.Common.{◌≡◌, ◌<◌, ◌/◌, ◌∙◌, ℕ, sym, arith, get_or, length}
use Rattle.std.proofs.lemmas.List.{get_or_read, length-set}
use Rattle.cv_byte_trie.specs.Entries.{character_at}
use Rattle.cv_byte_trie.proofs.ReadEntries.{entry_character}
use Rattle.cv_pages.specs.Paging.{unmapped, cell_of, index_of}
use Rattle.cv_pages.proofs.FirstIndices.{has_page, named_more, named_kept}
use Rattle.cv_pages.proofs.page_table.fill.Goals.{then-index, else-index}
use Rattle.cv_pages.proofs.page_table.fill.Goals as goal

pub bounds-stage1-character : goal.bounds-stage1-character
bounds-stage1-character c =
    let character : c.value-character.result ≡ character_at c.args.entries.now c.loop-index.index =
    c.value-character.ensures.number ∙ c.character.ensures ∙ sym (entry_character c.args.entries.now c.loop-index.index
    c.index-entries-index.result c.loop-index-test.true c.index-entries-index.is) in
    rw character (has_page c.args.stage1.now (character_at c.args.entries.now c.loop-index.index / 64)
    (c.requires.paged c.loop-index.index c.loop-index-test.true))

pub loop-index-preserved : goal.loop-index-preserved
loop-index-preserved c =
    let i = c.loop-index.invariant in
    let entries = c.args.entries.now in
    let stage1 = c.args.stage1.now in
    let index = c.loop-index.index in
    let stage2 = c.loop-index.stage2.items in
    let ch : ℕ = c.value-character.result in
    let is : ch ≡ character_at entries index = c.value-character.ensures.number ∙ c.character.ensures ∙ sym
    (entry_character entries index c.index-entries-index.result c.loop-index-test.true c.index-entries-index.is) in
    let some : 0 < get_or stage1 (ch / 64) 0 = rw is (c.requires.paged index c.loop-index-test.true) in
    let within = c.requires.numbered.within (ch / 64) in
    let inside : cell_of stage1 ch < length stage2 = omega (arith, within, i.size) in
    let before : c.index.result.now ≡ index_of stage1 stage2 ch =
    get_or_read stage2 (cell_of stage1 ch) c.index.result.now inside c.index.ensures unmapped in
    elim c.if-index.branch [
      | then-index w ↦ rw w.stage2-is (record {
        names = named_more stage1 stage2 c.args.size index ch entries c.requires.numbered some inside
            (omega (arith, c.requires.few, c.loop-index-test.true)) is (sym before ∙ w.if-index.true) i.names;
        size = length-set stage2 (cell_of stage1 ch) index ∙ i.size;
      })
      | else-index w ↦ rw w.stage2-is (record {
        names = named_kept (index_of stage1 stage2) index ch entries is (λ e. w.if-index.false (before ∙ e)) i.names;
        size = i.size;
      })
    ]
