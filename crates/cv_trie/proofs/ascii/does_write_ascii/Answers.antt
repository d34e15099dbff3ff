use Rattle.std.proofs.Common.{◌≡◌, ◌∙◌, ℕ, List, [], ◌∷◌, Some, ap, sym, below_more}
use Rattle.std.proofs.lemmas.Bool.{not-false}
use Rattle.std.specs.Cmp.Lexicographic.{same_text}
use Rattle.cv_base.specs.declared.state.WriteState.TheVariants as write
use Rattle.cv_pages.specs.Paging.{index_of}
use Rattle.cv_trie.specs.Charmaps.{map_writes}
use Rattle.cv_trie.proofs.FirstWritten.{writes_entry}
use Rattle.cv_trie.proofs.ascii.does_write_ascii.Goals as goal

pub loop-character-preserved : goal.loop-character-preserved
loop-character-preserved c =
    let entries = c.args.entries.now in
    let d = c.loop-character.character in
    let index = index_of c.args.pages.now.stage1.items c.args.pages.now.stage2.items in
    let one : c.bytes.result.now ≡ d ∷ [] =
    same_text c.bytes.result.now c.as_slice.result.now (sym (not-false _ (sym c.if-ne.ensures))) ∙ c.as_slice.ensures in
    below_more (λ (b : ℕ). map_writes entries write.Start b ≡ Some (b ∷ [], write.Start)) d c.loop-character.invariant
    (writes_entry entries index c.requires.names d c.first_index-index.result c.first_index-index.ensures
    c.if-index.false c.index-entries-index.result c.index-entries-index.is
    ∙ ap (λ (x : List ℕ). Some (x, write.Start)) (sym c.bytes.ensures.value ∙ one))
