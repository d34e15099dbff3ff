use Rattle.std.proofs.Common.{List, sym, subst}
use Rattle.cv_byte_trie.specs.Entries.{Entry}
use Rattle.cv_charmap.specs.Maps.{IsMap}
use Rattle.cv_pages.specs.Paging.{AreFirst}
use Rattle.cv_pages.specs.InlineBytes.{AreInline}
use Rattle.cv_trie.proofs.charmap.Charmap.encoder.Goals as goal

pub invariant_of-result : goal.invariant_of-result
invariant_of-result c =
    let i = c.self.invariant in
    let pages = c.self.inside.pages in
    let same = sym c.entries.ensures.value in
    let names = λ (x : List Entry). AreFirst pages.stage1.items pages.stage2.items x in
    let inline =
    λ (x : List Entry). AreInline pages.stage2.items pages.inline.bytes.items pages.inline.sizes.items x in
    record {
      map = subst (λ (x : List Entry). IsMap x) same i.map;
      names = subst names same i.names;
      inline = subst inline same i.inline;
      is_substitute = i.is_substitute;
    }
