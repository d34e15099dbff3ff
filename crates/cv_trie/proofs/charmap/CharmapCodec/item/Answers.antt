use Rattle.std.proofs.Common.{List, subst, ap}
use Rattle.cv_base.specs.Items.{IsNext}
use Rattle.cv_charmap.specs.Entries.{Pair}
use Rattle.cv_charmap.specs.Meaning.{Charmap}
use Rattle.cv_trie.specs.Charmaps.{map_reads}
use Rattle.cv_trie.proofs.charmap.CharmapCodec.item.Goals as goal

pub returns : goal.returns
returns c =
    subst (λ (x : List Pair). IsNext (map_reads x) c.args._state c.args.input.now c.next_item.result)
    (ap (λ (m : Charmap). m.pairs) c.self.view_is) (c.next_item.ensures c.args._state)
