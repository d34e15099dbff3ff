use Rattle.std.proofs.Common.{List, subst, ap}
use Rattle.cv_base.specs.Codecs.{WritesAtMost}
use Rattle.cv_charmap.specs.Entries.{Pair}
use Rattle.cv_charmap.specs.Meaning.{Charmap}
use Rattle.cv_trie.specs.Charmaps.{map_writes}
use Rattle.cv_trie.proofs.MapLaws.{map_most}
use Rattle.cv_trie.proofs.charmap.CharmapCodec.most_bytes.Goals as goal

pub returns-clause-most : goal.returns-clause-most
returns-clause-most c = subst (λ (x : List Pair). WritesAtMost c.self.inside.most (map_writes x)) (ap (λ (m : Charmap).
    m.pairs) c.self.view_is) (map_most c.self.inside.most c.self.inside.trie.entries c.self.invariant.sizes)
