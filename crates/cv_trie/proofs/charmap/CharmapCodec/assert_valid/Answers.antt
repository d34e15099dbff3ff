use Rattle.std.proofs.Common.{List, subst, ap}
use Rattle.cv_base.specs.Codecs.{CanSubstitute}
use Rattle.cv_charmap.specs.Entries.{Pair}
use Rattle.cv_charmap.specs.Meaning.{Charmap}
use Rattle.cv_trie.specs.Charmaps.{map_writes}
use Rattle.cv_trie.proofs.MapLaws.{map_substitutes}
use Rattle.cv_trie.proofs.charmap.CharmapCodec.assert_valid.Goals as goal

pub returns-clause-substitutable : goal.returns-clause-substitutable
returns-clause-substitutable c = subst (λ (x : List Pair). CanSubstitute (map_writes x))
    (ap (λ (m : Charmap). m.pairs) c.self.view_is) (map_substitutes c.self.inside.trie.entries c.self.invariant.map)
