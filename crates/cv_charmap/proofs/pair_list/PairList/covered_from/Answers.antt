use Rattle.std.proofs.Common.{sym, ◌∙◌}
use Rattle.cv_charmap.proofs.Covering.{covered_has}
use Rattle.cv_charmap.proofs.pair_list.PairList.covered_from.Goals as goal

pub returns-in-Some-clause-has : goal.returns-in-Some-clause-has
returns-in-Some-clause-has c =
    let found = c.in-Some.ensures.lookup in
    covered_has c.self.inside.trie.entries c.args.self.now c.self.inside.covered.items c.deref.result.now c.args.index
    c.in-Some.covered.now c.args.hex c.args.number c.from-in-Some.result
    c.self.invariant.covered c.deref.ensures.value found.3.0 found.3.1 c.if-covered-hex.true
    (sym c.from.ensures ∙ c.if-from-number.true) c.from-in-Some.ensures c.self.view_is
