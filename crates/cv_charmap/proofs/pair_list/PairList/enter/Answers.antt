use Rattle.std.proofs.Common.{arith}
use Rattle.cv_charmap.proofs.Covering.{no_shorter, covered_stays}
use Rattle.cv_charmap.proofs.pair_list.PairList.enter.Goals as goal

pub invariant_of-self : goal.invariant_of-self
invariant_of-self c =
    let all = c.self.inside.trie.entries in
    let new = c.enter_into.new.trie.entries in
    let i = c.self.invariant in
    let stay = c.enter_into.ensures.stay in
    record {
      few = c.enter_into.ensures.few;
      apart = c.enter_into.ensures.apart;
      within = (let l = no_shorter all new stay in let w = i.within in omega arith);
      covered = covered_stays all new stay c.self.inside.covered.items i.within i.covered;
    }
