use Rattle.std.proofs.Common.{◌≡◌, ◌∙◌, length, take, ap, arith}
use Rattle.std.proofs.Math.Seq.{take-append_seam}
use Rattle.cv_byte_trie.specs.Runs.{run_of}
use Rattle.cv_charmap.proofs.Covering.{no_shorter, covered_stays}
use Rattle.cv_charmap.proofs.Running.{run_room}
use Rattle.cv_charmap.proofs.pair_list.PairList.enter_run.Goals as goal

pub invariant_of-self : goal.invariant_of-self
invariant_of-self c =
    let all = c.self.inside.trie.entries in
    let new = c.add_run.new.self.entries in
    let i = c.self.invariant in
    let run = c.add_run.ensures.run in
    let stay : take (length all) new ≡ all = ap (take (length all)) run
    ∙ take-append_seam all (run_of c.args.bytes.now c.args.character c.add_run.result) in
    record {
      few = run_room all new c.args.bytes.now c.args.character c.add_run.result run
          (omega (arith, c.add_run.ensures.few, c.min.ensures, c.len-room.ensures.value, i.few));
      apart = c.add_run.ensures.entries.apart;
      within = (let l = no_shorter all new stay in let w = i.within in omega arith);
      covered = covered_stays all new stay c.self.inside.covered.items i.within i.covered;
    }

pub returns-clause-full : goal.returns-clause-full
returns-clause-full c =
    let i = c.self.invariant in
    run_room c.self.inside.trie.entries c.add_run.new.self.entries c.args.bytes.now c.args.character c.add_run.result
    c.add_run.ensures.run (omega (arith, c.add_run.ensures.few, c.min.ensures, c.len-room.ensures.value, i.few))
