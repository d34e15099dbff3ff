use Rattle.std.proofs.Common.{arith, ◌+◌}
use Rattle.std.proofs.lemmas.List.{take_rest}
use Rattle.cv_utf8.proofs.Utf8Front.{front_well_formed, more_well_formed, part_well_formed}
use Rattle.cv_utf8.proofs.read.well_formed.well_formed_prefix_len.Goals as goal

pub returns-then-is_empty-clause-well_formed : goal.returns-then-is_empty-clause-well_formed
returns-then-is_empty-clause-well_formed c =
    let short = rw (take_rest c.args.input.now c.loop-most.n) at c.cheap_prefix_len-cheap.ensures.well_formed in
    more_well_formed c.args.input.now c.loop-most.n c.cheap_prefix_len-cheap.result c.loop-most.invariant.well_formed
    short

pub returns-in-Err-clause-well_formed : goal.returns-in-Err-clause-well_formed
returns-in-Err-clause-well_formed c =
    let input = c.args.input.now in
    let short = rw (take_rest input c.loop-most.n) at c.cheap_prefix_len-cheap.ensures.well_formed in
    let n = c.loop-most.n + c.cheap_prefix_len-cheap.result in
    let before =
    more_well_formed input c.loop-most.n c.cheap_prefix_len-cheap.result c.loop-most.invariant.well_formed short in
    let part = rw (take_rest input n) at c.uncut_part-part.ensures.prefix in
    let front = c.in-Err.ensures.cases.1 in
    rw c.valid_up_to.ensures (front_well_formed input c.uncut_part-part.result.now n c.in-Err.fault.valid_up_to before
    part (omega (arith, front.short)) front.front)

pub loop-most-preserved : goal.loop-most-preserved
loop-most-preserved c =
    let input = c.args.input.now in
    let short = rw (take_rest input c.loop-most.n) at c.cheap_prefix_len-cheap.ensures.well_formed in
    let n = c.loop-most.n + c.cheap_prefix_len-cheap.result in
    let before =
    more_well_formed input c.loop-most.n c.cheap_prefix_len-cheap.result c.loop-most.invariant.well_formed short in
    let part = rw (take_rest input n) at c.uncut_part-part.ensures.prefix in
    record {
      within = omega (arith, c.uncut_part-part.ensures.within, c.cheap_prefix_len-cheap.ensures.within);
      well_formed = part_well_formed input c.uncut_part-part.result.now n before part c.in-Ok.ensures.cases.1;
    }
