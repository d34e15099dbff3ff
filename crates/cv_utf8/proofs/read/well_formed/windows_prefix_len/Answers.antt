use Rattle.std.proofs.Common.{arith}
use Rattle.cv_utf8.proofs.Utf8Front.{lanes_within, lanes_well_formed}
use Rattle.cv_utf8.proofs.read.well_formed.windows_prefix_len.Goals as goal

pub overflow_add-n : goal.overflow_add-n
overflow_add-n c = record {
  fits = omega (
    arith,
    lanes_within c.args.text.now c.loop-n.n _ c.loop-n.invariant.within
        c.complete_lanes-units.ensures.read,
  );
}

pub loop-n-preserved : goal.loop-n-preserved
loop-n-preserved c =
    let i = c.loop-n.invariant in
    let read = c.complete_lanes-units.ensures.read in
    record {
      within = lanes_within c.args.text.now c.loop-n.n _ i.within read;
      well_formed = lanes_well_formed c.args.text.now c.loop-n.n _ i.well_formed read;
    }

pub returns-then-units-lt-LEAST_USED-clause-well_formed : goal.returns-then-units-lt-LEAST_USED-clause-well_formed
returns-then-units-lt-LEAST_USED-clause-well_formed c = lanes_well_formed c.args.text.now c.loop-n.n _
    c.loop-n.invariant.well_formed c.complete_lanes-units.ensures.read
