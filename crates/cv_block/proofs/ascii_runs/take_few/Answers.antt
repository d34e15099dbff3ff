use Rattle.std.proofs.Common.{◌+◌, ◌*◌, ◌≤◌, arith, add-one, add-zero, mul-zero}
use Rattle.cv_base.specs.Units.{unit_size}
use Rattle.cv_block.proofs.AsciiRuns.{unit_more, unit_fits, put_none, put_more, run_more}
use Rattle.cv_block.proofs.ascii_runs.take_few.Goals as goal

pub loop-n-init : goal.loop-n-init
loop-n-init g c = record {
  within = omega arith;
  index = rw mul-zero;
  end = rw (mul-zero, add-zero);
  small = λ k h. absurd (omega arith);
  put = put_none _ _ _ _ c.args.at;
}

pub loop-n-preserved : goal.loop-n-preserved
loop-n-preserved g c =
    let i = c.loop-n.invariant in
    let fits : unit_size g.To.Unit.form * c.loop-n.n + unit_size g.To.Unit.form
    ≤ unit_size g.To.Unit.form * c.args.most = unit_fits g.To.Unit.form c.loop-n.n c.args.most (omega arith) in
    record {
      within = omega arith;
      index = omega (arith, unit_more g.From.Unit.form c.loop-n.n);
      end = omega (arith, unit_more g.To.Unit.form c.loop-n.n);
      small = run_more _ _ _ c.loop-n.n c.loop-n.used i.index i.small (c.is_below.ensures c.if-is_below.true);
      put = rw add-one (put_more _ _ _ _ c.args.at c.loop-n.n c.loop-n.end c.character.result c.loop-n.out _
          (omega arith) i.end (rw i.index at c.character.ensures.lowest) i.put c.write.ensures);
    }
