use Rattle.std.proofs.Common.{ℕ, ◌≡◌, ◌≤◌, ◌+◌, ◌*◌, ap, refl, arith, mul-zero, add-zero}
use Rattle.std.proofs.Math.Nat.{mul-add, mul-le-mul_left}
use Rattle.std.proofs.lemmas.List.{take_rest}
use Rattle.cv_base.specs.Units.{unit_size}
use Rattle.cv_block.proofs.AsciiRuns.{runs_join, run_behind, put_none, put_join}
use Rattle.cv_block.proofs.unit_blocks.take_blocks.Goals as goal

pub loop-n-init : goal.loop-n-init
loop-n-init g c = record {
  within = omega arith;
  index = rw mul-zero;
  end = rw (mul-zero, add-zero);
  small = λ k h. absurd (omega arith);
  put = put_none _ _ _ _ c.args.at;
}

pub loop-n-preserved : goal.loop-n-preserved
loop-n-preserved g c =
    let i = c.loop-n.invariant in
    let size = 16 * g.row.BLOCKS in
    let more : unit_size g.To.Unit.form * (c.loop-n.n + size) ≤ unit_size g.To.Unit.form * c.args.most =
    mul-le-mul_left (unit_size g.To.Unit.form) (omega arith) in
    let wide : c.size-in-loop-n.result * size ≡ unit_size g.To.Unit.form * size =
    ap (λ (k : ℕ). k * size) c.size-in-loop-n.ensures in
    let run = rw
    (take_rest c.args.rest.now c.loop-n.used) at (rw c.if-are_blocks_below.true at c.are_blocks_below.ensures refl) in
    record {
      within = omega arith;
      index = rw c.size.ensures (rw i.index (rw (mul-add (unit_size g.From.Unit.form) c.loop-n.n size) refl));
      end = omega (arith, wide, mul-add (unit_size g.To.Unit.form) c.loop-n.n size);
      small = runs_join _ _ c.args.rest.now c.loop-n.used c.loop-n.n size i.index i.small
          (run_behind _ _ c.args.rest.now c.loop-n.used size run);
      put = put_join g.From.Unit.form g.To.Unit.form c.args.rest.now c.args.out.now
          c.args.at c.loop-n.n size c.loop-n.used c.loop-n.end c.loop-n.out _ (omega (arith, more)) i.index i.end i.put
          (rw (take_rest c.args.rest.now c.loop-n.used) at c.write_blocks.ensures);
    }
