use Rattle.std.proofs.Common.{◌≤◌, ◌+◌, ◌*◌, refl, arith}
use Rattle.std.proofs.Math.Nat.{mul-le-mul_left}
use Rattle.std.proofs.lemmas.List.{take_rest}
use Rattle.cv_base.specs.Units.{unit_size}
use Rattle.cv_block.proofs.AsciiRuns.{runs_join, run_behind, put_join}
use Rattle.cv_block.proofs.unit_blocks.take_all_blocks.Goals as goal

pub returns-clause-small : goal.returns-clause-small
returns-clause-small g c =
    let n = c.take_blocks-n.result in
    let more = rw (take_rest c.args.rest.now (c.size.result * n)) at c.take_blocks-2.ensures.small in
    runs_join _ _ c.args.rest.now _ n c.take_blocks-2.result refl c.take_blocks-n.ensures.small
    (run_behind _ _ c.args.rest.now (unit_size g.From.Unit.form * n) c.take_blocks-2.result (rw c.size.ensures at more))

pub returns-clause-out : goal.returns-clause-out
returns-clause-out g c =
    let n = c.take_blocks-n.result in
    let more = c.take_blocks-2.result in
    let fits : unit_size g.To.Unit.form * (n + more) ≤ unit_size g.To.Unit.form * c.args.most = mul-le-mul_left
    (unit_size g.To.Unit.form) (omega (arith, c.take_blocks-2.ensures.within, c.take_blocks-n.ensures.within)) in
    let wrote = rw (take_rest c.args.rest.now (c.size.result * n)) at c.take_blocks-2.ensures.out in
    put_join g.From.Unit.form g.To.Unit.form c.args.rest.now c.args.out.now c.args.at n more (unit_size g.From.Unit.form
    * n) (c.args.at + unit_size g.To.Unit.form * n) c.take_blocks-n.new.out _ (omega (arith, fits, c.requires.fit)) refl
    refl c.take_blocks-n.ensures.out (rw (c.size.ensures, c.size-2.ensures) at wrote)
