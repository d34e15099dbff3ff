use Rattle.std.proofs.Common.{◌≤◌, ◌+◌, ◌*◌, length, refl, arith, rules}
use Rattle.std.proofs.Math.Nat.{mul-le-mul_left}
use Rattle.std.proofs.lemmas.List.{take_rest}
use Rattle.cv_base.specs.Units.{unit_size}
use Rattle.cv_block.proofs.AsciiRuns.{runs_join, run_behind, put_join}
use Rattle.cv_block.proofs.ascii_runs.take_in.Goals as goal

pub returns-clause-small : goal.returns-clause-small
returns-clause-small g c =
    let n = c.take_all_blocks-n.result in
    let few = rw (take_rest c.args.rest.now (c.size-3.result * n)) at c.take_few.ensures.small in
    runs_join _ _ c.args.rest.now _ n c.take_few.result refl c.take_all_blocks-n.ensures.small
    (run_behind _ _ c.args.rest.now (unit_size g.From.Unit.form * n) c.take_few.result (rw c.size-3.ensures at few))

pub returns-clause-out : goal.returns-clause-out
returns-clause-out g c =
    let n = c.take_all_blocks-n.result in
    let few = c.take_few.result in
    let more : unit_size g.To.Unit.form * (n + few) ≤ unit_size g.To.Unit.form * c.min-most.result =
    mul-le-mul_left (unit_size g.To.Unit.form) (omega (arith, c.take_few.ensures.within)) in
    let fits : c.args.at + unit_size g.To.Unit.form * c.min-most.result ≤ length c.args.out.now = search rules in
    let wrote = rw (take_rest c.args.rest.now (c.size-3.result * n)) at c.take_few.ensures.out in
    put_join g.From.Unit.form g.To.Unit.form c.args.rest.now c.args.out.now c.args.at n few (unit_size g.From.Unit.form
    * n) (c.args.at + unit_size g.To.Unit.form * n) c.take_all_blocks-n.new.out _ (omega (arith, more, fits)) refl refl
    c.take_all_blocks-n.ensures.out (rw (c.size-3.ensures, c.size-4.ensures) at wrote)
