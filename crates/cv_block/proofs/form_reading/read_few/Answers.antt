use Rattle.std.proofs.Common.{arith}
use Rattle.cv_block.proofs.FormRuns.{read_within, read_one_more}
use Rattle.cv_block.proofs.form_reading.read_few.Goals as goal

pub overflow_add-at : goal.overflow_add-at
overflow_add-at g c =
    omega (arith, read_within _ _ c.args.at _ c.args.n _ _ c.loop-more.invariant.read c.requires.within)

pub read_at-requires : goal.read_at-requires
read_at-requires g c = read_within _ _ c.args.at _ c.args.n _ _ c.loop-more.invariant.read c.requires.within

pub overflow_add-used : goal.overflow_add-used
overflow_add-used g c =
    let more =
    read_one_more _ _ c.args.at _ c.args.n _ _ _ _ _ c.loop-more.invariant.read (omega arith) c.in-Some.ensures in
    omega (arith, read_within _ _ c.args.at _ c.args.n _ _ more c.requires.within)

pub loop-more-preserved : goal.loop-more-preserved
loop-more-preserved g c = record {
  few = omega arith;
  read = read_one_more _ _ c.args.at _ c.args.n _ _ _ _ _ c.loop-more.invariant.read (omega arith) c.in-Some.ensures;
}

pub returns-then-size-last : goal.returns-then-size-last
returns-then-size-last g c =
    read_one_more _ _ c.args.at _ c.args.n _ _ _ _ _ c.loop-more.invariant.read (omega arith) c.in-Some.ensures
