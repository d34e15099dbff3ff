use Rattle.std.proofs.Common.{arith}
use Rattle.cv_base.specs.declared.state.WriteState.TheVariants as write
use Rattle.cv_utf7.specs.Private.WriteSteps.{written_to}
use Rattle.cv_utf7.proofs.Groups.{stays}
use Rattle.cv_utf7.proofs.WriteSteps.{writes_more}
use Rattle.cv_utf7.proofs.write.sequences.continue_sequence.Goals as goal

pub returns-clause-more : goal.returns-clause-more
returns-clause-more c =
    let reached = c.continue_at_once-reached in
    writes_more (stays c.args.characters.now (written_to (write.Shifted c.args.pending) c.args.n c.args.at)
    reached.result c.args.out.now reached.new.out reached.ensures
    (omega (arith, reached.ensures.counts))) c.write_inside.ensures.more
