use Rattle.std.proofs.Common.{refl}
use Rattle.cv_base.specs.declared.state.ReadState.TheVariants as read
use Rattle.cv_utf7.proofs.ReadSteps.{reads_more, reads_same, reads_to}
use Rattle.cv_utf7.proofs.read.sequences.read_inside.Goals as goal

pub returns-in_default-next : goal.returns-in_default-next
returns-in_default-next c = reads_more c.loop-count.invariant c.in-Some.ensures.0

pub loop-count-preserved-in-Some : goal.loop-count-preserved-in-Some
loop-count-preserved-in-Some c = reads_to (reads_more c.loop-count.invariant c.in-Some.ensures.0)
    (read.Shifted c.in-Shifted.over) _ _ c.in-Shifted.is refl refl

pub loop-count-preserved : goal.loop-count-preserved
loop-count-preserved c =
    let kept = reads_same c.loop-count.invariant c.read_sixteen.new.buffer c.read_sixteen.auto.buffer
    c.in_default.ensures in
    reads_to (reads_more kept c.in-Some-read_next.ensures.0) (read.Shifted c.in-Shifted-next.over) _ _
    c.in-Shifted-next.is refl refl

pub returns-in_default-next-2 : goal.returns-in_default-next-2
returns-in_default-next-2 c =
    let kept = reads_same c.loop-count.invariant c.read_sixteen.new.buffer c.read_sixteen.auto.buffer
    c.in_default.ensures in
    reads_more kept c.in-Some-read_next.ensures.0
