use Rattle.std.proofs.Common.{sym, ◌∙◌, arith, ◌+◌, ◌≡◌}
use Rattle.std.proofs.lemmas.List.{get_or_read}
use Rattle.cv_utf7.proofs.SetMembers.{written_lt}
use Rattle.cv_utf7.proofs.WriteRuns.{direct_more}
use Rattle.cv_utf7.proofs.write.runs.write_direct.Goals as goal

pub overflow_cast-out : goal.overflow_cast-out
overflow_cast-out c = omega (arith, written_lt c.value-value.result (sym c.if-not-stands.ensures))

pub loop-run-preserved : goal.loop-run-preserved
loop-run-preserved c =
    let p = c.loop-run.invariant in
    let n : c.args.n + (c.loop-run.run + 1) ≡ c.args.n + c.loop-run.run + 1 = omega arith in
    let at : c.args.at + (c.loop-run.run + 1) ≡ c.args.at + c.loop-run.run + 1 = omega arith in
    let value = c.value-value.ensures.number
    ∙ get_or_read c.args.characters.now _ _ c.loop-run-test.true c.index-characters-n.is 0 in
    rw (n, at) (direct_more _ _ p c.loop-run-test.true
    (omega (arith, p.few, p.counts, p.size, c.requires.room, c.requires.within)) _ value (sym c.if-not-stands.ensures))
