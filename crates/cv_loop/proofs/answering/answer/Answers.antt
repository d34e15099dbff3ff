use Rattle.std.proofs.Common.{◌≡◌, [], arith, rules}
use Rattle.std.proofs.lemmas.Bool.Decides.{nat_tests}
use Rattle.std.proofs.lemmas.List.{nil_from_length}
use Rattle.std.proofs.lemmas.Result.{err_from_is_err_and}
use Rattle.cv_loop.proofs.Flows.{Answered-none, Stopped-memory}
use Rattle.cv_loop.proofs.OneBatch.{no_replies, no_write}
use Rattle.cv_loop.proofs.answering.answer.Goals as goal

pub returns-in_err-batch-clause-err : goal.returns-in_err-batch-clause-err
returns-in_err-batch-clause-err g c =
    let p = err_from_is_err_and c.from_residual.result c.from_residual.ensures.1 in
    rw (p.1, p.2) (Stopped-memory _ _ _ _ _ c.requires.works)

pub returns-then-is_empty-clause-ok : goal.returns-then-is_empty-clause-ok
returns-then-is_empty-clause-ok g c =
    let b = c.in_ok-batch.ensures in
    let nothing : c.in_ok-batch.batch.requests.items ≡ [] = nil_from_length _ (grind (arith, nat_tests)) in
    record {
      asked = _;
      within = b.within;
      fits = b.fits;
      front = b.cut;
      answered = rw nothing (Answered-none _ _ _ (omega arith));
      counts = omega arith;
    }

pub returns-in_err-batch_into-clause-err : goal.returns-in_err-batch_into-clause-err
returns-in_err-batch_into-clause-err g c =
    let p = err_from_is_err_and c.from_residual-in_err-batch_into.result c.from_residual-in_err-batch_into.ensures.1 in
    let b = c.in_ok-batch.ensures in
    let e = rw c.deref.ensures.value at c.in_err-batch_into.ensures.err in
    let broken = no_replies _ _ _ _ e.0 _ _ _ _ e.1 e.2 c.requires.works in
    rw (p.1, p.2) (record { asked = _; rest = _; fits = b.fits; front = b.cut; stops = broken })

pub returns-clause-err : goal.returns-clause-err
returns-clause-err g c =
    let b = c.in_ok-batch.ensures in
    let told = c.in-Err.ensures in
    let broken = no_write _ _ _ _ _ _ _ _ _ _ _ _ (rw c.deref.ensures.value at c.in_ok-batch_into.ensures.ok)
    (search rules) c.as_slice-replies.ensures told.some told.taken c.saturating_add-written.ensures told.failed in
    record { asked = _; rest = _; fits = b.fits; front = b.cut; stops = broken }
