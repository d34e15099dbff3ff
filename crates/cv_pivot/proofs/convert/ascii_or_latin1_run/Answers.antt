use Rattle.std.proofs.Common.{arith}
use Rattle.cv_pivot.proofs.AsciiRunIsChain.{bytes_taken, run_within, units_taken}
use Rattle.cv_pivot.proofs.convert.ascii_or_latin1_run.Goals as goal
use Rattle.cv_pivot.proofs.convert.ascii_or_latin1_run.Goals.{in-Some+in_default, in-None+in_ok-form-in-None}

pub returns-in-Some-writes_latin : goal.returns-in-Some-writes_latin
returns-in-Some-writes_latin g c =
    let run = c.take_latin1_run-n.ensures in
    rw c.run_progress.ensures (units_taken 0x100
    (omega arith) _ _ c.args.states c.args.rest.now c.args.out.now c.args.at _ _ _ c.take_latin1_run-n.result
    c.in-Some.ensures c.in-Some-writes_latin.ensures run.stand run.fit run.small run.none run.out)

pub returns : goal.returns
returns g c =
    let run = c.take_ascii_run-n.ensures in
    rw c.run_progress-2.ensures (units_taken 128
    (omega arith) _ _ c.args.states c.args.rest.now c.args.out.now c.args.at _ _ _ c.take_ascii_run-n.result
    (elim c.match-reads_latin.branch [
      | in-Some+in_default w ↦ rw w.form-is (λ k h. w.in-Some.ensures k (omega (arith, h)))
      | in-None+in_ok-form-in-None w ↦ rw w.form-is w.in_ok-form-in-None.ensures
    ])
    c.in-Some-writes_ascii.ensures run.stand run.fit run.small run.none run.out)

pub run_progress-requires-in_default-writes_ascii-clause-read
    : goal.run_progress-requires-in_default-writes_ascii-clause-read
run_progress-requires-in_default-writes_ascii-clause-read g c = omega (
  arith,
  run_within _ _ c.match-reads_latin.form c.args.rest.now _ _ c.write_ascii_run-n.result _ c.write_ascii_run-n.ensures,
)

pub returns-in_default-writes_ascii : goal.returns-in_default-writes_ascii
returns-in_default-writes_ascii g c =
    rw c.run_progress-in_default-writes_ascii.ensures (bytes_taken _ _ c.args.states c.args.rest.now c.args.out.now
    c.args.at c.match-reads_latin.form c.write_ascii_run-n.result _ (elim c.match-reads_latin.branch [
      | in-Some+in_default w ↦ rw w.form-is (λ k h. w.in-Some.ensures k (omega (arith, h)))
      | in-None+in_ok-form-in-None w ↦ rw w.form-is w.in_ok-form-in-None.ensures
    ]) c.write_ascii_run-n.ensures)
