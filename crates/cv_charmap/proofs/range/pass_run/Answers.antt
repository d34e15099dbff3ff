use Rattle.std.proofs.Common.{take, length, sym, arith}
use Rattle.cv_charmap.proofs.Running.{at_once, last_of}
use Rattle.cv_charmap.proofs.range.pass_run.Goals as goal

pub enter_run-requires-clause-bytes : goal.enter_run-requires-clause-bytes
enter_run-requires-clause-bytes c = omega (
  arith,
  last_of c.in-Ok.entry.0 (length c.args.start.now.bytes.now) c.in-Ok.ensures.size c.requires.some c.requires.few,
  c.run_limit-most.ensures.bytes,
)

pub returns-clause-run : goal.returns-clause-run
returns-clause-run c = λ more count within.
    (let e = c.enter_run.ensures in
    let few = e.few in
    let limit = c.run_limit-most.ensures in
    let most = limit.few in
    at_once c.args.pairs.now c.enter_run.new.self c.args.start.now.hex c.args.start.now.first c.args.start.now.bytes.now
    (take (length c.args.start.now.bytes.now) c.in-Ok.entry.0) c.args.i c.in-Ok.entry.1 c.enter_run.result
    (limit.hex (omega arith)) c.requires.some (sym c.in-Ok.ensures.value) (omega (
      arith,
      last_of c.in-Ok.entry.0 (length c.args.start.now.bytes.now) c.in-Ok.ensures.size c.requires.some c.requires.few,
      limit.bytes,
    )) (λ k less. limit.scalars k (omega arith)) e.run e.apart e.full count (omega arith) more)
