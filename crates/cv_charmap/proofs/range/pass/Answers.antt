use Rattle.std.proofs.Common.{◌≡◌, ◌+◌, ℕ, List, sym, subst, arith}
use Rattle.std.specs.Prelude.{Ok}
use Rattle.cv_charmap.specs.Entries.{Pair}
use Rattle.cv_charmap.specs.Private.Seen.{PassesOn}
use Rattle.cv_charmap.proofs.Covering.{passed_alone}
use Rattle.cv_charmap.proofs.range.pass.Goals as goal

pub returns-then-size-gt0-clause-passes : goal.returns-then-size-gt0-clause-passes
returns-then-size-gt0-clause-passes c = λ count low within. subst (λ (p : ℕ).
    PassesOn c.args.pairs.now c.args.start.now.hex c.args.start.now.first c.args.start.now.bytes.now c.args.i count
    (Ok (record { at = c.args.i; index = p; size = c.pass_run-size.result }, c.args.i + c.pass_run-size.result))
    c.pass_run-size.new.pairs) (sym c.len-index.ensures) (c.pass_run-size.ensures.run c.if-size-gt0.true count within)

pub returns-in-Ok-clause-passes : goal.returns-in-Ok-clause-passes
returns-in-Ok-clause-passes c = λ count low within.
    (let passed = c.in-Ok.passed in
    let none : c.pass_run-size.new.pairs ≡ c.args.pairs.now =
    c.pass_run-size.ensures.none (omega (arith, c.if-size-gt0.false)) in
    subst (λ (x : List Pair). PassesOn x c.args.start.now.hex c.args.start.now.first c.args.start.now.bytes.now c.args.i
    count (Ok (record { at = c.args.i; index = passed.0; size = 1 }, passed.1)) c.pass_one.new.pairs) none
    (passed_alone c.pass_run-size.new.pairs c.pass_one.new.pairs c.args.start.now.hex c.args.start.now.first
    c.args.start.now.bytes.now c.args.i count passed.0 passed.1 (c.in-Ok.ensures.passes count low)))
