use Rattle.std.proofs.Common.{◌∙◌, ◌+◌, sym, ap, subst, arith, length, take, ℕ}
use Rattle.std.specs.Prelude.{Result, Ok}
use Rattle.cv_charmap.specs.Entries.{Pair}
use Rattle.cv_charmap.specs.Private.Seen.{Enters, padded_entry}
use Rattle.cv_charmap.specs.declared.pair_list.EntryFault.{EntryFault}
use Rattle.cv_charmap.proofs.Covering.{passed_on, refused_run}
use Rattle.cv_charmap.proofs.EntryLemmas.{stops_at_cause}
use Rattle.cv_charmap.proofs.range.pass_one.Goals as goal

pub returns-in-Err-clause-passes : goal.returns-in-Err-clause-passes
returns-in-Err-clause-passes c = λ count low n. stops_at_cause c.args.start.now.hex
    c.args.start.now.first c.args.start.now.bytes.now c.args.i count low c.args.pairs.now n c.in-Err.cause
    (sym c.entry_at.ensures.value ∙ ap (padded_entry (length c.args.start.now.bytes.now)) c.in-Err.is)

pub returns-in-Err-enter-clause-passes : goal.returns-in-Err-enter-clause-passes
returns-in-Err-enter-clause-passes c = λ count low.
    (let p : Pair = (take (length c.args.start.now.bytes.now) c.in-Ok.entry.0, c.in-Ok.entry.1) in
    let enters = subst (λ (r : Result ℕ EntryFault). Enters c.args.pairs.now p r c.enter.new.self) c.in-Err-enter.is
    c.enter.ensures.enters in
    refused_run c.args.pairs.now c.enter.new.self p c.in-Err-enter.fault enters c.args.start.now.hex
    c.args.start.now.first c.args.start.now.bytes.now c.args.i count low (sym c.in-Ok.ensures.value))

pub returns-clause-passes : goal.returns-clause-passes
returns-clause-passes c = λ count low.
    (let p : Pair = (take (length c.args.start.now.bytes.now) c.in-Ok.entry.0, c.in-Ok.entry.1) in
    let enters = rw c.in-Ok-enter.is at c.enter.ensures.enters in
    let e = sym c.in-Ok.ensures.value in
    let known = c.covered_from-known.ensures in
    let on = passed_on c.args.pairs.now c.enter.new.self p c.in-Ok-enter.index enters known.apart c.args.start.now.hex
    c.args.start.now.first c.args.start.now.bytes.now c.args.i count c.covered_from-known.result c.max.result
    (c.from.result + c.args.i) low e (ap (λ (x : ℕ). x + c.args.i) c.from.ensures) known.has c.max.ensures in (
      omega (arith, c.max.ensures),
      c.enter.ensures.stay,
      on.0,
      enters.2,
      e ∙ ap (λ (x : Pair). Ok x) (sym enters.3),
      on.1,
    ))
