use Rattle.std.proofs.Common.{◌≡◌, sym, ◌∙◌, ap, not, true, List}
use Rattle.std.specs.Prelude.{Ok, is_ok}
use Rattle.cv_charmap.specs.Entries.{Pair}
use Rattle.cv_charmap.proofs.EntryLemmas.{from_whole, range_ends}
use Rattle.cv_charmap.proofs.Ranging.{range_refused, range_passed}
use Rattle.cv_charmap.proofs.range.enter_range.Goals as goal

pub returns-in-Err : goal.returns-in-Err
returns-in-Err c n =
    let passes =
    rw c.in-Err.is at (c.pass.ensures.passes c.count_of-count.result c.loop-i-test.true c.left_of-left.ensures) in
    range_refused c.args.pairs.now c.loop-i.pairs c.pass.new.pairs c.args.start.now.hex c.args.start.now.first
    c.args.start.now.bytes.now c.count_of-count.result c.loop-i.i c.loop-i.found.items c.loop-i.invariant.entering
    c.args.last n c.in-Err.fault c.count_of-count.ensures.value passes

pub loop-i-preserved : goal.loop-i-preserved
loop-i-preserved c =
    let passes = c.in-Ok.ensures.passes c.count_of-count.result c.loop-i-test.true c.left_of-left.ensures in
    let pushed : is_ok c.push.result ≡ true = c.is_err.ensures.negation ∙ ap not c.if-is_err.false in
    let more = rw pushed at c.push.ensures.items in
    record {
      entering = range_passed c.args.pairs.now c.loop-i.pairs c.pass.new.pairs c.args.start.now.hex
          c.args.start.now.first c.args.start.now.bytes.now c.count_of-count.result c.loop-i.i c.loop-i.found.items
          c.loop-i.invariant.entering c.in-Ok.passed passes c.push.new.self.items more;
      near = c.in-Ok.ensures.near;
    }

pub returns-in-Ok-cover : goal.returns-in-Ok-cover
returns-in-Ok-cover c n =
    let i = c.loop-i.invariant.entering in
    from_whole c.args.start.now.hex c.args.start.now.first c.args.last c.args.start.now.bytes.now c.loop-i.i
    c.count_of-count.result c.args.pairs.now c.loop-i.pairs n c.count_of-count.ensures.value (i.run n)
    ∙ range_ends c.args.start.now.hex c.args.start.now.first c.args.start.now.bytes.now c.loop-i.i
    c.count_of-count.result c.loop-i-test.false c.loop-i.pairs n ∙ ap (λ (x : List Pair). Ok x) (sym c.cover.ensures)
