use Rattle.std.proofs.Common.{arith, ◌≡◌, ◌+◌, length-drop}
use Rattle.std.proofs.lemmas.List.{take_rest}
use Rattle.cv_transcode.proofs.Parts.{converted_more, slack_within}
use Rattle.cv_transcode.proofs.mixed.fill.Goals as goal

pub overflow_add-used-in-loop-used : goal.overflow_add-used-in-loop-used
overflow_add-used-in-loop-used g c =
    let run = rw take_rest at c.convert_window-run.ensures.converted in
    let few = slack_within _ _ _ _ _ _ _ _ _ run in
    omega (arith, few, length-drop c.loop-used.used c.args.text.now, c.loop-used.invariant.within)

pub loop-used-preserved : goal.loop-used-preserved
loop-used-preserved g c =
    let i = c.loop-used.invariant in
    let from = g.S.WindowReader.bytes_of in
    let to = g.T.WindowWriter.bytes_of in
    let used = c.loop-used.used in
    let wrote = c.loop-used.wrote in
    let more = c.convert_window-run.result in
    let run = rw take_rest at c.convert_window-run.ensures.converted in
    let few = slack_within _ _ _ _ _ _ _ _ _ run in
    let place : wrote ≡ 0 + wrote = omega arith in
    record {
      within = omega (arith, few, length-drop used c.args.text.now, i.within);
      few = omega (arith, i.few, c.if-run-eq0.false);
      behind = c.last_other-other.ensures;
      fit = c.convert_window-run.ensures.fit;
      converted = converted_more from to c.args.text.now c.args.buffer.now 0 used wrote 48 more.used more.wrote 48 48
          wrote c.loop-used.buffer c.convert_window-run.new.out i.converted place run (omega arith) (omega arith);
    }

pub returns-then-run-eq0-clause-converted : goal.returns-then-run-eq0-clause-converted
returns-then-run-eq0-clause-converted g c =
    let i = c.loop-used.invariant in
    let used = c.loop-used.used in
    let wrote = c.loop-used.wrote in
    let more = c.convert_window-run.result in
    let place : wrote ≡ 0 + wrote = omega arith in
    converted_more g.S.WindowReader.bytes_of g.T.WindowWriter.bytes_of c.args.text.now c.args.buffer.now 0 used wrote 48
    more.used more.wrote 48 48 wrote c.loop-used.buffer c.convert_window-run.new.out i.converted place
    (rw take_rest at c.convert_window-run.ensures.converted) (omega arith) (omega arith)
