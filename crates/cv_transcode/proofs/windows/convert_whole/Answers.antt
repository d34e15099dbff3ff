use Rattle.std.proofs.Common.{arith, refl, ◌<◌, ◌+◌, ◌-◌, length, length-drop}
use Rattle.std.proofs.lemmas.List.{take_rest}
use Rattle.cv_transcode.specs.Private.Windows.{AreAhead}
use Rattle.cv_transcode.proofs.Converting.{window_on, all_converted}
use Rattle.cv_transcode.proofs.WindowsAhead.{one_fewer}
use Rattle.cv_transcode.proofs.windows.convert_whole.Goals.{then-ahead-eq0+else-ahead-eq0-2, else-ahead-eq0}
use Rattle.cv_transcode.proofs.windows.convert_whole.Goals as goal

pub window-next-requires : goal.window-next-requires
window-next-requires g c =
    let size = g.S.WindowReader.window_size in
    let ahead = c.if-ahead-eq0.ahead in
    let bytes : 0 < size = omega (arith, c.window_size-size.ensures.some, c.window_size-size.ensures.size) in
    let facts : (0 < ahead) × AreAhead size (length c.args.text.now - c.loop-ahead.used)
    (length c.loop-ahead.out - c.loop-ahead.end) ahead = elim c.if-ahead-eq0.branch [
      | then-ahead-eq0+else-ahead-eq0-2 w ↦ (
        omega (arith, w.ahead-is, w.if-ahead-eq0-2.false),
        rw w.ahead-is (rw c.window_size-size.ensures.size at w.windows_ahead-ahead.ensures),
      )
      | else-ahead-eq0 w ↦ (omega (arith, w.ahead-is, w.if-ahead-eq0.false), rw w.ahead-is c.loop-ahead.invariant.ahead)
    ] in
    let next = one_fewer size (length c.args.text.now) c.loop-ahead.used (length c.loop-ahead.out) c.loop-ahead.end 0
    ahead bytes facts.0 (omega arith) facts.1 in
    rw take_rest (omega (
      arith,
      next.0,
      c.window_size-size.ensures.size,
      length-drop (c.loop-ahead.used + c.window_size-size.result) c.args.text.now,
    ))

pub loop-ahead-preserved : goal.loop-ahead-preserved
loop-ahead-preserved g c =
    let size = g.S.WindowReader.window_size in
    let ahead = c.if-ahead-eq0.ahead in
    let i = c.loop-ahead.invariant in
    let used = c.loop-ahead.used in
    let end = c.loop-ahead.end in
    let put = c.write_window-wrote.ensures in
    let bytes : 0 < size = omega (arith, c.window_size-size.ensures.some, c.window_size-size.ensures.size) in
    let facts : (0 < ahead) × AreAhead size (length c.args.text.now - used) (length c.loop-ahead.out - end) ahead =
    elim c.if-ahead-eq0.branch [
      | then-ahead-eq0+else-ahead-eq0-2 w ↦ (
        omega (arith, w.ahead-is, w.if-ahead-eq0-2.false),
        rw w.ahead-is (rw c.window_size-size.ensures.size at w.windows_ahead-ahead.ensures),
      )
      | else-ahead-eq0 w ↦ (omega (arith, w.ahead-is, w.if-ahead-eq0.false), rw w.ahead-is i.ahead)
    ] in
    rw c.window_size-size.ensures.size (record {
      ahead = rw put.put.size (one_fewer size (length c.args.text.now) used (length c.loop-ahead.out) end _ ahead bytes
          facts.0 put.few facts.1).1;
      from = omega (arith, i.from);
      window = rw (c.window_size-size.ensures.size, take_rest) at
          (c.window-next.ensures.window (c.if-not-are_characters-2.ensures refl));
      converted = window_on _ _ c.args.text.now c.args.out.now c.args.at used _ end _ 16 _ _ _ i.from i.converted
          i.window put.put put.some;
    })

pub returns-clause-run : goal.returns-clause-run
returns-clause-run g c =
    let i = c.loop-ahead.invariant in
    let put = c.write_last-end.ensures in
    rw c.window_size-size.ensures.size (all_converted _ _ c.args.text.now c.args.out.now c.args.at _ _ _
    (window_on _ _ c.args.text.now c.args.out.now c.args.at c.loop-ahead.used _ c.loop-ahead.end _ 0 _ _ _ i.from
    i.converted i.window put.put put.some))
