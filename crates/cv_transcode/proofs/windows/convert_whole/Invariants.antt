use Rattle.std.proofs.Common.{◌≤◌, ◌-◌, length, drop}
use Rattle.cv_transcode.specs.Private.Slack.{IsConvertedWithSlack}
use Rattle.cv_transcode.specs.Private.Windows.{IsWindow, AreAhead}
use Rattle.cv_transcode.proofs.windows.convert_whole.Given as goal

abbrev pub invariant-loop-ahead : goal.invariant-loop-ahead
invariant-loop-ahead g l = record {
  ahead : AreAhead g.S.WindowReader.window_size (length l.text - l.used) (length l.out - l.end) l.ahead;
  from : l.at ≤ l.end;
  window : IsWindow g.S.WindowReader.bytes_of g.S.WindowReader.window_size (drop l.used l.text) l.units;
  converted : IsConvertedWithSlack g.S.WindowReader.bytes_of g.T.WindowWriter.bytes_of l.text l.fn.out l.at l.used
      (l.end - l.at) 16 l.out;
}

abbrev pub decreases-loop-ahead : goal.decreases-loop-ahead
decreases-loop-ahead g l = length l.text - l.used
