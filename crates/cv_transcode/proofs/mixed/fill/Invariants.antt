use Rattle.std.proofs.Common.{◌-◌, ◌≤◌, length}
use Rattle.cv_transcode.specs.Private.Slack.{IsConvertedWithSlack}
use Rattle.cv_transcode.proofs.mixed.fill.Given as goal

abbrev pub invariant-loop-used : goal.invariant-loop-used
invariant-loop-used g l = record {
  within : l.used ≤ length l.text;
  few : l.parts ≤ l.used;
  behind : l.other ≤ l.used;
  fit : l.wrote ≤ l.end;
  converted : IsConvertedWithSlack g.S.WindowReader.bytes_of g.T.WindowWriter.bytes_of l.text l.fn.buffer 0 l.used
      l.wrote 48 l.buffer;
}

abbrev pub decreases-loop-used : goal.decreases-loop-used
decreases-loop-used g l = length l.text - l.used
