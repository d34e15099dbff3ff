use Rattle.std.proofs.Common.{◌-◌, ◌≤◌}
use Rattle.cv_transcode.specs.Private.Slack.{IsConvertedWithSlack}
use Rattle.cv_transcode.proofs.mixed.convert_supplementary.Given as goal

abbrev pub invariant-loop-used : goal.invariant-loop-used
invariant-loop-used g l = record {
  within : l.used ≤ l.most;
  converted : IsConvertedWithSlack g.S.WindowReader.bytes_of g.T.WindowWriter.bytes_of l.text l.fn.out l.at l.used
      l.used 0 l.out;
}

abbrev pub decreases-loop-used : goal.decreases-loop-used
decreases-loop-used g l = l.most - l.used
