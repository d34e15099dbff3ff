use Rattle.std.proofs.Common.{◌≡◌, ◌+◌, ◌-◌, ◌≤◌, length}
use Rattle.cv_transcode.specs.Runs.{IsTranscoded}
use Rattle.cv_transcode.proofs.mixed.convert_parts.Given as goal

abbrev pub invariant-loop-on : goal.invariant-loop-on
invariant-loop-on g l = record {
  within : l.used ≤ length l.text;
  room : l.at + l.wrote ≤ length l.out;
  none : l.used ≡ 0 → l.out ≡ l.fn.out;
  converted : IsTranscoded g.S.WindowReader.bytes_of g.T.WindowWriter.bytes_of l.text l.fn.out l.at
      (record { used = l.used; wrote = l.wrote }) l.out;
}

abbrev pub decreases-loop-on : goal.decreases-loop-on
decreases-loop-on g l = length l.text - l.used
