use Rattle.std.proofs.Common.{◌≡◌, ◌+◌, ◌-◌, ◌≤◌, length}
use Rattle.cv_transcode.specs.Runs.{IsTranscoded}
use Rattle.cv_transcode.proofs.room_end.fill_room.Given as goal

abbrev pub invariant-loop : goal.invariant-loop
invariant-loop g l = record {
  within : l.used ≤ length l.text;
  room : l.at + l.wrote ≤ length l.out;
  none : l.used ≡ 0 → l.out ≡ l.fn.out;
  converted : IsTranscoded g.S.WindowReader.bytes_of g.T.WindowWriter.bytes_of l.text l.fn.out l.at
      (record { used = l.used; wrote = l.wrote }) l.out;
}

abbrev pub decreases-loop : goal.decreases-loop
decreases-loop g l = length l.text - l.used
