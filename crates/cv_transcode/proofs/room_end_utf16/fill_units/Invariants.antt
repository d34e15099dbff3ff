use Rattle.std.proofs.Common.{◌+◌, ◌-◌, ◌≤◌, length}
use Rattle.cv_transcode.specs.Runs.{IsTranscoded}
use Rattle.cv_utf8.specs.Utf8.{utf8_bytes}
use Rattle.cv_utf16.specs.Utf16.{utf16}
use Rattle.cv_transcode.proofs.room_end_utf16.fill_units.Given as goal

abbrev pub invariant-loop : goal.invariant-loop
invariant-loop g l = record {
  within : l.used ≤ length l.text;
  room : l.at + l.wrote ≤ length l.out;
  converted : IsTranscoded utf8_bytes (utf16 g.O.ByteOrder.endian) l.text l.fn.out l.at
      (record { used = l.used; wrote = l.wrote }) l.out;
}

abbrev pub decreases-loop : goal.decreases-loop
decreases-loop g l = length l.text - l.used
