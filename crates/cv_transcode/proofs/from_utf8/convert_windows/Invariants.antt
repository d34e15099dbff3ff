use Rattle.std.proofs.Common.{◌≤◌, ◌-◌, length}
use Rattle.cv_transcode.specs.Runs.{IsTranscoded}
use Rattle.cv_utf8.specs.Utf8.{utf8_bytes}
use Rattle.cv_utf16.specs.Utf16.{utf16}
use Rattle.cv_transcode.proofs.from_utf8.convert_windows.Given as goal

abbrev pub invariant-loop-used : goal.invariant-loop-used
invariant-loop-used g l = record {
  within : l.used ≤ length l.text;
  room : l.end ≤ length l.out;
  from : l.at ≤ l.end;
  other : l.other ≤ l.used;
  converted : IsTranscoded utf8_bytes (utf16 g.O.ByteOrder.endian) l.text l.fn.out l.at
      (record { used = l.used; wrote = l.end - l.at }) l.out;
}

abbrev pub decreases-loop-used : goal.decreases-loop-used
decreases-loop-used g l = length l.text - l.used
