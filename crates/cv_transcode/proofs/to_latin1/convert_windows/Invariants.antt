use Rattle.std.proofs.Common.{[], ◌∷◌, ◌≤◌, ◌-◌, length}
use Rattle.cv_transcode.specs.Runs.{IsTranscoded}
use Rattle.cv_utf8.specs.Utf8.{utf8_bytes}
use Rattle.cv_transcode.proofs.to_latin1.convert_windows.Given as goal

abbrev pub invariant-loop-ascii : goal.invariant-loop-ascii
invariant-loop-ascii l = record {
  within : l.used ≤ length l.text;
  room : l.end ≤ length l.out;
  from : l.at ≤ l.end;
  converted : IsTranscoded utf8_bytes (λ c. c ∷ []) l.text l.fn.out l.at
      (record { used = l.used; wrote = l.end - l.at }) l.out;
}

abbrev pub decreases-loop-ascii : goal.decreases-loop-ascii
decreases-loop-ascii l = length l.text - l.used
