-- What a scan finds at the start of bytes.
use Rattle.std.specs.Prelude.{◌≡◌, ℕ, Option, Some, None}
use Rattle.cv_frame.specs.declared.reading.Frame.{Frame}
use Rattle.cv_frame.specs.declared.reading.Frame.TheVariants.{Whole, Partial, Bad}
use Rattle.cv_metrics.specs.declared.scan.Scan.{Scan}
use Rattle.cv_metrics.specs.declared.scan.State.TheVariants.{Head}

-- The bytes so far end between two frames, or there were none.
abbrev pub IsBetweenFrames : Scan → Type 0
IsBetweenFrames scan = scan.state ≡ Head 0

-- The op or status of a whole frame, and the frame's length in bytes. Otherwise `None`.
abbrev pub seen_in : Frame → Option (ℕ × ℕ)
seen_in (Whole message n) = Some (message.code, n)
seen_in Partial = None
seen_in (Bad length) = None
