use Rattle.std.proofs.Common.{◌≤◌, ◌-◌, ◌+◌, length}
use Rattle.cv_transcode.proofs.utf16.has_surrogates.Given as goal

abbrev pub invariant-loop-at : goal.invariant-loop-at
invariant-loop-at g l = l.last + 16 ≤ length l.text

abbrev pub decreases-loop-at : goal.decreases-loop-at
decreases-loop-at g l = l.last - l.at
