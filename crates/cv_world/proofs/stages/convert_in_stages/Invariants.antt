use Rattle.std.proofs.Common.{◌-◌, ◌*◌, ◌≡◌, ◌≤◌, ℕ, List, length, take}
use Rattle.cv_pivot.specs.declared.conversion.Conversion.{Conversion}
use Rattle.cv_world.specs.Private.Stages.{Appends, sum_of}
use Rattle.cv_world.specs.declared.stages.ConvOutcome.{ConvOutcome}
use Rattle.cv_world.proofs.stages.convert_in_stages.Given as goal

abbrev pub invariant-loop-part : goal.invariant-loop-part
invariant-loop-part l = record {
  rest : (w : Conversion) (o : ConvOutcome) (after : List ℕ) → Appends l.conversion w l.rest l.size_left o l.output
      after → Appends l.fn.conversion w l.fn.input l.fn.size (sum_of l.sum o) l.fn.output after;
  kept : l.conversion ≡ record l.fn.conversion { states = l.conversion.states };
  before : take (length l.fn.output) l.output ≡ l.fn.output;
  room : l.room ≤ l.size_left;
  guess : l.guess ≤ 3;
  last : l.guess ≡ 3 → l.room ≡ l.size_left;
  count : l.sum.count ≤ l.guess * 1048567;
  few : length l.rest ≤ length l.fn.input;
  size : l.size_left ≤ l.fn.size;
}

abbrev pub decreases-loop-part : goal.decreases-loop-part
decreases-loop-part l = 3 - l.guess
