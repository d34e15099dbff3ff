use Rattle.std.proofs.Common.{◌≡◌}
use Rattle.std.specs.List.{find}
use Rattle.cv_cache.specs.Private.Numbers.{matches}
use Rattle.cv_cache.proofs.cached_text.entry_of.Given as goal

abbrev pub invariant-loop-number : goal.invariant-loop-number
invariant-loop-number l = find (matches l.sum l.text) l.number-iterator ≡ find (matches l.sum l.text) l.entries.entries
