use Rattle.std.proofs.Common.{refl, arith}
use Rattle.std.specs.List.{IsDistinct}
use Rattle.lru.proofs.Splits.{Contains-nil}
use Rattle.cv_cache.proofs.maps.Maps.with_keys.Goals as goal

pub invariant_of-result : goal.invariant_of-result
unfolding IsDistinct
invariant_of-result c = rw c.in_ok-texts.ensures.entries (record {
  room = refl;
  right = λ e has. absurd (Contains-nil e has);
  distinct = tt;
  counted = refl;
  light = omega arith;
})
