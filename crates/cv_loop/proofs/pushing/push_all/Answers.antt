use Rattle.std.proofs.Common.{◌≡◌, ◌≢◌, ℕ, Bool, ◌||◌, ◌&&◌, not, ◌==◌, arith, ◌∙◌}
use Rattle.std.proofs.lemmas.List.{take_rest}
use Rattle.std.proofs.lemmas.Bool.Decides.{nat_tests}
use Rattle.cv_loop.proofs.Known.{Appends-more}
use Rattle.cv_loop.proofs.pushing.push_all.Goals as goal

some_taken : (failed : Bool) (n length : ℕ) → n ≢ 0 → (failed || ((n == 0) && not (length == 0))) ≡ failed
some_taken failed n length some = grind (arith, nat_tests)

pub loop-n-preserved : goal.loop-n-preserved
loop-n-preserved g c = record {
  within = grind arith;
  works = c.in-Ok.ensures.failed ∙ some_taken _ c.in-Ok.more _ (grind arith) ∙ c.loop-n.invariant.works;
  taken = Appends-more _ _ _ _ _ _ c.loop-n.invariant.taken
      (rw (take_rest c.args.bytes.now c.loop-n.n) at c.in-Ok.ensures.bytes);
}
