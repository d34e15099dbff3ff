use Rattle.std.proofs.Common.{◌≡◌, ◌≢◌, ℕ, ◌+◌, get_or, ◌∙◌, arith, get_or-set_other, get_or-set_same, slice_set}
use Rattle.std.proofs.Common.{below_more}
use Rattle.std.proofs.lemmas.List.{length-set}
use Rattle.cv_simd.proofs.double_bytes.both_fours.Goals as goal

pub loop-k-preserved : goal.loop-k-preserved
loop-k-preserved c =
    let i = c.loop-k.invariant in
    let k = c.loop-k.k in
    let v = get_or c.args.second.now k 0 in
    record {
      long = length-set c.loop-k.pairs (8 + k) v ∙ i.long;
      first = λ j h.
          (let ne : j ≢ 8 + k = omega arith in get_or-set_other c.loop-k.pairs (8 + k) j v 0 ne ∙ i.first j h);
      second = below_more (λ (j : ℕ). get_or (slice_set c.loop-k.pairs (8 + k) v) (8 + j) 0 ≡ get_or c.args.second.now j
          0) k (λ j h. (let ne : 8 + j ≢ 8 + k = omega arith in get_or-set_other c.loop-k.pairs (8 + k) (8 + j) v 0 ne
          ∙ i.second j h)) (get_or-set_same c.loop-k.pairs (8 + k) v 0 (omega (arith, i.long)));
    }
