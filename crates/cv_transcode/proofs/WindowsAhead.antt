-- Windows that are converted before text and room are looked at again.
use Rattle.std.proofs.Common.{◌≡◌, ℕ, ◌+◌, ◌-◌, ◌*◌, ◌<◌, ◌≤◌, suc, zero, arith}
use Rattle.cv_transcode.specs.Private.Windows.{AreAhead}

-- of windows that are ahead, one is followed by a whole window, and then one fewer are ahead
pub one_fewer : (size long used room end wrote ahead : ℕ) → 0 < size → 0 < ahead → wrote ≤ 48
    → AreAhead size (long - used) (room - end) ahead
    → (used + size + size ≤ long) × AreAhead size (long - (used + size)) (room - (end + wrote)) (ahead - 1)
one_fewer size long used room end wrote zero bytes some few p = absurd (omega arith)
one_fewer size long used room end wrote (suc n) bytes some few p =
    let more : suc n * size ≡ n * size + size = omega arith in
    let less : suc n - 1 ≡ n = omega arith in (
      omega (arith, p.within, more, bytes),
      rw less (record {
        within = omega (arith, p.within, more);
        fit = omega (arith, p.fit, few);
      }),
    )
