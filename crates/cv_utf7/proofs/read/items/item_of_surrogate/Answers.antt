use Rattle.std.proofs.Common.{refl, sym}
use Rattle.std.proofs.lemmas.Bool.{true≢false}
use Rattle.cv_utf7.proofs.ShiftItems.{low_first, no_low}
use Rattle.cv_utf7.proofs.read.items.item_of_surrogate.Goals as goal

pub returns-then-not-is_high : goal.returns-then-not-is_high
returns-then-not-is_high c = low_first c.args.pending c.args.input.now c.args.high c.requires.unit c.requires.surrogate
    (λ h. true≢false (sym (c.if-not-is_high.ensures.1 h)))

pub returns-then-not-is_low : goal.returns-then-not-is_low
returns-then-not-is_low c =
    no_low c.args.pending c.args.input.now c.args.high c.in-Some.low c.requires.unit (c.if-not-is_high.ensures.0 refl)
    (rw c.split_at.ensures.back at c.in-Some.ensures) (λ h. true≢false (sym (c.if-not-is_low.ensures.1 h)))
