use Rattle.std.proofs.Common.{rules, length, ◌+◌, ◌/◌, arith, refl}
use Rattle.cv_pool.proofs.Shards.{low_ready, high_ready, both_answered}
use Rattle.cv_pool.proofs.threads.+halves.Goals as goal

-- What a call within the recursion owes: a smaller measure, three lifetimes, that three values may be shared, and its
-- clauses.
owes : {A B C D E F G H : Type 0} → A → B → C → D → E → F → G → H → A × (B × (C × (D × (E × (F × (G × H))))))
owes a b c d e f g h = (a, (b, (c, (d, (e, (f, (g, h)))))))

pub answer_from-answer_at_once-requires : goal.answer_from-answer_at_once-requires
answer_from-answer_at_once-requires g t c κs within =
    let cut = c.split_at_mut-low.ensures in
    let some = c.requires.some in
    let many = c.if-len-eq1.false in
    owes (search rules) within.0 within.1.0 within.1.1 (search rules) (search rules) (search rules) (
      (omega (arith, some, many, cut.front_len), omega (arith, some, many, cut.front_len, cut.back_len)),
      (
        (
          omega (arith, cut.front_len, cut.back_len, c.requires.within),
          omega (arith, cut.front_len, cut.back_len, c.requires.within),
        ),
        (low_ready _ _ _ _ cut.value c.requires.room, (high_ready _ _ _ _ cut.value c.requires.room, c.requires.ready)),
      ),
    )

pub answer_from-answer_from-requires : goal.answer_from-answer_from-requires
answer_from-answer_from-requires g t c κs within =
    let cut = c.split_at_mut-low.ensures in
    let some = c.requires.some in
    let many = c.if-len-eq1.false in
    owes (search rules) within.0 within.1.0 within.1.1 (search rules) (search rules) (search rules) (
      omega (arith, some, many, cut.front_len),
      (
        omega (arith, cut.front_len, cut.back_len, c.requires.within),
        (low_ready _ _ _ _ cut.value c.requires.room, c.requires.ready),
      ),
    )

pub answer_from-answer_from-requires-else-apart : goal.answer_from-answer_from-requires-else-apart
answer_from-answer_from-requires-else-apart g t c κs within =
    let cut = c.split_at_mut-low.ensures in
    let some = c.requires.some in
    let many = c.if-len-eq1.false in
    owes (search rules) within.0 within.1.0 within.1.1 (search rules) (search rules) (search rules) (
      omega (arith, some, many, cut.front_len, cut.back_len),
      (
        omega (arith, cut.front_len, cut.back_len, c.requires.within),
        (high_ready _ _ _ _ cut.value c.requires.room, c.requires.ready),
      ),
    )

pub answer_from-returns-then-apart : goal.answer_from-returns-then-apart
answer_from-returns-then-apart g t c =
    let cut = c.split_at_mut-low.ensures in
    let done = c.answer_at_once in
    let middle = c.args.first + length c.args.shards.now / 2 in
    both_answered c.args.job.now.workers.count _ c.args.first middle _ _ _ _ _ _ cut.value refl
    done.auto.low (omega (arith, cut.front_len)) done.ensures.low done.ensures.high

pub answer_from-returns-else-apart : goal.answer_from-returns-else-apart
answer_from-returns-else-apart g t c =
    let cut = c.split_at_mut-low.ensures in
    let middle = c.args.first + length c.args.shards.now / 2 in
    both_answered c.args.job.now.workers.count _ c.args.first middle _ _ _ _ _ _ cut.value refl
    c.answer_from.auto.shards (omega (arith, cut.front_len)) c.answer_from.ensures c.answer_from-else-apart.ensures
