use Rattle.std.proofs.Common.{◌==◌, ℕ, eq-eqb, sym, arith}
use Rattle.std.proofs.lemmas.List.Sums.{position_or_len_is}
use Rattle.cv_commands.proofs.FirstBytes.{none_more, none_past, few_of_block, first_in_block}
use Rattle.cv_commands.proofs.ends.bytes_before.Goals as goal

pub returns-then-before-lt-BLOCK-clause-value : goal.returns-then-before-lt-BLOCK-clause-value
returns-then-before-lt-BLOCK-clause-value c = first_in_block (λ (b : ℕ). b == c.args.byte) c.args.text.now c.loop-n.n _
    (omega arith) c.before_in_block-before.ensures c.loop-n.invariant.none c.if-before-lt-BLOCK.true

pub loop-n-preserved-then-n-eq-LONG_BLOCK : goal.loop-n-preserved-then-n-eq-LONG_BLOCK
loop-n-preserved-then-n-eq-LONG_BLOCK c = record {
  within = omega arith;
  none = none_past (λ (b : ℕ). b == c.args.byte) c.args.text.now _ _
      (none_more (λ (b : ℕ). b == c.args.byte) c.args.text.now c.loop-n.n _
      (omega arith) c.before_in_block-before.ensures c.loop-n.invariant.none) c.past_long_blocks-n.ensures.none;
}

pub loop-n-preserved : goal.loop-n-preserved
loop-n-preserved c =
    let few = few_of_block (λ (b : ℕ). b == c.args.byte) c.args.text.now c.loop-n.n _
    (omega arith) c.before_in_block-before.ensures in
    record {
      within = omega (arith, few);
      none = none_more (λ (b : ℕ). b == c.args.byte) c.args.text.now c.loop-n.n _
          (omega arith) c.before_in_block-before.ensures c.loop-n.invariant.none;
    }

pub returns-else-text-n-clause-value : goal.returns-else-text-n-clause-value
returns-else-text-n-clause-value c = sym (position_or_len_is (λ (b : ℕ). b == c.args.byte) c.args.text.now c.loop-n-2.n
    0 (omega arith) c.loop-n-2.invariant.none (λ lt. eq-eqb _ _ c.if-text-n.false))

pub returns-after-loop-n-2-clause-value : goal.returns-after-loop-n-2-clause-value
returns-after-loop-n-2-clause-value c = sym (position_or_len_is (λ (b : ℕ). b == c.args.byte) c.args.text.now
    c.loop-n-2.n 0 (omega arith) c.loop-n-2.invariant.none (λ lt. absurd (omega arith)))
