use Rattle.std.proofs.Common.{◌≡◌, ℕ, ◌==◌, take, drop, length, map, sym, ap, ◌∙◌, arith, length-take, length-drop}
use lib.Count.{count_trailing_zeros}
use lib.Lanes.{mask_l}
use Rattle.std.specs.Int.{w8}
use Rattle.std.proofs.lemmas.Simd.{bitmask_splat, leading_from_mask_l, trailing_mask_l}
use Rattle.cv_commands.proofs.ends.before_in_block.Goals as goal

pub returns-then-found-eq0 : goal.returns-then-found-eq0
returns-then-found-eq0 c =
    let long : length (take 16 (drop c.args.at c.args.text.now)) ≡ 16 =
    omega (arith, length-take 16 (drop c.args.at c.args.text.now), length-drop c.args.at c.args.text.now) in
    let mask = bitmask_splat w8 (λ (a b : ℕ). a == b) (take 16 (drop c.args.at c.args.text.now)) 16 c.args.byte long
    (omega arith) in
    let none = c.if-found-eq0.true in
    sym (leading_from_mask_l (λ (b : ℕ). b == c.args.byte) (take 16 (drop c.args.at c.args.text.now)) (sym mask ∙ none)
    ∙ long)

pub returns-else-found-eq0 : goal.returns-else-found-eq0
returns-else-found-eq0 c =
    let long : length (take 16 (drop c.args.at c.args.text.now)) ≡ 16 =
    omega (arith, length-take 16 (drop c.args.at c.args.text.now), length-drop c.args.at c.args.text.now) in
    let mask = bitmask_splat w8 (λ (a b : ℕ). a == b) (take 16 (drop c.args.at c.args.text.now)) 16 c.args.byte long
    (omega arith) in
    let some = λ (e : mask_l (map (λ (b : ℕ). b == c.args.byte) (take 16 (drop c.args.at c.args.text.now))) ≡ 0).
    c.if-found-eq0.false (mask ∙ e) in
    ap (count_trailing_zeros 64) mask ∙ trailing_mask_l (λ (b : ℕ). b == c.args.byte) 64
    (take 16 (drop c.args.at c.args.text.now)) (omega (arith, long)) (omega (arith, some))
