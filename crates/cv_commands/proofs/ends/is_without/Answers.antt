use Rattle.std.proofs.Common.{◌==◌, ℕ, take, drop, sym, ◌∙◌, arith}
use Rattle.std.specs.Int.{w8}
use Rattle.std.proofs.lemmas.Bool.{eqb-true}
use Rattle.std.proofs.lemmas.Simd.{bitmask_splat, length-chunk, none_from_empty_mask}
use Rattle.cv_commands.proofs.ends.is_without.Goals as goal

pub returns : goal.returns
returns c none =
    let long = length-chunk c.args.at 64 c.args.text.now c.requires in
    let mask = bitmask_splat w8 (λ (a b : ℕ). a == b) (take 64 (drop c.args.at c.args.text.now)) 64 c.args.byte long
    (omega arith) in
    none_from_empty_mask (λ (b : ℕ). b == c.args.byte) c.args.text.now c.args.at 64 0 c.requires
    (sym mask ∙ eqb-true _ _ none)
