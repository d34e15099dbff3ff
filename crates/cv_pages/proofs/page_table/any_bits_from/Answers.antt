use Rattle.std.proofs.Common.{◌≡◌, ◌∙◌, ◌+◌, ◌<◌, ℕ, get_or, length, arith}
use Rattle.std.proofs.lemmas.Grind.{get_or_default_zero}
use Rattle.cv_pages.proofs.AnyBits.{any_bits_more}
use Rattle.cv_pages.proofs.page_table.any_bits_from.Goals as goal

pub loop-k-preserved : goal.loop-k-preserved
loop-k-preserved c =
    let characters = c.args.characters.now in
    let at : ℕ = c.args.n + c.loop-k.k in
    let inside : at < length characters = omega (arith, c.requires, c.loop-k-test.true) in
    let value : c.value-bits.result ≡ get_or characters at 0 = c.value-bits.ensures.number ∙ c.index-characters-n.is
    ∙ get_or_default_zero characters at c.index-characters-n.result inside in
    rw value (any_bits_more (λ (j : ℕ). get_or characters (c.args.n + j) 0) c.loop-k.k c.loop-k.bits c.loop-k.invariant)
