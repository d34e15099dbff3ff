use Rattle.std.proofs.Common.{arith, refl, drop, length-drop, sym, ◌∙◌, ap, ◌≡◌, ◌≤◌, ◌+◌, ◌*◌, length}
use Rattle.std.proofs.lemmas.List.{drop-drop}
use Rattle.cv_block.proofs.CopiedBytes.{copied, copy_more}
use Rattle.cv_block.proofs.ascii_bytes.copy_block.Goals as goal

pub loop-block-preserved : goal.loop-block-preserved
loop-block-preserved o c =
    let text = drop c.args.from c.args.rest.now in
    let n = c.loop-block.block * 16 in
    let next : n + 16 ≡ (c.loop-block.block + 1) * 16 = omega arith in
    let within : n + 16 ≤ length text = omega (arith, length-drop c.args.from c.args.rest.now) in
    let there = rw (sym (drop-drop n c.args.from c.args.rest.now)) at c.copy_sixteen.ensures in
    copy_more text c.args.out.now c.args.at n 16 (c.args.at + n) c.loop-block.out c.copy_sixteen.new.out refl within
    (omega arith) c.loop-block.invariant there ∙ ap (copied text c.args.out.now c.args.at) next
