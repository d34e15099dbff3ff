use Rattle.std.proofs.Common.{arith, ap, refl, drop, length, length-drop, ◌+◌, ◌-◌, ◌≡◌, ◌∙◌}
use Rattle.std.proofs.lemmas.List.{take_rest}
use Rattle.cv_base.proofs.Front.{Begins-append, Begins-refl}
use Rattle.cv_block.proofs.LastForms.{begins_replaced, read_copied, read_none, still_long}
use Rattle.cv_utf8.proofs.Utf8Spelled.{read_front}
use Rattle.cv_utf8.specs.Utf8.{utf8_bytes}
use Rattle.cv_utf8.proofs.read.windows.read_last.Goals as goal

pub returns-then-is_ascii_block-clause-read : goal.returns-then-is_ascii_block-clause-read
returns-then-is_ascii_block-clause-read c =
    let front = c.copy_from_slice.new.self in
    let copied = c.copy_from_slice.ensures.after ∙ take_rest c.args.input.now c.args.at in
    let long : length front ≡ length c.args.input.now - c.args.at =
    omega (arith, ap length copied, length-drop c.args.at c.args.input.now) in
    read_copied utf8_bytes c.args.input.now c.args.at c.args.buffer.now c.args.n front _ _ _ (Begins-append front _)
    (rw copied (Begins-refl (drop c.args.at c.args.input.now)))
    (omega (arith, long, c.min-run.ensures)) (read_front _ 0 c.args.buffer.now _ c.args.n c.min-run.result
    (still_long 16 front _ _ long (omega arith) (omega arith)) (omega (arith, c.min-run.ensures))
    (λ k h. c.if-is_ascii_block.ensures refl (0 + k) (omega arith) (omega (arith, c.min-run.ensures, h)))
    c.requires.room c.put_bytes.ensures.size c.put_bytes.ensures.stand)

pub returns-then-last-left-clause-read : goal.returns-then-last-left-clause-read
returns-then-last-left-clause-read c = read_none utf8_bytes c.args.input.now _ c.args.at 0 c.args.buffer.now c.args.n
    _ _ c.read_complete-last.ensures.read

pub returns-clause-read : goal.returns-clause-read
returns-clause-read c =
    let front = c.copy_from_slice.new.self in
    let copied = c.copy_from_slice.ensures.after ∙ take_rest c.args.input.now c.args.at in
    let long : length front ≡ length c.args.input.now - c.args.at =
    omega (arith, ap length copied, length-drop c.args.at c.args.input.now) in
    read_copied utf8_bytes c.args.input.now c.args.at c.args.buffer.now c.args.n front _ c.read_complete-last.result _
    (begins_replaced front _ _ 255 long) (rw copied (Begins-refl (drop c.args.at c.args.input.now)))
    (omega (arith, long)) c.read_complete-last.ensures.read
