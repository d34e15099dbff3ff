use Rattle.std.proofs.Common.{◌≡◌, ◌+◌, ◌++◌, List, ℕ, length, take, ap, ◌∙◌, arith, append_assoc, length-append}
use Rattle.cv_frame.specs.Message.{spelling}
use Rattle.cv_world.proofs.WrittenFrames.{framed}
use Rattle.cv_world.proofs.replies.Replies.push.Goals as goal

pub returns-clause-ok : goal.returns-clause-ok
returns-clause-ok c =
    let at = c.self.inside.used in
    let b0 = c.make_long.new.bytes.items in
    let b3 = c.put-3.new.out.items in
    let first : List ℕ = c.as_slice-first.result.now in
    let second : List ℕ = c.as_slice-second.result.now in
    let body = first ++ second in
    let frame : c.frame_head-head.result ++ body ≡ spelling c.args.reply.now =
    rw (← c.reply.view_is, ← c.number.ensures, ← c.as_slice-first.ensures.value, ← c.as_slice-second.ensures)
    (c.frame_head-head.ensures body (length-append first second)) in
    let end : at + 13 + (length first + length second) ≡ at + 13 + length first + length second = omega arith in
    ap (λ (n : ℕ). take n b3) end ∙ framed b0 c.put.new.out.items b3 c.args.self.now _ body _ at (at + 13) _
    (c.make_long.ensures.same ∙ c.self.view_is) (omega (arith, c.frame_head-head.type_inv)) c.put.ensures.written
    (c.put-3.ensures.written ∙ ap (λ (l : List ℕ). l ++ second) c.put-2.ensures.written ∙ append_assoc _ first second)
    frame
