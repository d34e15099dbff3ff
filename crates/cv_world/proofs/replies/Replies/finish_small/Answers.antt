use Rattle.std.proofs.Common.{◌≡◌, ◌+◌, ◌++◌, List, ℕ, take, ap, refl, sym, ◌∙◌, arith}
use Rattle.std.proofs.lemmas.List.{take-take}
use Rattle.cv_frame.specs.Message.{spelling}
use Rattle.cv_world.specs.Private.Replying.{small_message}
use Rattle.cv_world.proofs.WrittenFrames.{framed, used_is}
use Rattle.cv_world.proofs.replies.Replies.finish_small.Goals as goal

pub returns : goal.returns
returns c =
    let b0 = c.self.inside.bytes.items in
    let start = c.args.start in
    let used = c.self.inside.used in
    let body : List ℕ = c.as_slice-body.result.now in
    let frame : c.frame_head-head.result ++ body ≡ spelling (small_message c.args.request.now c.args.status body) =
    rw (← c.request.view_is, ← c.number.ensures) (c.frame_head-head.ensures body refl) in
    let long = used_is used b0 _ c.self.view_is (omega (arith, c.self.invariant, c.self.inside.bytes.ok)) in
    let front = sym (take-take start used b0 (omega (arith, long, c.requires))) ∙ ap (take start) c.self.view_is in
    rw (← c.as_slice-body.ensures.value) (framed b0 c.put.new.out.items c.put-2.new.out.items _ _ body _ start
    (start + 13) _ front (omega (arith, c.frame_head-head.type_inv)) c.put.ensures.written
    c.put-2.ensures.written frame)
