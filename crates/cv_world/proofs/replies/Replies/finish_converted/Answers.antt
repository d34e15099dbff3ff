use Rattle.std.proofs.Common.{◌≡◌, ℕ, ◌+◌, ◌-◌, List, ◌++◌, length, take, drop, sym, ap, ◌∙◌, arith, length-append}
use Rattle.std.proofs.lemmas.List.{length-drop, take-take}
use Rattle.std.specs.Int.{w32, to_be_bytes}
use Rattle.cv_frame.specs.Message.{spelling}
use Rattle.cv_frame.specs.Status.{status_number}
use Rattle.cv_world.specs.Private.Replying.{converted_message}
use Rattle.cv_world.proofs.WrittenFrames.{framed, used_is, two_before, later_same, between_same}
use Rattle.cv_world.proofs.replies.Replies.finish_converted.Goals as goal

pub returns : goal.returns
returns c =
    let b0 = c.self.inside.bytes.items in
    let end = c.self.inside.used in
    let b1 = c.put.new.out.items in
    let start = c.args.start in
    let p = start + 13 in
    let head : List ℕ = c.frame_head-head.result in
    let y = c.to_be_bytes.result in
    let z = c.to_be_bytes-2.result in
    let left : List ℕ = to_be_bytes w32 c.args.outcome.left in
    let count : List ℕ = to_be_bytes w32 c.args.outcome.count in
    let out : List ℕ = drop (start + 21) c.args.self.now in
    let size : start + length head ≡ p = omega (arith, c.frame_head-head.type_inv) in
    let four : length y ≡ 4 = ap length c.to_be_bytes.ensures in
    let eight : length z ≡ 4 = ap length c.to_be_bytes-2.ensures in
    let r = p + 4 + length z in
    let long = used_is end b0 _ c.self.view_is (omega (arith, c.self.invariant, c.self.inside.bytes.ok)) in
    let same : drop r (take end b1) ≡ out = between_same b0 b1 r end (omega (arith, eight, long, c.requires.output))
    (later_same b0 b1 (start + length head) r (omega (arith, eight, size)) c.put.ensures.rest)
    ∙ ap (λ (n : ℕ). drop n (take end b0)) (omega (arith, eight)) ∙ ap (drop (start + 21)) c.self.view_is in
    let few : length out ≡ end - (start + 21) = omega (arith, long, length-drop (start + 21) c.args.self.now) in
    let code = c.number.ensures ∙ ap status_number c.status_of-status.ensures in
    let frame : head ++ (y ++ (z ++ drop r (take end b1))) ≡ spelling (converted_message c.args.request.now
    c.args.outcome out) = rw (same, c.to_be_bytes.ensures, c.to_be_bytes-2.ensures, ← c.request.view_is, ← code)
    (c.frame_head-head.ensures (left ++ (count ++ out))
    (omega (arith, few, long, c.requires.output, length-append left (count ++ out), length-append count out))) in
    framed b0 b1 c.put-3.new.out.items _ head _ _ start p end
    (sym (take-take start end b0 (omega (arith, long, c.requires.output))) ∙ ap (take start) c.self.view_is) size
    c.put.ensures.written (two_before b1 c.put-2.new.out.items c.put-3.new.out.items y z p (p + length y) (p + 4) r end
    (omega (arith, four)) (omega (arith, four, eight)) (omega (arith, eight, long, c.requires.output))
    c.put-2.ensures.written c.put-2.ensures.rest c.put-3.ensures.written c.put-3.ensures.rest) frame
