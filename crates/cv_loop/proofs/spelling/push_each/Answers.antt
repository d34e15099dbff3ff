use Rattle.std.proofs.Common.{◌≡◌, ℕ, List, ◌+◌, [], ◌∷◌, ◌++◌, take, drop, sym, ap, ◌∙◌, append_assoc}
use Rattle.std.proofs.lemmas.List.{take_more, take-append-drop}
use Rattle.std.proofs.lemmas.List.Concat.{flat_map-append}
use Rattle.std.specs.Prelude.{Result, Ok, Err, OnErr}
use Rattle.cv_frame.specs.Message.{Message, joined, spelling}
use Rattle.cv_loop.proofs.Batches.{joined-push}
use Rattle.cv_loop.proofs.spelling.push_each.Goals as goal

-- the bytes of frames are those of the first frames and then those of the others
joined-apart : (at : ℕ) (ms : List Message) → joined ms ≡ joined (take at ms) ++ joined (drop at ms)
joined-apart at ms = ap joined (sym (take-append-drop at ms)) ∙ flat_map-append spelling (take at ms) (drop at ms)

module _ {T E : Type 0} where
  -- a prefix was pushed
  front_pushed : (result : Result T E) (at : ℕ) (told : List Message) (before mid after : List ℕ) → after ≡ mid
      → mid ≡ before ++ joined (take at told)
      → OnErr result ((more : List ℕ) × (missing : List ℕ) × (after ≡ before ++ more) × (joined told ≡ more ++ missing))
  front_pushed (Ok x) at told before mid after kept so = tt
  front_pushed (Err e) at told before mid after kept so =
      (joined (take at told), joined (drop at told), kept ∙ so, joined-apart at told)

pub loop-reply-preserved : goal.loop-reply-preserved
loop-reply-preserved c =
    let at = c.loop-reply.reply-index in
    let told = c.args.told.now in
    let m = c.reply-item.result in
    let more : take (at + 1) told ≡ take at told ++ m ∷ [] =
    take_more told at m c.loop-reply-test.true ∙ ap (λ (x : Message). take at told ++ x ∷ []) (sym c.reply-item.is) in
    let longer : joined (take (at + 1) told) ≡ joined (take at told) ++ spelling m = ap joined more
    ∙ joined-push (take at told) m in
    c.in_ok-push.ensures.ok ∙ ap (λ (x : List ℕ). x ++ spelling m) c.loop-reply.invariant ∙ append_assoc
    c.args.replies.now (joined (take at told)) (spelling m) ∙ ap (λ (x : List ℕ). c.args.replies.now ++ x) (sym longer)

pub returns-in_err-push-clause-err : goal.returns-in_err-push-clause-err
returns-in_err-push-clause-err c = front_pushed c.from_residual.result c.loop-reply.reply-index c.args.told.now _ _ _
    c.in_err-push.ensures.err c.loop-reply.invariant
