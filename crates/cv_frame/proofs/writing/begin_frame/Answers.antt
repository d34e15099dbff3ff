use Rattle.std.proofs.Common.{ℕ, List, ◌++◌, ap, ◌∙◌, append_assoc}
use Rattle.cv_frame.proofs.writing.begin_frame.Goals as goal

pub returns-clause-begins : goal.returns-clause-begins
returns-clause-begins c = λ body len.
    let out : List ℕ = c.args.out.now.items in
    let head : List ℕ = c.frame_head.result in
    ap (λ (x : List ℕ). x ++ body)
    (c.append.ensures.items ∙ ap (λ (x : List ℕ). x ++ head) c.in_ok-reserve.ensures.items)
    ∙ append_assoc out head body ∙ ap (λ (x : List ℕ). out ++ x) (c.frame_head.ensures body len)
