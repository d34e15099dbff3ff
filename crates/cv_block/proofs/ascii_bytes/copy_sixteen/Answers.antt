use Rattle.std.proofs.Common.{ℕ, ◌≡◌, ◌+◌, List, ◌++◌, length, take, drop, ap, sym, ◌∙◌, append_assoc, arith}
use Rattle.std.proofs.lemmas.List.{drop-drop}
use Rattle.std.proofs.lemmas.Simd.{put_chunk_is, length-chunk}
use Rattle.cv_block.proofs.ascii_bytes.copy_sixteen.Goals as goal

pub returns : goal.returns
returns c =
    let at = c.args.at in
    let out = c.args.out.now in
    let lanes : List ℕ = take 16 (drop c.args.from c.args.rest.now) in
    let long : length lanes ≡ 16 = length-chunk c.args.from 16 c.args.rest.now c.requires.stand in
    let behind : drop (length lanes) (drop at out) ≡ drop (at + 16) out = ap (λ (n : ℕ). drop n (drop at out)) long
    ∙ drop-drop 16 at out in
    put_chunk_is at out lanes (omega (arith, long, c.requires.fit)) ∙ ap
    (λ (x : List ℕ). take at out ++ (lanes ++ x)) behind ∙ sym (append_assoc (take at out) lanes (drop (at + 16) out))
