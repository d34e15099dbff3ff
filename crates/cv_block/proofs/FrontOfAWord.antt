-- A word that is written, although only a prefix of it is wanted.
use Rattle.std.proofs.Common.{◌≡◌, ℕ, ◌+◌, ◌≤◌, List, ◌++◌, length, take, drop, ◌∙◌, ap, arith, length-append}
use Rattle.std.proofs.Common.{length-take, append_assoc}
use Rattle.std.proofs.lemmas.List.{take_at}
use borrow.Rule.Slice.PartMut.{put_mid, post_of}
use Rattle.cv_base.specs.Items.{Begins}
use Rattle.cv_base.proofs.Front.{Begins-split}

-- What was written begins with this prefix, and what follows it may be anything.
pub front_stands : (out word spelling : List ℕ) (at n k : ℕ) → at ≤ length out → Begins spelling word
    → n ≡ length spelling → take (at + n) (put_mid at k out word) ≡ take at out ++ spelling
front_stands out word spelling at n k h p e =
    let rest : List ℕ = drop (length spelling) word in
    let front : List ℕ = take at out ++ spelling in
    let long : length front ≡ at + n = simp (length-append, length-take) (omega arith) in
    let parts : put_mid at k out word ≡ front ++ (rest ++ post_of at k out) =
    ap (λ (w : List ℕ). take at out ++ (w ++ post_of at k out)) (Begins-split spelling word p) ∙ simp append_assoc in
    rw parts (take_at front (rest ++ post_of at k out) (at + n) long)
