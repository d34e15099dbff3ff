-- Characters that are written one by one.
use Rattle.std.specs.Prelude.{IfSome}
use Rattle.std.proofs.Common.{◌≡◌, ℕ, ◌+◌, ◌*◌, ◌<◌, ◌≤◌, List, [], ◌∷◌, ◌++◌, length, take, drop, sym, ◌∙◌}
use Rattle.std.proofs.Common.{ap, arith, length-append, length-drop, length-take, append_assoc, get_or}
use Rattle.std.proofs.Common.{Option, Some, None}
use Rattle.std.proofs.Math.Seq.{drop-cons, take-add, take-append_seam, drop-append-add}
use Rattle.std.proofs.lemmas.List.{drop-drop}
use Rattle.cv_base.specs.Scalars.{question}
use Rattle.cv_base.specs.Codecs.{Writing, WritesAtMost}
use Rattle.cv_base.specs.Chains.{Output, written, put_or, substituted, followed, output_for}
use Rattle.cv_base.specs.Places.{IsOutput}
use Rattle.cv_base.specs.declared.state.WriteState.{WriteState}
use Rattle.cv_base.proofs.ChainLaws.{output_for-append, output_for-one}

-- `?` replaces at most one character
pub put_or-count : (t : WriteState) (a b : Option (List ℕ × WriteState)) → (put_or (substituted t a) b).count ≤ 1
put_or-count t a (Some (x, y)) = omega arith
put_or-count t (Some (x, y)) None = omega arith
put_or-count t None None = omega arith

-- `?` replaces a character at most once
pub written-count : (writes : Writing) (t : WriteState) (c : ℕ) → (written writes t (Some c)).count ≤ 1
written-count writes t c = put_or-count t (writes t question) (writes t c)

put_or-most : (most : ℕ) (t : WriteState) (a b : Option (List ℕ × WriteState)) → IfSome a (λ p. length p.0 ≤ most)
    → IfSome b (λ p. length p.0 ≤ most) → length (put_or (substituted t a) b).bytes ≤ most
put_or-most most t a (Some (x, y)) p q = q
put_or-most most t (Some (x, y)) None p q = p
put_or-most most t None None p q = omega arith

-- what is written for a character has at most as many bytes as any character may have
pub written-most : (most : ℕ) (writes : Writing) → WritesAtMost most writes → (t : WriteState) (c : ℕ)
    → length (written writes t (Some c)).bytes ≤ most
written-most most writes m t c = put_or-most most t (writes t question) (writes t c) (m t question) (m t c)

-- what follows the output stays when more is written after it
pub out_more : (b w before : List ℕ) (at : ℕ) → at ≡ length b → take at (b ++ drop at before) ++ w
    ++ drop (at + length w) (b ++ drop at before) ≡ (b ++ w) ++ drop (at + length w) before
out_more b w before at e =
    let front : take at (b ++ drop at before) ≡ b = ap (λ k. take k (b ++ drop at before)) e
    ∙ take-append_seam b (drop at before) in
    let back : drop (at + length w) (b ++ drop at before) ≡ drop (at + length w) before = ap (λ k. drop (k + length w)
    (b ++ drop at before)) e ∙ drop-append-add b (drop at before) (length w) ∙ drop-drop (length w) at before in
    cc

-- The first k characters are written from index `at` on, and their bytes end at `end`.
pub record WrittenSoFar (writes : Writing) (t : WriteState) (characters before : List ℕ) (at k end count : ℕ)
    (now : WriteState) (out : List ℕ) : Type 0 where
  pub wrote : end ≡ at + length (output_for writes t (take k characters)).bytes
  pub counts : count ≡ (output_for writes t (take k characters)).count
  pub few : count ≤ k
  pub next : now ≡ (output_for writes t (take k characters)).next
  pub short : end ≤ at + 8 * k
  pub fits : end ≤ length before
  pub holds : out ≡ (take at before ++ (output_for writes t (take k characters)).bytes) ++ drop end before
  pub size : length out ≡ length before

-- more characters are written
pub more_written : (writes : Writing) (t : WriteState) (characters before : List ℕ) (at k end count : ℕ)
    (now : WriteState) (out : List ℕ) → WrittenSoFar writes t characters before at k end count now out
    → (more n m : ℕ) (next : WriteState) (after : List ℕ)
    → IsOutput (output_for writes now (take more (drop k characters))) out end n m next after → n ≤ 8 * more → m ≤ more
    → WrittenSoFar writes t characters before at (k + more) (end + n) (count + m) next after
more_written writes t characters before at k end count now out p more n m next after put short few =
    let o = output_for writes t (take k characters) in
    let w = output_for writes now (take more (drop k characters)) in
    let all : output_for writes t (take (k + more) characters) ≡ followed o w = ap (output_for writes t)
    (take-add k more characters) ∙ output_for-append writes t (take k characters) (take more (drop k characters))
    ∙ ap (followed o) (ap (λ (u : WriteState). output_for writes u (take more (drop k characters))) (sym p.next)) in
    let front : List ℕ = take at before ++ o.bytes in
    let long : end ≡ length front =
    omega (arith, p.wrote, length-append (take at before) o.bytes, length-take at before, p.fits) in
    let behind : take end out ++ w.bytes ++ drop (end + n) out ≡ (front ++ w.bytes) ++ drop (end + n) before =
    rw p.holds (rw put.bytes.wrote (out_more front w.bytes before end long)) in
    let same : (front ++ w.bytes) ++ drop (end + n) before ≡ (take at before ++ (o.bytes ++ w.bytes)) ++ drop (end + n)
    before = ap (λ (x : List ℕ). x ++ drop (end + n) before) (append_assoc (take at before) o.bytes w.bytes) in
    record {
      wrote = rw all (omega (arith, length-append o.bytes w.bytes, p.wrote, put.bytes.wrote));
      counts = rw all (omega (arith, p.counts, put.counts));
      few = omega (arith, p.few, few);
      next = put.next ∙ sym (ap (λ (x : Output). x.next) all);
      short = omega (arith, p.short, short);
      fits = omega (arith, put.bytes.fits, p.size);
      holds = rw all (put.bytes.out ∙ behind ∙ same);
      size = ap length put.bytes.out
          ∙ simp (length-append, length-take, length-drop) (omega (arith, put.bytes.wrote, put.bytes.fits, p.size));
    }

-- one more character is written
pub one_more_written : (most : ℕ) (writes : Writing) (t : WriteState) (characters before : List ℕ) (at k end count : ℕ)
    (now : WriteState) (out : List ℕ) → WrittenSoFar writes t characters before at k end count now out
    → most ≤ 8 → WritesAtMost most writes → k < length characters → (n m : ℕ) (next : WriteState) (after : List ℕ)
    → (c : ℕ) → c ≡ get_or characters k c → IsOutput (written writes now (Some c)) out end n m next after
    → WrittenSoFar writes t characters before at (k + 1) (end + n) (count + m) next after
one_more_written most writes t characters before at k end count now out p small m_most h n m next after c is put =
    let one : take 1 (drop k characters) ≡ c ∷ [] = ap (λ (x : List ℕ). take 1 x) (drop-cons characters k c h)
    ∙ ap (λ (d : ℕ). d ∷ []) (sym is) in
    let here : output_for writes now (take 1 (drop k characters)) ≡ written writes now (Some c) =
    ap (output_for writes now) one ∙ output_for-one writes now c in
    more_written writes t characters before at k end count now out p 1 n m next after (rw here put)
    (omega (arith, put.bytes.wrote, written-most most writes m_most now c))
    (omega (arith, put.counts, written-count writes now c))
