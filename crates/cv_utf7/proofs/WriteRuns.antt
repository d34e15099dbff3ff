-- Runs of direct characters that are written.
use Rattle.std.proofs.Common.{◌≡◌, ℕ, zero, suc, ◌+◌, ◌-◌, ◌<◌, ◌≤◌, true, List, [], ◌∷◌, ◌++◌, length, take, drop}
use Rattle.std.proofs.Common.{get_or, set, refl, sym, ◌∙◌, ap, subst, arith, append_assoc, length-append, length-take}
use Rattle.std.proofs.Common.{length-drop, get_or-take, get_or-drop}
use Rattle.std.proofs.lemmas.List.{drop-drop, take-append-drop, ext_get_or, set_split, take_at, drop_at}
use Rattle.cv_base.specs.Chains.{Output, output, output_for}
use Rattle.cv_base.specs.declared.state.WriteState.{WriteState}
use Rattle.cv_base.specs.declared.state.WriteState.TheVariants as write
use Rattle.cv_block.proofs.Slack.{further}
use Rattle.cv_utf7.specs.Sets.{is_direct}
use Rattle.cv_utf7.specs.Utf7.{utf7_writes, writes_at_start}
use Rattle.cv_utf7.specs.Private.WriteSteps.{written_to, WritesOn}
use Rattle.cv_utf7.specs.declared.write.sequences.WriteProgress.{WriteProgress}
use Rattle.cv_utf7.proofs.ReadRuns.{front_of_put}
use Rattle.cv_utf7.proofs.Writes.{start_direct}
use Rattle.cv_utf7.proofs.WriteSteps.{bytes_in, put_one, writes_more}

append_one : (a : List ℕ) (x : ℕ) (b : List ℕ) → a ++ x ∷ b ≡ a ++ (x ∷ []) ++ b
append_one a x b = sym (append_assoc a (x ∷ []) b)

-- a direct character is put
pub writes_direct_one : (characters : List ℕ) (k at : ℕ) (before : List ℕ) → k < length characters → at < length before
    → is_direct (get_or characters k 0) ≡ true → WritesOn characters (written_to write.Start k at) before
    (written_to write.Start (k + 1) (at + 1)) (set before at (get_or characters k 0))
unfolding bytes_in
writes_direct_one characters k at before h l d =
    let e : writes_at_start (get_or characters k 0) ≡ (get_or characters k 0 ∷ [], write.Start) =
    start_direct (get_or characters k 0) d in
    put_one characters (written_to write.Start k at) 1 before write.Start (set before at (get_or characters k 0)) h
    (ap (λ (w : List ℕ × WriteState). length w.0) (sym e)) (ap (λ (w : List ℕ × WriteState). w.1) (sym e)) (omega arith)
    (set_split before at (get_or characters k 0) l ∙ (let there : suc at ≡ at + 1 = omega arith in ap (λ (i : ℕ).
    take at before ++ get_or characters k 0 ∷ drop i before) there ∙ append_one (take at before) (get_or characters k 0)
    (drop (at + 1) before)) ∙ ap (λ (w : List ℕ × WriteState). take at before ++ w.0 ++ drop (at + 1) before) (sym e))

-- one direct character more is written
pub direct_more : {characters : List ℕ} {from : WriteProgress} {before now : List ℕ} (m end : ℕ)
    → WritesOn characters from before (written_to write.Start m end) now → m < length characters
    → end < length now → (c : ℕ) → c ≡ get_or characters m 0 → is_direct c ≡ true
    → WritesOn characters from before (written_to write.Start (m + 1) (end + 1)) (set now end c)
direct_more {characters = characters} {from = from} {before = before} {now = now} m end p h l c e d =
    subst (λ (x : ℕ). WritesOn characters from before (written_to write.Start (m + 1) (end + 1)) (set now end x))
    (sym e) (writes_more p (writes_direct_one characters m end now h l (sym (ap is_direct e) ∙ d)))

-- each character is written as itself
abbrev pub AreDirect : List ℕ → Type 0
AreDirect [] = Unit {0}
AreDirect (c ∷ characters) = (is_direct c ≡ true) × AreDirect characters

-- direct characters are written as themselves
pub direct_output : (characters : List ℕ) → AreDirect characters
    → output_for utf7_writes write.Start characters ≡ output characters 0 write.Start
direct_output [] d = refl
direct_output (c ∷ characters) d =
    let rest = direct_output characters d.1 in
    let e : writes_at_start c ≡ (c ∷ [], write.Start) = start_direct c d.0 in
    rw (e, rest) refl

-- the first characters are direct
pub are_direct : (n : ℕ) (characters : List ℕ) → ((i : ℕ) → i < n → i < length characters
    → is_direct (get_or characters i 0) ≡ true) → AreDirect (take n characters)
are_direct zero characters h = tt
are_direct (suc n) [] h = tt
are_direct (suc n) (c ∷ characters) h =
    (h 0 (omega arith) (omega arith), are_direct n characters (λ i l m. h (suc i) (omega arith) (omega arith)))

-- direct characters are put; as many bytes may be overwritten as there are characters
pub writes_direct : (characters : List ℕ) (k at r many : ℕ) (before after : List ℕ) → r ≤ many → k + many
    ≤ length characters → at + many ≤ length before → ((i : ℕ) → i < r → is_direct (get_or characters (k + i) 0) ≡ true)
    → take (at + r) after ≡ take at before ++ take r (drop k characters)
    → drop (at + many) after ≡ drop (at + many) before → length after ≡ length before
    → WritesOn characters (written_to write.Start k at) before (written_to write.Start (k + r) (at + r)) after
writes_direct characters k at r many before after h w f d s b l =
    let run = take r (drop k characters) in
    let long : length run ≡ r = simp (length-take, length-drop) (omega arith) in
    let o = direct_output run (are_direct r (drop k characters) (λ i p q. rw get_or-drop (d i p))) in
    record {
      run = run;
      are = sym (take-append-drop r (drop k characters)) ∙ ap (λ (x : List ℕ). run ++ x) (drop-drop r k characters);
      counts = omega arith;
      within = omega arith;
      count = ap (λ (x : Output). x.count) o;
      next = sym (ap (λ (x : Output). x.next) o);
      ends = omega (arith, ap (λ (x : Output). length x.bytes) o);
      some = omega arith;
      few = omega arith;
      fits = omega arith;
      stand = s ∙ ap (λ (x : List ℕ). take at before ++ x) (sym (ap (λ (x : Output). x.bytes) o));
      behind = further before after (at + many) (at + r + (length characters - (k + r))) (omega arith) b;
      size = l;
    }

-- a prefix of a list that has the numbers of a part of another
same_front : (n j : ℕ) (a b : List ℕ) → n ≤ length a → j + n ≤ length b
    → ((k : ℕ) → k < n → get_or a k 0 ≡ get_or b (j + k) 0) → take n a ≡ take n (drop j b)
same_front n j a b h l e =
    ext_get_or 0 (take n a) (take n (drop j b)) (simp (length-take, length-drop) (omega arith)) (λ k m. (
    let s : k < n = omega (arith, length-take n a) in
    get_or-take n a k 0 s ∙ e k s ∙ sym (get_or-drop j b k 0) ∙ sym (get_or-take n (drop j b) k 0 s)))

-- the direct characters at the start of sixteen are written if all sixteen were put
pub writes_run : (characters bytes : List ℕ) (n at run : ℕ) (before after : List ℕ) → length bytes ≡ 16
    → ((i : ℕ) → i < 16 → is_direct (get_or bytes i 0) ≡ true → get_or bytes i 0 ≡ get_or characters (n + i) 0) → n + 16
    ≤ length characters → at + 16 ≤ length before → run ≤ 16 → ((i : ℕ) → i < run → is_direct (get_or bytes i 0) ≡ true)
    → after ≡ take at before ++ take 16 bytes ++ drop (at + 16) before
    → WritesOn characters (written_to write.Start n at) before (written_to write.Start (n + run) (at + run)) after
writes_run characters bytes n at run before after sixteen narrowed left room few direct put =
    let same : (i : ℕ) → i < run
    → get_or bytes i 0 ≡ get_or characters (n + i) 0 = (λ i l. narrowed i (omega arith) (direct i l)) in
    let long : length (take at before) ≡ at = simp length-take (omega arith) in
    let part : length (take 16 bytes) ≡ 16 = simp length-take (omega arith) in
    let whole : length (take at before ++ take 16 bytes) ≡ at + 16 = simp length-append (omega arith) in
    let front : take (at + 16) after ≡ take at before ++ take 16 bytes = ap (take (at + 16)) put
    ∙ take_at (take at before ++ take 16 bytes) (drop (at + 16) before) (at + 16) whole in
    writes_direct characters n at run 16 before after few left room (λ i l. ap is_direct (sym (same i l)) ∙ direct i l)
    (front_of_put at run 16 before after bytes (omega arith) few front
    ∙ ap (λ (x : List ℕ). take at before ++ x) (same_front run n bytes characters (omega arith) (omega arith) same))
    (ap (drop (at + 16)) put ∙ drop_at (take at before ++ take 16 bytes) (drop (at + 16) before) (at + 16) whole)
    (ap length put ∙ simp (length-append, length-drop) (omega arith))
