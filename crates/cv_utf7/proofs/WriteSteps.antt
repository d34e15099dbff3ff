-- Steps of writing a block, one after another.
use Rattle.std.proofs.Common.{◌≡◌, ℕ, ◌+◌, ◌-◌, ◌<◌, ◌≤◌, List, [], ◌∷◌, ◌++◌, length, take, drop, get_or, refl, sym}
use Rattle.std.proofs.Common.{◌∙◌, ap, subst, arith, append_assoc, append-nil, add-zero, length-append, length-take}
use Rattle.std.proofs.Common.{length-drop, Some, Option, inl, inr}
use Rattle.std.proofs.lemmas.Bool.{cases_Bool}
use Rattle.std.proofs.lemmas.List.{drop_more, drop_all, take-append-drop, take_at, drop_at}
use Rattle.std.specs.Prelude.{◌==◌, ◌⊎◌}
use Rattle.cv_base.specs.Scalars.{question}
use Rattle.cv_base.specs.Chains.{Output, output, written, put_or, substituted, followed, output_for}
use Rattle.cv_base.specs.Blocks.{IsWrittenBlock}
use Rattle.cv_base.specs.Places.{PutsAt}
use Rattle.cv_base.specs.declared.block.WrittenBlock.{WrittenBlock}
use Rattle.cv_base.specs.declared.put.Put.{Put}
use Rattle.cv_base.specs.declared.put.Put.TheVariants.{Wrote, Lacks, NoRoom}
use Rattle.cv_base.specs.declared.state.Bits.{Bits}
use Rattle.cv_base.specs.declared.state.WriteState.{WriteState}
use Rattle.cv_base.specs.declared.state.WriteState.TheVariants as write
use Rattle.cv_block.proofs.Slack.{further}
use Rattle.cv_utf7.specs.Sets.{is_direct}
use Rattle.cv_utf7.specs.BitLists.{bits_of, character_bits}
use Rattle.cv_utf7.proofs.CodeUnits.{character_length}
use Rattle.cv_utf7.proofs.Digits.{some_digits}
use Rattle.cv_utf7.specs.Utf7.{plus, utf7_writes, writes_at_start, writes_in_shift}
use Rattle.cv_utf7.specs.Private.WriteSteps.{written_to, WritesOn}
use Rattle.cv_utf7.specs.declared.write.sequences.WriteProgress.{WriteProgress}
use Rattle.cv_base.proofs.ChainLaws.{output_for-append}
use Rattle.cv_utf7.proofs.Writes.{starts_most, shifts_most}

-- what is written for a character in a state
unfoldable pub bytes_in : WriteState → ℕ → List ℕ × WriteState
bytes_in write.Start c = writes_at_start c
bytes_in write.Marked c = writes_at_start c
bytes_in (write.Shifted p) c = writes_in_shift p c

pub all_written : (t : WriteState) (c : ℕ) → utf7_writes t c ≡ Some (bytes_in t c)
unfolding bytes_in
all_written write.Start c = refl
all_written write.Marked c = refl
all_written (write.Shifted p) c = refl

-- they are at most six bytes
pub bytes_most : (t : WriteState) (c : ℕ) → length (bytes_in t c).0 ≤ 6
unfolding bytes_in
bytes_most write.Start c = starts_most c
bytes_most write.Marked c = starts_most c
bytes_most (write.Shifted p) c = shifts_most p c

starts_some : (c : ℕ) → 0 < length (writes_at_start c).0
starts_some c = elim (cases_Bool (is_direct c)) [
  | inl e ↦ rw e (omega arith)
  | inr e ↦ rw e (elim (cases_Bool (c == plus)) [ inl f ↦ rw f (omega arith) | inr f ↦ rw f (omega arith) ])
]

shifts_some : (p : Bits) (c : ℕ) → 0 < length (writes_in_shift p c).0
shifts_some p c = elim (cases_Bool (is_direct c)) [
  | inl e ↦ rw (e, length-append) (omega arith)
  | inr e ↦ rw e (some_digits (bits_of p ++ character_bits c) (rw length-append (omega (arith, character_length c))))
]

-- they are at least one byte
pub bytes_some : (t : WriteState) (c : ℕ) → 0 < length (bytes_in t c).0
unfolding bytes_in
bytes_some write.Start c = starts_some c
bytes_some write.Marked c = starts_some c
bytes_some (write.Shifted p) c = shifts_some p c

-- what is written for one character
one_written : (t : WriteState) (c : ℕ) → output_for utf7_writes t (c ∷ []) ≡ output (bytes_in t c).0 0 (bytes_in t c).1
one_written t c =
    let e : written utf7_writes t (Some c) ≡ output (bytes_in t c).0 0 (bytes_in t c).1 =
    ap (put_or (substituted t (utf7_writes t question))) (all_written t c) in
    rw e (rw (append-nil, add-zero) refl)

-- a step of writing continues another
pub writes_more : {characters : List ℕ} {from middle to : WriteProgress} {before now after : List ℕ}
    → WritesOn characters from before middle now → WritesOn characters middle now to after
    → WritesOn characters from before to after
writes_more {characters = characters} {from = from} {middle = middle} {to = to} {before = before} {now = now} p q =
    let first = output_for utf7_writes from.next p.run in
    let then = output_for utf7_writes middle.next q.run in
    let same : output_for utf7_writes first.next q.run ≡ then =
    ap (λ (s : WriteState). output_for utf7_writes s q.run) (sym p.next) in
    let all : output_for utf7_writes from.next (p.run ++ q.run) ≡ followed first then =
    output_for-append utf7_writes from.next p.run q.run ∙ ap (followed first) same in
    record {
      run = p.run ++ q.run;
      are = p.are ∙ ap (λ (x : List ℕ). p.run ++ x) q.are ∙ sym (append_assoc p.run q.run (drop to.n characters));
      counts = omega (arith, p.counts, q.counts, length-append p.run q.run);
      within = q.within;
      count = ap (λ (o : Output). o.count) all
          ∙ (let e : first.count + then.count ≡ 0 = omega (arith, p.count, q.count) in e);
      next = q.next ∙ sym (ap (λ (o : Output). o.next) all);
      ends =
          omega (arith, p.ends, q.ends, ap (λ (o : Output). length o.bytes) all, length-append first.bytes then.bytes);
      some = omega (arith, p.some, q.some, length-append p.run q.run);
      few = omega (arith, p.few, q.few, length-append p.run q.run);
      fits = omega (arith, q.fits, p.size);
      stand = q.stand ∙ ap (λ (x : List ℕ). x ++ then.bytes) p.stand ∙ append_assoc (take from.end before) first.bytes
          then.bytes ∙ ap (λ (x : List ℕ). take from.end before ++ x) (sym (ap (λ (o : Output). o.bytes) all));
      behind = q.behind ∙ further before now (middle.end + (length characters - middle.n))
          (to.end + (length characters - to.n)) (omega (arith, q.some, q.counts, q.within)) p.behind;
      size = q.size ∙ p.size;
    }

-- the place at which writing arrived, by its state
pub writes_to : {characters : List ℕ} {from to : WriteProgress} {before after : List ℕ} → WritesOn characters from
    before to after → (t : WriteState) → to.next ≡ t → WritesOn characters from before (written_to t to.n to.end) after
writes_to p t e = record {
  run = p.run;
  are = p.are;
  counts = p.counts;
  within = p.within;
  count = p.count;
  next = sym e ∙ p.next;
  ends = p.ends;
  some = p.some;
  few = p.few;
  fits = p.fits;
  stand = p.stand;
  behind = p.behind;
  size = p.size;
}

-- a character is put
pub put_one : (characters : List ℕ) (from : WriteProgress) (n : ℕ) (before : List ℕ) (next : WriteState)
    (after : List ℕ) → from.n < length characters → n ≡ length (bytes_in from.next (get_or characters from.n 0)).0
    → next ≡ (bytes_in from.next (get_or characters from.n 0)).1 → from.end + n ≤ length before
    → after ≡ take from.end before ++ (bytes_in from.next (get_or characters from.n 0)).0 ++ drop (from.end + n) before
    → WritesOn characters from before (written_to next (from.n + 1) (from.end + n)) after
put_one characters from n before next after h e f l p =
    let c = get_or characters from.n 0 in
    let b = bytes_in from.next c in
    let o = one_written from.next c in
    let long : length (take from.end before ++ b.0) ≡ from.end + n = simp (length-append, length-take) (omega arith) in
    record {
      run = c ∷ [];
      are = drop_more characters from.n 0 h;
      counts = refl;
      within = omega arith;
      count = ap (λ (x : Output). x.count) o;
      next = f ∙ sym (ap (λ (x : Output). x.next) o);
      ends = omega (arith, ap (λ (x : Output). length x.bytes) o);
      some = omega (arith, bytes_some from.next c);
      few = omega (arith, bytes_most from.next c);
      fits = l;
      stand = ap (take (from.end + n)) p ∙ take_at (take from.end before ++ b.0) (drop (from.end + n) before)
          (from.end + n) long ∙ ap (λ (x : List ℕ). take from.end before ++ x) (sym (ap (λ (x : Output). x.bytes) o));
      behind = further before after (from.end + n) (from.end + n + (length characters - (from.n + 1)))
          (omega arith) (ap (drop (from.end + n)) p
          ∙ drop_at (take from.end before ++ b.0) (drop (from.end + n) before) (from.end + n) long);
      size = ap length p ∙ simp (length-append, length-take, length-drop) (omega arith);
    }

-- what was put by `put_at`
pub writes_put : (characters : List ℕ) (from : WriteProgress) (n : ℕ) (before : List ℕ) (next : WriteState)
    (after : List ℕ) → from.n < length characters → PutsAt (utf7_writes from.next (get_or characters from.n 0)) before
    from.end (Wrote n next) after → WritesOn characters from before (written_to next (from.n + 1) (from.end + n)) after
writes_put characters from n before next after h p =
    let q = subst (λ (w : Option (List ℕ × WriteState)). PutsAt w before from.end (Wrote n next) after)
    (all_written from.next (get_or characters from.n 0)) p in
    put_one characters from n before next after h q.0.wrote q.1 q.0.fits q.0.out

-- six bytes are room for any character
pub never_full : (t : WriteState) (c at : ℕ) (before after : List ℕ) → at + 6 ≤ length before
    → PutsAt (utf7_writes t c) before at NoRoom after → ⊥
never_full t c at before after h p =
    let q = subst (λ (w : Option (List ℕ × WriteState)). PutsAt w before at NoRoom after) (all_written t c) p in
    omega (arith, q.full, bytes_most t c)

-- the target has every character
pub never_lacks : (t : WriteState) (c at : ℕ) (before after : List ℕ) → PutsAt (utf7_writes t c) before at Lacks after
    → ⊥
never_lacks t c at before after p =
    subst (λ (w : Option (List ℕ × WriteState)). PutsAt w before at Lacks after) (all_written t c) p

-- what was written to the end is a block
pub is_block : (characters : List ℕ) (t : WriteState) (at : ℕ) (before : List ℕ) (to : WriteProgress) (after : List ℕ)
    (block : WrittenBlock) → WritesOn characters (written_to t 0 at) before to after → to.n ≡ length characters
    → at + block.wrote ≡ to.end → block.count ≡ 0 → block.next ≡ to.next
    → IsWrittenBlock utf7_writes t characters before at block after
is_block characters t at before to after block p e w c n =
    let all : characters ≡ p.run = p.are ∙ ap (λ (x : List ℕ). p.run ++ x) (drop_all to.n characters (omega arith))
    ∙ append-nil p.run in
    let same : output_for utf7_writes t characters ≡ output_for utf7_writes t p.run =
    ap (output_for utf7_writes t) all in
    let there : to.end + (length characters - to.n) ≡ at + block.wrote = omega arith in
    record {
      counts = c ∙ sym (ap (λ (o : Output). o.count) same ∙ p.count);
      next = n ∙ p.next ∙ sym (ap (λ (o : Output). o.next) same);
      bytes = record {
        wrote = omega (arith, p.ends, ap (λ (o : Output). length o.bytes) same);
        fits = omega (arith, p.fits);
        out = sym (take-append-drop to.end after) ∙ ap (λ (x : List ℕ). x ++ drop to.end after)
            (p.stand ∙ ap (λ (o : Output). take at before ++ o.bytes) (sym same))
            ∙ ap (λ (x : List ℕ). take at before ++ (output_for utf7_writes t characters).bytes ++ x)
            (ap (λ (i : ℕ). drop i after) (omega arith) ∙ p.behind ∙ ap (λ (i : ℕ). drop i before) there);
      };
    }

-- a character is put if there is room
pub always_put : (t : WriteState) (c at : ℕ) (before : List ℕ) (put : Put) (after : List ℕ) → at + 6 ≤ length before
    → PutsAt (utf7_writes t c) before at put after → (put ≡ NoRoom) ⊎ (put ≡ Lacks) → ⊥
always_put t c at before put after h p o = elim o [
  | inl e ↦ never_full t c at before after h (subst (λ (r : Put). PutsAt (utf7_writes t c) before at r after) e p)
  | inr e ↦ never_lacks t c at before after (subst (λ (r : Put). PutsAt (utf7_writes t c) before at r after) e p)
]
