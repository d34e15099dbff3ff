-- The spelling of UTF-8: ASCII, sixteen bytes that are tested at once, a word that is written, and the codec.
use Rattle.std.proofs.Common.{◌≡◌, ℕ, ◌+◌, ◌<◌, ◌≤◌, List, [], ◌∷◌, ◌++◌, length, take, drop, get_or, refl, sym, ◌∙◌}
use Rattle.std.proofs.Common.{ap, subst, arith, suc, length-append, length-take, length-drop, get_or-take, get_or-drop}
use Rattle.std.specs.List.{flat_map}
use Rattle.std.proofs.Math.Seq.{take-append-add}
use Rattle.std.proofs.lemmas.Bool.{lt-ltb}
use Rattle.std.proofs.lemmas.List.{take-take}
use borrow.Rule.Slice.PartMut.{put_mid}
use Rattle.cv_base.specs.Scalars.{AreScalars}
use Rattle.cv_block.specs.StatelessForms.{IsReadForm}
use Rattle.cv_block.proofs.FormBlocks.{ReadsForm, WritesForm}
use Rattle.cv_block.specs.declared.stateless_form.Converted.{Converted}
use Rattle.cv_base.specs.declared.state.ReadState.TheVariants as read
use Rattle.cv_base.specs.declared.state.WriteState.TheVariants as write
use Rattle.cv_utf8.specs.Utf8.{utf8_reads, utf8_bytes, utf8_writes}
use Rattle.cv_base.proofs.Front.{Begins-take}
use Rattle.cv_utf8.proofs.Utf8ReadBack.{is_in_table}

-- Each number is below 128.
abbrev AreAscii : List ℕ → Type 0
AreAscii xs = (k : ℕ) → k < length xs → get_or xs k 0 < 128

-- as many bytes as characters
abbrev pub as_many : ℕ → Converted
as_many k = record { n = k; used = k }

spells_itself : (xs : List ℕ) → AreAscii xs → flat_map utf8_bytes xs ≡ xs
spells_itself [] p = refl
spells_itself (c ∷ xs) p = rw (lt-ltb c 0x80 (p 0 (omega arith)))
    (ap (λ (x : List ℕ). c ∷ x) (spells_itself xs (λ k h. p (suc k) (omega arith))))

are_scalars : (xs : List ℕ) → AreAscii xs → AreScalars xs
are_scalars [] p = tt
are_scalars (c ∷ xs) p =
    let h : c < 128 = p 0 (omega arith) in
    ((omega arith, λ l. omega arith), are_scalars xs (λ k l. p (suc k) (omega arith)))

length-part : (xs : List ℕ) (at k : ℕ) → at + k ≤ length xs → length (take k (drop at xs)) ≡ k
length-part xs at k h = simp (length-take, length-drop) (omega arith)

part_is_ascii : (xs : List ℕ) (at k : ℕ) → at + k ≤ length xs → ((j : ℕ) → j < k → get_or xs (at + j) 0 < 128)
    → AreAscii (take k (drop at xs))
part_is_ascii xs at k h p j l =
    let m : j < k = omega (arith, length-part xs at k h) in
    rw (get_or-take, get_or-drop) (p j m)

part_spells_itself : (xs : List ℕ) (at k : ℕ) → at + k ≤ length xs → ((j : ℕ) → j < k → get_or xs (at + j) 0 < 128)
    → flat_map utf8_bytes (take k (drop at xs)) ≡ take k (drop at xs)
part_spells_itself xs at k h p = spells_itself (take k (drop at xs)) (part_is_ascii xs at k h p)

any_bits : (front xs : List ℕ) (n k : ℕ) → length front ≡ n → k ≤ 16
    → take (n + k) (front ++ take 16 xs) ≡ front ++ take k xs
any_bits front xs n k e h = subst (λ (m : ℕ). take (m + k) (front ++ take 16 xs) ≡ front ++ take k xs) e
    (take-append-add front (take 16 xs) k ∙ ap (λ (y : List ℕ). front ++ y) (take-take k 16 xs h))

length-put : (before block : List ℕ) (at m : ℕ) → at + m ≤ length before → length block ≡ m
    → length (put_mid at m before block) ≡ length before
length-put before block at m h e = simp (length-append, length-take, length-drop) (omega arith)

-- If sixteen bytes are written to a buffer, and the first k are ASCII, k characters are read.
pub read_front : (text : List ℕ) (at : ℕ) (before after : List ℕ) (n k : ℕ) → at + 16 ≤ length text → k ≤ 16
    → ((j : ℕ) → j < k → get_or text (at + j) 0 < 128) → n + 16 ≤ length before → length after ≡ length before → take
    (n + 16) after ≡ take n before ++ take 16 (drop at text) → IsReadForm utf8_bytes text at before n (as_many k) after
read_front text at before after n k within most p room size put =
    let some : at + k ≤ length text = omega arith in
    let same = part_spells_itself text at k some p in
    let long = length-part text at k some in
    let front : length (take n before) ≡ n = simp length-take (omega arith) in
    let fewer : n + k ≤ n + 16 = omega arith in
    record {
      characters = take k (drop at text);
      scalars = are_scalars (take k (drop at text)) (part_is_ascii text at k some p);
      begins = rw same (Begins-take k (drop at text));
      uses = sym (ap length same ∙ long);
      counts = sym long;
      stand = sym (take-take (n + k) (n + 16) after fewer)
          ∙ rw put (any_bits (take n before) (drop at text) n k front most);
      fits = omega arith;
      size = size;
    }

-- the bytes of each scalar read as it
pub utf8_reads_spelled : ReadsForm utf8_reads read.Start utf8_bytes
utf8_reads_spelled c scalar = (c, is_in_table c scalar, refl)

-- each scalar is written as its bytes
pub utf8_writes_spelled : WritesForm utf8_writes write.Start utf8_bytes
utf8_writes_spelled c = refl
