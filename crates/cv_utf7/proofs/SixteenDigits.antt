-- Sixteen digits that are read at once.
use Rattle.std.proofs.Common.{◌≡◌, ℕ, zero, suc, ◌+◌, ◌<◌, ◌≤◌, List, [], ◌∷◌, ◌++◌, length, take, drop}
use Rattle.std.proofs.Common.{set, get_or, true, refl, sym, ◌∙◌, ap, arith, Some, None}
use Rattle.std.proofs.Common.{length-set, inl, inr, Bool, false, nat_eq, not, take_at, length-take-le}
use Rattle.std.proofs.Common.{get_or-append-add}
use mir.Val.{bool_byte}
use Rattle.std.proofs.lemmas.Bool.{eqb-true, eqb-false}
use Rattle.std.proofs.lemmas.List.{take_more, take-set, take-take, get_or-take}
use Rattle.cv_base.specs.Items.{taken, Stands}
use Rattle.cv_base.specs.declared.block.ReadBlock.{ReadBlock}
use Rattle.cv_base.specs.declared.state.Bits.{Bits}
use Rattle.cv_base.specs.declared.state.ReadState.{ReadState}
use Rattle.cv_base.specs.declared.state.ReadState.TheVariants as read
use Rattle.cv_block.specs.Surrogates.{IsSurrogate}
use Rattle.cv_utf7.specs.Utf7.{utf7_reads}
use Rattle.cv_utf7.specs.Private.ReadSteps.{read_to, ReadsOn, Ends}
use Rattle.cv_utf7.specs.Private.SixteenDigits.{AreUnits, Holds, first_unit, second_unit, third_unit}
use Rattle.cv_utf7.proofs.LoneSequences.{end_at}
use Rattle.cv_utf7.proofs.ReadSteps.{reads_none, reads_more, reads_to, reads_same, reads_character, reads_shift}
use Rattle.cv_utf7.proofs.ReadSteps.{some_used}
use Rattle.cv_utf7.proofs.ShiftItems.{char_stands}
use Rattle.cv_utf7.proofs.PendingBits.{no_value}
use Rattle.cv_utf7.proofs.DigitUnits.{AreValues, two_bits, four_bits, first_is, second_is, third_is}

-- a character that is in the buffer already is read
reads_held : (text : List ℕ) (at : ReadBlock) (buffer : List ℕ) (c k : ℕ) (next : ReadState) → at.used ≤ length text
    → at.n < length buffer → get_or buffer at.n 0 ≡ c → Stands utf7_reads at.next (drop at.used text)
    (taken k (Some c) next) → ReadsOn text at buffer (read_to next (at.used + k) (at.n + 1)) buffer
reads_held text at buffer c k next h l e p = record {
  chain = taken k (Some c) next ∷ [];
  is_chain = (p, tt);
  uses = omega arith;
  within = (some_used text at.next at.used (taken k (Some c) next) h p).1;
  next = refl;
  gives = take_more buffer at.n 0 l ∙ ap (λ (x : ℕ). take at.n buffer ++ x ∷ []) e;
  fits = omega arith;
  size = refl;
}

-- Code units of digits, none of which is a surrogate, are in the buffer after its first n characters.
pub record AreHeld (text : List ℕ) (at d : ℕ) (v units : List ℕ) (n : ℕ) (buffer : List ℕ) : Type 0 where
  pub are_values : AreValues text at d v
  pub are_units : AreUnits v units
  pub room : n + 8 ≤ length buffer
  pub held : (i : ℕ) → i < 8 → get_or buffer (n + i) 0 ≡ get_or units i 0
  pub scalars : (i : ℕ) → i < 8 → IsSurrogate (get_or units i 0) → ⊥

-- the first character of eight digits is read
one_read : (text v units buffer : List ℕ) (at d n b m : ℕ) (none : Bits) → AreHeld text at d v units n buffer
    → none.count ≡ 0 → b + 3 ≤ d → m < 8 → get_or units m 0 ≡ first_unit v b
    → ReadsOn text (read_to (read.Shifted none) (at + b) (n + m)) buffer
    (read_to (read.Shifted (two_bits (get_or v (b + 2) 0))) (at + b + 3) (n + m + 1)) buffer
one_read text v units buffer at d n b m none p nothing h k e =
    let over : Bits = two_bits (get_or v (b + 2) 0) in
    let u : ℕ = get_or units m 0 in
    reads_held text (read_to (read.Shifted none) (at + b) (n + m)) buffer u 3 (read.Shifted over)
    (omega (arith, p.are_values.within)) (omega (arith, p.room)) (p.held m k) (char_stands none (drop (at + b) text)
    (record { value = u; n = 3; over = over }) u 3 over (first_is text v at d b u none p.are_values nothing h e) refl
    refl refl (p.scalars m k))

-- so is the second
two_read : (text v units buffer : List ℕ) (at d n b m : ℕ) (none : Bits) → AreHeld text at d v units n buffer
    → none.count ≡ 0 → b + 6 ≤ d → m + 1 < 8 → get_or units m 0 ≡ first_unit v b
    → get_or units (m + 1) 0 ≡ second_unit v b
    → ReadsOn text (read_to (read.Shifted none) (at + b) (n + m)) buffer
    (read_to (read.Shifted (four_bits (get_or v (b + 5) 0))) (at + b + 6) (n + m + 2)) buffer
two_read text v units buffer at d n b m none p nothing h k e f =
    let two : Bits = two_bits (get_or v (b + 2) 0) in
    let over : Bits = four_bits (get_or v (b + 5) 0) in
    let u : ℕ = get_or units (m + 1) 0 in
    let place : n + m + 1 ≡ n + (m + 1) = omega arith in
    let first = one_read text v units buffer at d n b m none p nothing (omega arith) (omega arith) e in
    let second = reads_held text (read_to (read.Shifted two) (at + b + 3) (n + m + 1)) buffer u 3 (read.Shifted over)
    (omega (arith, p.are_values.within)) (omega (arith, p.room))
    (ap (λ (i : ℕ). get_or buffer i 0) place ∙ p.held (m + 1) k) (char_stands two (drop (at + b + 3) text)
    (record { value = u; n = 3; over = over }) u 3 over (second_is text v at d b u p.are_values h f) refl refl refl
    (p.scalars (m + 1) k)) in
    reads_to (reads_more first second) (read.Shifted over) (at + b + 6) (n + m + 2) refl (omega arith) (omega arith)

-- so is the third
three_read : (text v units buffer : List ℕ) (at d n b m : ℕ) (none : Bits) → AreHeld text at d v units n buffer
    → none.count ≡ 0 → b + 8 ≤ d → m + 2 < 8 → get_or units m 0 ≡ first_unit v b
    → get_or units (m + 1) 0 ≡ second_unit v b → get_or units (m + 2) 0 ≡ third_unit v b
    → ReadsOn text (read_to (read.Shifted none) (at + b) (n + m)) buffer
    (read_to (read.Shifted none) (at + b + 8) (n + m + 3)) buffer
three_read text v units buffer at d n b m none p nothing h k e f g =
    let four : Bits = four_bits (get_or v (b + 5) 0) in
    let u : ℕ = get_or units (m + 2) 0 in
    let place : n + m + 2 ≡ n + (m + 2) = omega arith in
    let first = two_read text v units buffer at d n b m none p nothing (omega arith) (omega arith) e f in
    let second = reads_held text (read_to (read.Shifted four) (at + b + 6) (n + m + 2)) buffer u 2 (read.Shifted none)
    (omega (arith, p.are_values.within)) (omega (arith, p.room))
    (ap (λ (i : ℕ). get_or buffer i 0) place ∙ p.held (m + 2) k) (char_stands four (drop (at + b + 6) text)
    (record { value = u; n = 2; over = none }) u 2 none (third_is text v at d b u none p.are_values nothing h g) refl
    refl refl (p.scalars (m + 2) k)) in
    reads_to (reads_more first second) (read.Shifted none) (at + b + 8) (n + m + 3) refl (omega arith) (omega arith)

-- So many digits are read as so many characters. If one more code unit, which has the bits that are left over, is 0, so
-- are these.
pub record IsPart (text : List ℕ) (at d n k : ℕ) (units buffer : List ℕ) (none : Bits) : Type 0 where
  pub over : Bits
  pub reads : ReadsOn text (read_to (read.Shifted none) at n) buffer
      (read_to (read.Shifted over) (at + d) (n + k)) buffer
  pub zero : get_or units k 0 ≡ 0 → over.value ≡ 0
  pub whole : d ≡ 16 → over ≡ none

start_at : (text v units buffer : List ℕ) (at d n : ℕ) (none : Bits) → AreHeld text at d v units n buffer
    → ReadsOn text (read_to (read.Shifted none) at n) buffer (read_to (read.Shifted none) (at + 0) (n + 0)) buffer
start_at text v units buffer at d n none p =
    reads_to (reads_none text (read_to (read.Shifted none) at n) buffer (omega (arith, p.are_values.within))
    (omega (arith, p.room))) (read.Shifted none) (at + 0) (n + 0) refl (omega arith) (omega arith)

-- the first eight of sixteen digits are read
half_read : (text v units buffer : List ℕ) (at d n : ℕ) (none : Bits) → AreHeld text at d v units n buffer
    → none.count ≡ 0 → 8 ≤ d
    → ReadsOn text (read_to (read.Shifted none) at n) buffer (read_to (read.Shifted none) (at + 8) (n + 3)) buffer
half_read text v units buffer at d n none p nothing h =
    let u = p.are_units in
    reads_to (reads_more (start_at text v units buffer at d n none p)
    (three_read text v units buffer at d n 0 0 none p nothing h (omega arith) u.first u.second u.third))
    (read.Shifted none) (at + 8) (n + 3) refl (omega arith) (omega arith)

pub part_read : (k : ℕ) (text v units buffer : List ℕ) (at d n : ℕ) (none : Bits) → AreHeld text at d v units n buffer
    → none.count ≡ 0 → Holds d k → 0 < k → d ≤ 16 → IsPart text at d n k units buffer none
unfolding two_bits four_bits
part_read zero text v units buffer at d n none p nothing h some few = absurd (omega arith)
part_read (suc zero) text v units buffer at d n none p nothing h some few =
    let e : d ≡ 3 = omega (arith, h.0, h.1) in
    let u = p.are_units in
    let over : Bits = two_bits (get_or v 2 0) in
    let one = reads_more (start_at text v units buffer at d n none p)
    (one_read text v units buffer at d n 0 0 none p nothing (omega (arith, e)) (omega arith) u.first) in
    record {
      over = over;
      reads = reads_to one (read.Shifted over) (at + d) (n + 1) refl (omega (arith, e)) (omega arith);
      zero = λ z. omega (arith, z, u.second);
      whole = λ f. absurd (omega (arith, e, f));
    }
part_read (suc (suc zero)) text v units buffer at d n none p nothing h some few =
    let e : d ≡ 6 = omega (arith, h.0, h.1) in
    let u = p.are_units in
    let over : Bits = four_bits (get_or v 5 0) in
    let two = reads_more (start_at text v units buffer at d n none p)
    (two_read text v units buffer at d n 0 0 none p nothing (omega (arith, e)) (omega arith) u.first u.second) in
    record {
      over = over;
      reads = reads_to two (read.Shifted over) (at + d) (n + 2) refl (omega (arith, e)) (omega arith);
      zero = λ z. omega (arith, z, u.third);
      whole = λ f. absurd (omega (arith, e, f));
    }
part_read (suc (suc (suc zero))) text v units buffer at d n none p nothing h some few =
    let e : d ≡ 8 = omega (arith, h.0, h.1) in
    record {
      over = none;
      reads = reads_to (half_read text v units buffer at d n none p nothing (omega (arith, e))) (read.Shifted none)
          (at + d) (n + 3) refl (omega (arith, e)) refl;
      zero = λ z. no_value none nothing;
      whole = λ f. refl;
    }
part_read (suc (suc (suc (suc zero)))) text v units buffer at d n none p nothing h some few =
    let e : d ≡ 11 = omega (arith, h.0, h.1) in
    let u = p.are_units in
    let over : Bits = two_bits (get_or v 10 0) in
    let half = half_read text v units buffer at d n none p nothing (omega (arith, e)) in
    let one = one_read text v units buffer at d n 8 3 none p nothing (omega (arith, e)) (omega arith) u.fourth in
    record {
      over = over;
      reads = reads_to (reads_more half one) (read.Shifted over) (at + d) (n + 4) refl (omega (arith, e)) (omega arith);
      zero = λ z. omega (arith, z, u.fifth);
      whole = λ f. absurd (omega (arith, e, f));
    }
part_read (suc (suc (suc (suc (suc zero))))) text v units buffer at d n none p nothing h some few =
    let e : d ≡ 14 = omega (arith, h.0, h.1) in
    let u = p.are_units in
    let over : Bits = four_bits (get_or v 13 0) in
    let half = half_read text v units buffer at d n none p nothing (omega (arith, e)) in
    let two =
    two_read text v units buffer at d n 8 3 none p nothing (omega (arith, e)) (omega arith) u.fourth u.fifth in
    record {
      over = over;
      reads = reads_to (reads_more half two) (read.Shifted over) (at + d) (n + 5) refl (omega (arith, e)) (omega arith);
      zero = λ z. omega (arith, z, u.sixth);
      whole = λ f. absurd (omega (arith, e, f));
    }
part_read (suc (suc (suc (suc (suc (suc zero)))))) text v units buffer at d n none p nothing h some few =
    let e : d ≡ 16 = omega (arith, h.0, h.1) in
    let u = p.are_units in
    let half = half_read text v units buffer at d n none p nothing (omega (arith, e)) in
    let three = three_read text v units buffer at d n 8 3 none p nothing (omega (arith, e))
    (omega arith) u.fourth u.fifth u.sixth in
    record {
      over = none;
      reads =
          reads_to (reads_more half three) (read.Shifted none) (at + d) (n + 6) refl (omega (arith, e)) (omega arith);
      zero = λ z. no_value none nothing;
      whole = λ f. refl;
    }
part_read (suc (suc (suc (suc (suc (suc (suc k))))))) text v units buffer at d n none p nothing h some few =
    absurd (omega (arith, h.0, h.1))

-- what was put into the buffer is in it
pub are_held : (text v units before after : List ℕ) (at d n : ℕ) → AreValues text at d v → AreUnits v units
    → length units ≡ 8 → n + 8 ≤ length before → length after ≡ length before
    → take (n + 8) after ≡ take n before ++ units → ((i : ℕ) → i < 8 → IsSurrogate (get_or units i 0) → ⊥)
    → AreHeld text at d v units n after
are_held text v units before after at d n p q long room size put scalars =
    let front : length (take n before) ≡ n = length-take-le n before (omega arith) in
    record {
      are_values = p;
      are_units = q;
      room = omega (arith, room, size);
      held = λ i h. sym (get_or-take (n + 8) after (n + i) 0 (omega arith)) ∙ ap (λ (l : List ℕ). get_or l (n + i) 0)
          put ∙ ap (λ (k : ℕ). get_or (take n before ++ units) (k + i) 0) (sym front)
          ∙ get_or-append-add (take n before) units i 0;
      scalars = scalars;
    }

-- the characters before them stay
pub front_stays : (units before after : List ℕ) (n : ℕ) → n + 8 ≤ length before
    → take (n + 8) after ≡ take n before ++ units → take n after ≡ take n before
front_stays units before after n room put =
    let front : length (take n before) ≡ n = length-take-le n before (omega arith) in
    sym (take-take n (n + 8) after (omega arith)) ∙ ap (take n) put
    ∙ take_at (take n before) units n front

-- the digits are read, after what was put into the buffer
pub reads_part : (text units before after : List ℕ) (at d n k : ℕ) (none : Bits)
    → (p : IsPart text at d n k units after none) → at ≤ length text → n ≤ length before → length after ≡ length before
    → take n after ≡ take n before → ReadsOn text (read_to (read.Shifted none) at n) before
    (read_to (read.Shifted p.over) (at + d) (n + k)) after
reads_part text units before after at d n k none p within room size front =
    reads_more (reads_same (reads_none text (read_to (read.Shifted none) at n) before within room) after size front)
    p.reads

-- sixteen digits leave no bits over
pub reads_whole : (text units before after : List ℕ) (at d n k : ℕ) (none : Bits)
    → (p : IsPart text at d n k units after none) → d ≡ 16 → at ≤ length text → n ≤ length before
    → length after ≡ length before → take n after ≡ take n before
    → ReadsOn text (read_to (read.Shifted none) at n) before (read_to (read.Shifted none) (at + d) (n + k)) after
reads_whole text units before after at d n k none p e within room size front =
    reads_to (reads_part text units before after at d n k none p within room size front) (read.Shifted none) (at + d)
    (n + k) (ap read.Shifted (p.whole e)) refl refl

-- so are fewer with the byte that ends the sequence
reads_end : (hyphen : Bool) (text units before after : List ℕ) (at d n k : ℕ) (none : Bits)
    → (p : IsPart text at d n k units after none) → at + d < length text → n + k < length before
    → length after ≡ length before → take n after ≡ take n before → get_or after (n + k) 0 ≡ get_or units k 0
    → get_or after (n + k) 0 ≡ 0 → Ends (get_or text (at + d) 0)
    → nat_eq (get_or text (at + d) 0) 45 ≡ hyphen → ReadsOn text (read_to (read.Shifted none) at n) before
    (read_to read.Start (at + d + 1) (n + k + bool_byte (not hyphen))) (set after (n + k) (get_or text (at + d) 0))
reads_end true text units before after at d n k none p within room size front one clear ends is =
    let b : ℕ = get_or text (at + d) 0 in
    let first = reads_part text units before after at d n k none p (omega arith) (omega arith) size front in
    let stands = end_at text (at + d) p.over (taken 1 None read.Start) within (p.zero (sym one ∙ clear))
    (inl (eqb-true b 45 is, refl)) in
    let then = reads_shift text (read_to (read.Shifted p.over) (at + d) (n + k)) after 1 read.Start (omega arith)
    (omega (arith, size)) stands in
    reads_same (reads_to (reads_more first then) read.Start (at + d + 1) (n + k + bool_byte (not true)) refl refl
    (omega arith)) (set after (n + k) b) (length-set after (n + k) b)
    (ap (λ (i : ℕ). take i (set after (n + k) b)) (omega arith) ∙ take-set after (n + k) b
    ∙ ap (λ (i : ℕ). take i after) (omega arith))
reads_end false text units before after at d n k none p within room size front one clear ends is =
    let b : ℕ = get_or text (at + d) 0 in
    let first = reads_part text units before after at d n k none p (omega arith) (omega arith) size front in
    let stands = end_at text (at + d) p.over (taken 1 (Some b) read.Start) within (p.zero (sym one ∙ clear))
    (inr (ends.0, ends.1, eqb-false b 45 is, refl)) in
    let then = reads_character text (read_to (read.Shifted p.over) (at + d) (n + k)) after b 1 read.Start (omega arith)
    (omega (arith, size)) stands in
    reads_to (reads_more first then) read.Start (at + d + 1) (n + k + bool_byte (not false)) refl refl (omega arith)

-- fewer digits are read with the byte that ends the sequence
pub reads_ended : (text units before after : List ℕ) (at d n k last : ℕ) (none : Bits)
    → (p : IsPart text at d n k units after none) → at + d < length text → n + k < length before
    → length after ≡ length before → take n after ≡ take n before → get_or after (n + k) 0 ≡ get_or units k 0
    → get_or after (n + k) 0 ≡ 0 → Ends (get_or text (at + d) 0) → last ≡ get_or text (at + d) 0
    → ReadsOn text (read_to (read.Shifted none) at n) before
    (read_to read.Start (at + d + 1) (n + k + bool_byte (not (nat_eq (get_or text (at + d) 0) 45))))
    (set after (n + k) last)
reads_ended text units before after at d n k last none p within room size front one clear ends e =
    rw e (reads_end (nat_eq (get_or text (at + d) 0) 45) text units before after at d n k none p within room size front
    one clear ends refl)
