-- Shifted sequences of one character.
use Rattle.std.proofs.Common.{◌≡◌, ℕ, inl, inr, ◌+◌, ◌<◌, ◌≤◌, List, length, take, drop, set, refl, sym, ap, arith}
use Rattle.std.proofs.Common.{add-zero, length-set, length-drop, length-take, get_or, get_or-drop, true, Some, None}
use Rattle.std.proofs.Common.{◌%◌, ◌/◌, ◌∙◌, lit≤, lit<}
use Rattle.std.proofs.lemmas.List.{take-set, get_or-take}
use Rattle.cv_base.specs.Items.{Taken, taken, Stands}
use Rattle.cv_base.specs.declared.state.ReadState.TheVariants as read
use Rattle.cv_base.specs.declared.state.Bits.{Bits}
use Rattle.cv_block.specs.Surrogates.{IsSurrogate}
use Rattle.cv_utf7.specs.declared.read.base64_unit.Base64Unit.{Base64Unit}
use Rattle.cv_utf7.proofs.DigitUnits.{two_bits}
use Rattle.cv_utf7.proofs.SetMembers.{value_lt}
use Rattle.cv_utf7.specs.Sets.{is_digit, value_of}
use Rattle.cv_utf7.proofs.Digits.{AreDigits-at}
use Rattle.cv_utf7.specs.Utf7.{plus, minus, EndsAt, utf7_reads}
use Rattle.cv_utf7.proofs.PartialUnits.{front_none, unit_0}
use Rattle.cv_utf7.proofs.ShiftItems.{unit_length, char_stands}
use Rattle.cv_utf7.proofs.FewDigits.{end_item}
use Rattle.cv_utf7.proofs.StartItems.{start_shift}
use Rattle.cv_utf7.specs.Private.ReadSteps.{read_to, ReadsOn, Ends, AreThree, IsLone}
use Rattle.cv_utf7.proofs.ReadSteps.{reads_more, reads_to, reads_same, reads_character, reads_shift}

-- no bits
no_bits : Bits
no_bits = record { count = 0; value = 0; few = lit≤ tt; even = refl; in_range = lit< tt }

-- three digits whose last two bits are 0, and what ends a sequence
pub lone_is : (text : List ℕ) (at number c : ℕ) → AreThree text (at + 1) number → at + 5 ≤ length text
    → get_or text at 0 ≡ plus → number % 4 ≡ 0 → c ≡ number / 4 → (IsSurrogate (number / 4) → ⊥)
    → Ends (get_or text (at + 4) 0) → IsLone text at c
unfolding no_bits two_bits
lone_is text at number c p h begins zero is scalar ends =
    let rest : List ℕ = drop (at + 1) text in
    let b0 : get_or rest 0 0 ≡ get_or text (at + 1) 0 =
    rw get_or-drop (ap (λ (j : ℕ). get_or text j 0) (omega arith)) in
    let b1 : get_or rest 1 0 ≡ get_or text (at + 1 + 1) 0 = get_or-drop (at + 1) text 1 0 in
    let b2 : get_or rest 2 0 ≡ get_or text (at + 1 + 2) 0 = get_or-drop (at + 1) text 2 0 in
    let v0 = ap value_of b0 in
    let v1 = ap value_of b1 in
    let v2 = ap value_of b2 in
    let l2 = value_lt (get_or text (at + 1 + 2) 0) p.third in
    let unit : Base64Unit = record { value = number / 4; n = 3; over = two_bits number } in
    record {
      none = no_bits;
      unit = unit;
      nothing = refl;
      begins = begins;
      is_unit = unit_0 no_bits rest unit (λ f. omega arith) (λ f. omega arith)
          (omega (arith, length-drop (at + 1) text)) (ap is_digit b0 ∙ p.first) (ap is_digit b1 ∙ p.second)
          (ap is_digit b2 ∙ p.third) refl refl (omega (arith, p.spell, v0, v1, v2))
          (omega (arith, p.spell, v0, v1, v2));
      is = sym is;
      scalar = scalar;
      zero = zero;
      ends = ends;
    }

-- the digits of a lone character are three
lone_digits : (text : List ℕ) (at c : ℕ) (p : IsLone text at c) → p.unit.n ≡ 3
lone_digits text at c p =
    omega (arith, unit_length p.none (drop (at + 1) text) p.unit p.is_unit, p.nothing, p.unit.over.few)

-- `+` and a digit
lone_first : (text : List ℕ) (at c : ℕ) (p : IsLone text at c) → at + 5 ≤ length text
    → is_digit (get_or (drop at text) 1 0) ≡ true
lone_first text at c p h =
    let three = lone_digits text at c p in
    let d = AreDigits-at (take p.unit.n (drop (at + 1) text)) p.is_unit.are_digits 0
    (simp (length-take, length-drop) (omega arith)) in
    let g : get_or (take p.unit.n (drop (at + 1) text)) 0 0 ≡ get_or (drop (at + 1) text) 0 0 =
    get_or-take p.unit.n (drop (at + 1) text) 0 0 (omega arith) in
    let e : get_or (drop at text) 1 0 ≡ get_or (take p.unit.n (drop (at + 1) text)) 0 0 =
    rw (g, get_or-drop, get_or-drop) (ap (λ (k : ℕ). get_or text k 0) (omega arith)) in
    rw e d

-- the end of a sequence whose pending bits are zero
pub end_at : (text : List ℕ) (at : ℕ) (over : Bits) (i : Taken) → at < length text → over.value ≡ 0
    → EndsAt 1 (get_or text at 0) i → Stands utf7_reads (read.Shifted over) (drop at text) i
end_at text at over i h z e =
    let g : get_or (drop at text) 0 0 ≡ get_or text at 0 = rw (get_or-drop, add-zero) refl in
    end_item over (drop at text) 0 over.count over.value i
    (front_none over (drop at text) over.count over.value refl refl) (omega (arith, length-drop at text)) z (rw g e)

-- a lone character, and the state in which its sequence ends
lone_character : (text : List ℕ) (used n c : ℕ) (before : List ℕ) (p : IsLone text used c)
    → used + 5 ≤ length text → n < length before → ReadsOn text (read_to read.Start used n) before
    (read_to (read.Shifted p.unit.over) (used + 4) (n + 1)) (set before n c)
lone_character text used n c before p h l =
    let three = lone_digits text used c p in
    let begins : get_or (drop used text) 0 0 ≡ plus = rw (get_or-drop, add-zero) p.begins in
    let shift = start_shift (drop used text) p.none p.nothing (omega (arith, length-drop used text)) begins
    (lone_first text used c p h) in
    let stands =
    char_stands p.none (drop (used + 1) text) p.unit c p.unit.n p.unit.over p.is_unit (sym p.is) refl refl p.scalar in
    let first =
    reads_shift text (read_to read.Start used n) before 1 (read.Shifted p.none) (omega arith) (omega arith) shift in
    let then = reads_character text (read_to (read.Shifted p.none) (used + 1) n) before c p.unit.n
    (read.Shifted p.unit.over) (omega arith) l stands in
    reads_to (reads_more first then) (read.Shifted p.unit.over) (used + 4) (n + 1) refl (omega arith) refl

-- a lone character and `-`
pub reads_lone : (text : List ℕ) (used n c b : ℕ) (before : List ℕ) → IsLone text used c → used + 5 ≤ length text
    → n + 1 < length before → get_or text (used + 4) 0 ≡ minus → ReadsOn text (read_to read.Start used n) before
    (read_to read.Start (used + 5) (n + 1)) (set (set before n c) (n + 1) b)
reads_lone text used n c b before p h l e =
    let first = lone_character text used n c before p h (omega arith) in
    let ends : EndsAt 1 (get_or text (used + 4) 0) (taken 1 None read.Start) = inl (e, refl) in
    let stands = end_at text (used + 4) p.unit.over (taken 1 None read.Start) (omega arith) p.zero ends in
    let then = reads_shift text (read_to (read.Shifted p.unit.over) (used + 4) (n + 1)) (set before n c) 1 read.Start
    (omega arith) (omega (arith, length-set before n c)) stands in
    reads_same (reads_to (reads_more first then) read.Start (used + 5) (n + 1) refl (omega arith) refl)
    (set (set before n c) (n + 1) b) (length-set (set before n c) (n + 1) b) (take-set (set before n c) (n + 1) b)

-- a lone character and the direct one after it
pub reads_lone_direct : (text : List ℕ) (used n c : ℕ) (before : List ℕ) → IsLone text used c → used + 5 ≤ length text
    → n + 1 < length before → (get_or text (used + 4) 0 ≡ minus → ⊥) → ReadsOn text (read_to read.Start used n) before
    (read_to read.Start (used + 5) (n + 2)) (set (set before n c) (n + 1) (get_or text (used + 4) 0))
reads_lone_direct text used n c before p h l e =
    let first = lone_character text used n c before p h (omega arith) in
    let b = get_or text (used + 4) 0 in
    let ends : EndsAt 1 (get_or text (used + 4) 0) (taken 1 (Some (get_or text (used + 4) 0)) read.Start) =
    inr (p.ends.0, p.ends.1, e, refl) in
    let stands = end_at text (used + 4) p.unit.over (taken 1 (Some (get_or text (used + 4) 0)) read.Start)
    (omega arith) p.zero ends in
    let then = reads_character text (read_to (read.Shifted p.unit.over) (used + 4) (n + 1)) (set before n c)
    (get_or text (used + 4) 0) 1 read.Start (omega arith) (omega (arith, length-set before n c)) stands in
    reads_to (reads_more first then) read.Start (used + 5) (n + 2) refl (omega arith) (omega arith)

pub ruleset lone_reads = (reads_lone, reads_lone_direct)
