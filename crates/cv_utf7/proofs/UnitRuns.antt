-- What is written for runs of code units that are not ASCII: the digits of all their bits, one after another.
use Rattle.std.proofs.Common.{◌≡◌, ℕ, ◌+◌, ◌-◌, ◌*◌, ◌/◌, ◌%◌, ◌^◌, ◌<◌, ◌≤◌, Bool, true, false, List, [], ◌∷◌, ◌++◌}
use Rattle.std.proofs.Common.{length}
use Rattle.std.proofs.Common.{take, replicate, refl, sym, ◌∙◌, ap, arith, append_assoc, Some, suc, zero}
use Rattle.std.proofs.lemmas.Bool.{le-ltb}
use Rattle.std.proofs.lemmas.List.{length-append, append-nil}
use Rattle.std.specs.List.{flat_map}
use Rattle.cv_base.specs.Scalars.{question}
use Rattle.cv_base.specs.Chains.{Output, output, written, put_or, substituted, followed, output_for}
use Rattle.cv_base.specs.declared.state.Bits.{Bits}
use Rattle.cv_base.specs.declared.state.WriteState.{WriteState}
use Rattle.cv_base.specs.declared.state.WriteState.TheVariants as write
use Rattle.cv_base.proofs.ChainLaws.{output_for-append}
use Rattle.cv_utf7.specs.Sets.{is_direct, digit_of}
use Rattle.cv_utf7.specs.BitLists.{bits, number, bits_of, character_bits, digits, over}
use Rattle.cv_utf7.specs.PendingBits.{pending_of}
use Rattle.cv_utf7.specs.Utf7.{plus, minus, written_bits, last_digit, utf7_closes, utf7_writes, writes_at_start}
use Rattle.cv_utf7.specs.Utf7.{writes_in_shift}
use Rattle.std.proofs.Math.Nat.{mod-eq_of_lt}
use Rattle.cv_utf7.proofs.BitStrings.{length-bits, number-bits, zero_bits, bits-split, bits-mod}
use Rattle.cv_utf7.proofs.CodeUnits.{one_unit}
use Rattle.cv_utf7.proofs.Cuts.{digits_over, digits_3}
use Rattle.cv_utf7.proofs.PendingBits.{pending_bits, pending_is}
use Rattle.cv_utf7.proofs.Tables.{written_above}
use Rattle.cv_utf7.proofs.WriteSteps.{bytes_in, all_written}
use Rattle.cv_utf7.proofs.Writes.{shift_direct, shift_other, start_other}

-- no character above ASCII is direct
pub not_direct : (c : ℕ) → 128 ≤ c → is_direct c ≡ false
not_direct c l = sym (written_above c l) ∙ le-ltb c 128 l

-- the digits of bits, and then those of the bits left over and more
digits_more : (a b : List Bool) → digits a ++ digits (over a ++ b) ≡ digits (a ++ b)
digits_more [] b = refl
digits_more (p ∷ []) b = refl
digits_more (p ∷ q ∷ []) b = refl
digits_more (p ∷ q ∷ r ∷ []) b = refl
digits_more (p ∷ q ∷ r ∷ s ∷ []) b = refl
digits_more (p ∷ q ∷ r ∷ s ∷ t ∷ []) b = refl
digits_more (p ∷ q ∷ r ∷ s ∷ t ∷ u ∷ l) b =
    ap (λ (w : List ℕ). digit_of (number (p ∷ q ∷ r ∷ s ∷ t ∷ u ∷ [])) ∷ w) (digits_more l b)

over_more : (a b : List Bool) → over (over a ++ b) ≡ over (a ++ b)
over_more [] b = refl
over_more (p ∷ []) b = refl
over_more (p ∷ q ∷ []) b = refl
over_more (p ∷ q ∷ r ∷ []) b = refl
over_more (p ∷ q ∷ r ∷ s ∷ []) b = refl
over_more (p ∷ q ∷ r ∷ s ∷ t ∷ []) b = refl
over_more (p ∷ q ∷ r ∷ s ∷ t ∷ u ∷ l) b = over_more l b

over_even : (l : List Bool) → length l % 2 ≡ 0 → (length (over l) < 6) × (length (over l) % 2 ≡ 0)
over_even [] e = (omega arith, e)
over_even (p ∷ []) e = (omega arith, e)
over_even (p ∷ q ∷ []) e = (omega arith, e)
over_even (p ∷ q ∷ r ∷ []) e = (omega arith, e)
over_even (p ∷ q ∷ r ∷ s ∷ []) e = (omega arith, e)
over_even (p ∷ q ∷ r ∷ s ∷ t ∷ []) e = (omega arith, e)
over_even (p ∷ q ∷ r ∷ s ∷ t ∷ u ∷ l) e = over_even l (omega arith)

-- pending bits are too few for a digit
few_digits : (p : Bits) → (digits (bits_of p) ≡ []) × (over (bits_of p) ≡ bits_of p)
few_digits p = digits_over 0 [] (bits_of p) refl (omega (arith, length-bits p.count p.value, p.few))

few_pending : (p : Bits) → pending_of (over (bits_of p)) ≡ p
few_pending p = ap pending_of (few_digits p).1
    ∙ pending_is (bits_of p) p (length-bits p.count p.value) (number-bits p.count p.value ∙ mod-eq_of_lt p.in_range)

-- the output for a character before others
pub first_output : (t : WriteState) (c : ℕ) (run bytes : List ℕ) (next : WriteState) → bytes_in t c ≡ (bytes, next)
    → output_for utf7_writes t (c ∷ run) ≡ followed (output bytes 0 next) (output_for utf7_writes next run)
first_output t c run bytes next e =
    let w : written utf7_writes t (Some c) ≡ output bytes 0 next =
    ap (put_or (substituted t (utf7_writes t question))) (all_written t c ∙ ap Some e) in
    ap (λ (o : Output). followed o (output_for utf7_writes o.next run)) w

-- Each character is one code unit and not ASCII.
abbrev pub AreLong : List ℕ → Type 0
AreLong [] = Unit {0}
AreLong (c ∷ run) = (128 ≤ c) × (c < 0x10000) × AreLong run

-- the output for pending bits and more: their digits, and the bits left over
abbrev output_bits : List Bool → Output
output_bits all = output (digits all) 0 (write.Shifted (pending_of (over all)))

shift_unit : (p : Bits) (c : ℕ) → 128 ≤ c → c < 0x10000
    → writes_in_shift p c ≡ written_bits (bits_of p ++ bits 16 c)
shift_unit p c l h = shift_other p c (not_direct c l)
    ∙ ap (λ (b : List Bool). written_bits (bits_of p ++ b)) (one_unit c h)

-- the output of units is the digits of all their bits
pub run_output : (p : Bits) (run : List ℕ) → AreLong run
    → output_for utf7_writes (write.Shifted p) run ≡ output_bits (bits_of p ++ flat_map (bits 16) run)
unfolding bytes_in
run_output p [] h = rw append-nil (let d : digits (bits_of p) ≡ [] = (few_digits p).0 in
    let o : pending_of (over (bits_of p)) ≡ p = few_pending p in rw (d, o) refl)
run_output p (c ∷ run) h =
    let all : List Bool = bits_of p ++ bits 16 c in
    let rest : List Bool = flat_map (bits 16) run in
    let even : length all % 2 ≡ 0 =
    omega (arith, length-append (bits_of p) (bits 16 c), length-bits p.count p.value, length-bits 16 c, p.even) in
    let o = over_even all even in
    let q : Bits = pending_of (over all) in
    let same : bits_of q ≡ over all = pending_bits (over all) o.0 o.1 in
    let r : output_for utf7_writes (write.Shifted q) run ≡ output_bits (over all ++ rest) =
    run_output q run h.2 ∙ ap (λ (b : List Bool). output_bits (b ++ rest)) same in
    first_output (write.Shifted p) c run (digits all) (write.Shifted q) (shift_unit p c h.0 h.1)
    ∙ ap (followed (output (digits all) 0 (write.Shifted q))) r
    ∙ ap (λ (w : List ℕ). output w 0 (write.Shifted (pending_of (over (over all ++ rest))))) (digits_more all rest)
    ∙ ap (λ (b : List Bool). output (digits (all ++ rest)) 0 (write.Shifted (pending_of b))) (over_more all rest)
    ∙ ap output_bits (append_assoc (bits_of p) (bits 16 c) rest)

-- no bits are pending
none : bits_of (pending_of []) ≡ []
none = pending_bits [] (omega arith) refl

-- the output of units after no pending bits
pub units_output : (run : List ℕ) → AreLong run
    → output_for utf7_writes (write.Shifted (pending_of [])) run ≡ output_bits (flat_map (bits 16) run)
units_output run h = run_output (pending_of []) run h
    ∙ ap (λ (b : List Bool). output_bits (b ++ flat_map (bits 16) run)) none

-- sixteen bits a unit
pub length_units : (run : List ℕ) → length (flat_map (bits 16) run) ≡ 16 * length run
length_units [] = refl
length_units (c ∷ run) = simp length-append (omega (arith, length_units run, length-bits 16 c))

-- six units leave no bits over
pub six_output : (run : List ℕ) → AreLong run → length run ≡ 6
    → output_for utf7_writes (write.Shifted (pending_of [])) run
    ≡ output (digits (flat_map (bits 16) run)) 0 (write.Shifted (pending_of []))
six_output run h six =
    let all : List Bool = flat_map (bits 16) run in
    let none_over : over all ≡ [] = ap over (sym (append-nil all))
    ∙ (digits_over 16 all [] (omega (arith, length_units run)) (omega arith)).1 in
    units_output run h ∙ ap (λ (b : List Bool). output (digits all) 0 (write.Shifted (pending_of b))) none_over

-- digits, the closing digit and zero bits
closed_digits : (a : List Bool) (m k : ℕ) (more : List Bool) → length a + k ≡ 6 * m → k < 6
    → digits a ++ last_digit (over a) ≡ take m (digits (a ++ (replicate k false ++ more)))
closed_digits [] m k more e h = let f : k ≡ 0 = omega arith in let g : m ≡ 0 = omega arith in rw (f, g) refl
closed_digits (p ∷ []) m k more e h =
    let f : k ≡ 5 = omega arith in let g : m ≡ 1 = omega arith in rw (f, g) refl
closed_digits (p ∷ q ∷ []) m k more e h =
    let f : k ≡ 4 = omega arith in let g : m ≡ 1 = omega arith in rw (f, g) refl
closed_digits (p ∷ q ∷ r ∷ []) m k more e h =
    let f : k ≡ 3 = omega arith in let g : m ≡ 1 = omega arith in rw (f, g) refl
closed_digits (p ∷ q ∷ r ∷ s ∷ []) m k more e h =
    let f : k ≡ 2 = omega arith in let g : m ≡ 1 = omega arith in rw (f, g) refl
closed_digits (p ∷ q ∷ r ∷ s ∷ t ∷ []) m k more e h =
    let f : k ≡ 1 = omega arith in let g : m ≡ 1 = omega arith in rw (f, g) refl
closed_digits (p ∷ q ∷ r ∷ s ∷ t ∷ u ∷ l) zero k more e h = absurd (omega arith)
closed_digits (p ∷ q ∷ r ∷ s ∷ t ∷ u ∷ l) (suc m) k more e h =
    ap (λ (w : List ℕ). digit_of (number (p ∷ q ∷ r ∷ s ∷ t ∷ u ∷ [])) ∷ w) (closed_digits l m k more (omega arith) h)

replicate_more : (a b : ℕ) → replicate (a + b) false ≡ replicate a false ++ replicate b false
replicate_more zero b = ap (λ (n : ℕ). replicate n false) (let e : 0 + b ≡ b = omega arith in e)
replicate_more (suc a) b = ap (λ (n : ℕ). replicate n false) (let e : suc a + b ≡ suc (a + b) = omega arith in e)
    ∙ ap (λ (l : List Bool). false ∷ l) (replicate_more a b)

-- units of value 0 are zero bits
zero_units : (j : ℕ) → flat_map (bits 16) (replicate j 0) ≡ replicate (16 * j) false
zero_units zero = refl
zero_units (suc j) =
    let e : 16 + 16 * j ≡ 16 * suc j = omega arith in
    ap (λ (b : List Bool). b ++ flat_map (bits 16) (replicate j 0)) (zero_bits 16)
    ∙ ap (λ (b : List Bool). replicate 16 false ++ b) (zero_units j)
    ∙ sym (replicate_more 16 (16 * j)) ∙ ap (λ (n : ℕ). replicate n false) e

flat-append : (a b : List ℕ) → flat_map (bits 16) (a ++ b) ≡ flat_map (bits 16) a ++ flat_map (bits 16) b
flat-append [] b = refl
flat-append (c ∷ a) b = ap (λ (t : List Bool). bits 16 c ++ t) (flat-append a b)
    ∙ sym (append_assoc (bits 16 c) (flat_map (bits 16) a) (flat_map (bits 16) b))

-- the digits of units and the closing digit are the first of the digits of these units and of zeros
pub closed_units : (run : List ℕ) (j m : ℕ) → 1 ≤ j → 6 * m < 16 * length run + 6 → 16 * length run ≤ 6 * m
    → digits (flat_map (bits 16) run) ++ last_digit (over (flat_map (bits 16) run))
    ≡ take m (digits (flat_map (bits 16) (run ++ replicate j 0)))
closed_units run j m some few many =
    let all : List Bool = flat_map (bits 16) run in
    let k : ℕ = 6 * m - 16 * length run in
    let cut : 16 * j ≡ k + (16 * j - k) = omega arith in
    let zeros : flat_map (bits 16) (replicate j 0) ≡ replicate k false ++ replicate (16 * j - k) false =
    zero_units j ∙ ap (λ (n : ℕ). replicate n false) cut ∙ replicate_more k (16 * j - k) in
    closed_digits all m k (replicate (16 * j - k) false) (omega (arith, length_units run)) (omega arith)
    ∙ ap (λ (b : List Bool). take m (digits (all ++ b))) (sym zeros)
    ∙ ap (λ (b : List Bool). take m (digits b)) (sym (flat-append run (replicate j 0)))

shift_closes : (p : Bits) (d : ℕ) → is_direct d ≡ true
    → output_for utf7_writes (write.Shifted p) (d ∷ [])
    ≡ output (last_digit (bits_of p) ++ minus ∷ d ∷ []) 0 write.Start
unfolding bytes_in
shift_closes p d e =
    let w : (utf7_closes (write.Shifted p) ++ d ∷ []) ++ [] ≡ last_digit (bits_of p) ++ minus ∷ d ∷ [] =
    append-nil _ ∙ append_assoc (last_digit (bits_of p)) (minus ∷ []) (d ∷ []) in
    first_output (write.Shifted p) d [] (utf7_closes (write.Shifted p) ++ d ∷ []) write.Start (shift_direct p d e)
    ∙ ap (λ (x : List ℕ). output x 0 write.Start) w

-- the output of units and of the direct character after them
pub shut_output : (run : List ℕ) (d : ℕ) → AreLong run → is_direct d ≡ true
    → output_for utf7_writes (write.Shifted (pending_of [])) (run ++ d ∷ [])
    ≡ output ((digits (flat_map (bits 16) run) ++ last_digit (over (flat_map (bits 16) run))) ++ minus ∷ d ∷ []) 0
    write.Start
shut_output run d h direct =
    let all : List Bool = flat_map (bits 16) run in
    let q : Bits = pending_of (over all) in
    let o = over_even all (omega (arith, length_units run)) in
    let same : bits_of q ≡ over all = pending_bits (over all) o.0 o.1 in
    let closes : output_for utf7_writes (write.Shifted q) (d ∷ [])
    ≡ output (last_digit (over all) ++ minus ∷ d ∷ []) 0 write.Start = shift_closes q d direct
    ∙ ap (λ (b : List Bool). output (last_digit b ++ minus ∷ d ∷ []) 0 write.Start) same in
    output_for-append utf7_writes (write.Shifted (pending_of [])) run (d ∷ [])
    ∙ ap (λ (x : Output). followed x (output_for utf7_writes x.next (d ∷ []))) (units_output run h)
    ∙ ap (followed (output_bits all)) closes
    ∙ ap (λ (x : List ℕ). output x 0 write.Start)
    (sym (append_assoc (digits all) (last_digit (over all)) (minus ∷ d ∷ [])))

-- the same of digits of the units and of zeros
pub closed_output : (run : List ℕ) (d j m : ℕ) → AreLong run → is_direct d ≡ true → 1 ≤ j
    → 6 * m < 16 * length run + 6 → 16 * length run ≤ 6 * m
    → output_for utf7_writes (write.Shifted (pending_of [])) (run ++ d ∷ [])
    ≡ output (take m (digits (flat_map (bits 16) (run ++ replicate j 0))) ++ minus ∷ d ∷ []) 0 write.Start
closed_output run d j m h direct some few many = shut_output run d h direct
    ∙ ap (λ (x : List ℕ). output (x ++ minus ∷ d ∷ []) 0 write.Start) (closed_units run j m some few many)

-- outside a sequence, `+` comes before what is written in a sequence with no bits pending
pub begun_output : (c : ℕ) (run : List ℕ) → is_direct c ≡ false → (c ≡ plus → ⊥) → (let o : Output =
    output_for utf7_writes (write.Shifted (pending_of [])) (c ∷ run) in
    output_for utf7_writes write.Start (c ∷ run) ≡ output (plus ∷ o.bytes) o.count o.next)
unfolding bytes_in
begun_output c run e f =
    let b : List Bool = character_bits c in
    let q : WriteState = write.Shifted (pending_of (over b)) in
    let first : writes_at_start c ≡ (plus ∷ digits b, q) = start_other c b (digits b, q) e f refl refl in
    let shift : writes_in_shift (pending_of []) c ≡ (digits b, q) = shift_other (pending_of []) c e
    ∙ ap (λ (x : List Bool). written_bits (x ++ b)) none in
    first_output write.Start c run (plus ∷ digits b) q first
    ∙ ap (λ (o : Output). output (plus ∷ o.bytes) o.count o.next)
    (sym (first_output (write.Shifted (pending_of [])) c run (digits b) q shift))

-- the bits of a unit, and two zero bits
padded_unit : (c : ℕ) → (bits 16 c ++ []) ++ (replicate 2 false ++ []) ≡ bits 18 (c * 4)
padded_unit c =
    let high : c * 4 / 2 ^ 2 ≡ c = omega arith in
    let low : bits 2 (c * 4) ≡ replicate 2 false = bits-mod 2 (c * 4) 0 (omega arith) ∙ zero_bits 2 in
    ap (λ (l : List Bool). l ++ (replicate 2 false ++ [])) (append-nil (bits 16 c))
    ∙ sym (bits-split 16 2 (c * 4) ∙ ap (λ (k : ℕ). bits 16 k ++ bits 2 (c * 4)) high
    ∙ ap (λ (l : List Bool). bits 16 c ++ l) low)

-- the digits of one unit, the last of them closing
lone_digits : (c : ℕ) → c < 0x10000 → digits (flat_map (bits 16) (c ∷ []))
    ++ last_digit (over (flat_map (bits 16) (c ∷ [])))
    ≡ digit_of (c / 1024) ∷ digit_of (c / 16 % 64) ∷ digit_of (c % 16 * 4) ∷ []
lone_digits c h =
    let first : c * 4 / 4096 % 64 ≡ c / 1024 = omega arith in
    let second : c * 4 / 64 % 64 ≡ c / 16 % 64 = omega arith in
    let third : c * 4 / 1 % 64 ≡ c % 16 * 4 = omega arith in
    closed_digits (bits 16 c ++ []) 3 2 [] (omega (arith, length_units (c ∷ []))) (omega arith)
    ∙ ap (λ (l : List Bool). take 3 (digits l)) (padded_unit c) ∙ ap (take 3) (digits_3 (c * 4))
    ∙ rw (first, second, third) refl

-- the output of one unit and of the direct character after it, outside a sequence
pub lone_output : (c d : ℕ) → 128 ≤ c → c < 0x10000 → is_direct d ≡ true
    → output_for utf7_writes write.Start (c ∷ d ∷ [])
    ≡ output (plus ∷ digit_of (c / 1024) ∷ digit_of (c / 16 % 64) ∷ digit_of (c % 16 * 4) ∷ minus ∷ d ∷ []) 0
    write.Start
lone_output c d l h direct =
    begun_output c (d ∷ []) (not_direct c l) (λ e. omega (arith, l))
    ∙ ap (λ (o : Output). output (plus ∷ o.bytes) o.count o.next) (shut_output (c ∷ []) d (l, h, tt) direct)
    ∙ ap (λ (w : List ℕ). output (plus ∷ (w ++ minus ∷ d ∷ [])) 0 write.Start) (lone_digits c h)
