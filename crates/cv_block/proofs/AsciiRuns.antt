-- Runs, unit by unit.
use Rattle.std.proofs.Common.{◌≡◌, ℕ, ◌+◌, ◌-◌, ◌*◌, ◌<◌, ◌≤◌, List, [], ◌∷◌, ◌++◌, length, take, drop, get_or}
use Rattle.std.proofs.Common.{get_or-drop, refl, sym, ◌∙◌, ap, subst, arith, zero, suc, length-append, length-take}
use Rattle.std.proofs.Common.{append_assoc, append-nil, add-zero, add-suc, take-append-drop, bit_or, inl, inr}
use Rattle.std.proofs.Math.Nat.{mul-suc, mul-zero, mul-add, mul-le-mul_left}
use Rattle.std.proofs.Math.Seq.{drop-cons, take-suc}
use Rattle.std.proofs.lemmas.Bool.{cases_lt}
use Rattle.std.proofs.lemmas.List.{drop-drop, take_all}
use Rattle.std.proofs.lemmas.Grind.{flat_map-append}
use Rattle.std.proofs.lemmas.Nat.{le_or_l, le_or_r}
use Rattle.cv_base.specs.Ascii.{AreBelow}
use Rattle.cv_base.specs.Items.{Begins}
use Rattle.cv_base.proofs.Front.{Begins-join}
use Rattle.cv_base.specs.Units.{unit_of, unit_size}
use Rattle.cv_base.specs.declared.ascii_form.AsciiForm.{AsciiForm}
use Rattle.cv_base.specs.declared.ascii_form.AsciiForm.TheVariants.{Byte}
use Rattle.cv_block.specs.AsciiRuns.{bytes_of_units, offset, IsBelowAt, IsRunBelow, characters_in}
use Rattle.cv_block.specs.Units.{IsUnitAt}
use Rattle.cv_block.proofs.UnitBytes.{length-unit_of, low_byte, byte_fits, below_at}
use Rattle.cv_base.proofs.WrittenEach.{out_more}

-- the units of one character more
pub units_of-more : (form : AsciiForm) (characters : List ℕ) (c : ℕ)
    → bytes_of_units form (characters ++ c ∷ []) ≡ bytes_of_units form characters ++ unit_of form c
units_of-more form characters c = flat_map-append (unit_of form) characters (c ∷ [])
    ∙ ap (λ (x : List ℕ). bytes_of_units form characters ++ x) (append-nil (unit_of form c))

-- how many bytes a run of units has
pub length-run : (form target : AsciiForm) (text : List ℕ) (n : ℕ)
    → length (bytes_of_units target (characters_in form text n)) ≡ unit_size target * n
unfolding characters_in
length-run form target text zero = sym (mul-zero (unit_size target))
length-run form target text (suc n) =
    let c = get_or text (unit_size form * n + offset form) 0 in
    let more = ap length (units_of-more target (characters_in form text n) c) in
    omega (
      arith,
      more,
      length-append (bytes_of_units target (characters_in form text n)) (unit_of target c),
      length-unit_of target c,
      length-run form target text n,
      mul-suc (unit_size target) n,
    )

-- the unit of a character below 256 is that of its lowest byte
unit_at : (limit : ℕ) → limit ≤ 0x100 → (form : AsciiForm) (text : List ℕ) (at : ℕ)
    → IsBelowAt limit form text at → Begins (unit_of form (get_or text (at + offset form) 0)) (drop at text)
unit_at limit few form text at p =
    let low =
    low_byte form text at p.c (record { few = byte_fits form p.c (omega (arith, p.small)); stands = p.stands }) in
    let same : p.c ≡ get_or text (at + offset form) 0 = omega (arith, low, p.small) in
    subst (λ (c : ℕ). Begins (unit_of form c) (drop at text)) same p.stands

small_at : (limit : ℕ) → limit ≤ 0x100 → (form : AsciiForm) (text : List ℕ) (at : ℕ)
    → IsBelowAt limit form text at → get_or text (at + offset form) 0 < limit
small_at limit few form text at p =
    let low =
    low_byte form text at p.c (record { few = byte_fits form p.c (omega (arith, p.small)); stands = p.stands }) in
    omega (arith, low, p.small)

AreBelow-more : (limit : ℕ) (characters : List ℕ) (c : ℕ) → AreBelow limit characters → c < limit
    → AreBelow limit (characters ++ c ∷ [])
AreBelow-more limit [] c p h = (h, tt)
AreBelow-more limit (x ∷ characters) c p h = (p.0, AreBelow-more limit characters c p.1 h)

-- the characters of a run are below its limit
pub run_is_below : (limit : ℕ) → limit ≤ 0x100 → (form : AsciiForm) (text : List ℕ) (n : ℕ)
    → IsRunBelow limit form text n → AreBelow limit (characters_in form text n)
unfolding characters_in
run_is_below limit few form text zero p = tt
run_is_below limit few form text (suc n) p = AreBelow-more limit (characters_in form text n) _ (run_is_below limit few
    form text n (λ k h. p k (omega arith))) (small_at limit few form text (unit_size form * n) (p n (omega arith)))

-- the units of a run begin the text
pub run_begins : (limit : ℕ) → limit ≤ 0x100 → (form : AsciiForm) (text : List ℕ) (n : ℕ) → unit_size form * n
    ≤ length text → IsRunBelow limit form text n → Begins (bytes_of_units form (characters_in form text n)) text
unfolding characters_in
run_begins limit few form text zero h p = tt
run_begins limit few form text (suc n) h p =
    let m = mul-suc (unit_size form) n in
    let before = run_begins limit few form text n (omega arith) (λ k l. p k (omega arith)) in
    let last = unit_at limit few form text (unit_size form * n) (p n (omega arith)) in
    rw units_of-more (Begins-join (bytes_of_units form (characters_in form text n)) _ text before (rw length-run last))

-- units of small characters from an index on, and one more
pub below_more : (limit : ℕ) (form : AsciiForm) (text : List ℕ) (at n place : ℕ) → place ≡ at + unit_size form * n
    → ((k : ℕ) → k < n → IsBelowAt limit form text (at + unit_size form * k)) → IsBelowAt limit form text place
    → (k : ℕ) → k < n + 1 → IsBelowAt limit form text (at + unit_size form * k)
below_more limit form text at n place e p q k h = elim (cases_lt k n) [
  | inl l ↦ p k l
  | inr l ↦ (let same : k ≡ n = omega arith in
      subst (λ (j : ℕ). IsBelowAt limit form text j) (e ∙ ap (λ (j : ℕ). at + unit_size form * j) (sym same)) q)
]

-- below a limit is below a larger one
pub below_weaker : (limit larger : ℕ) (form : AsciiForm) (text : List ℕ) (at : ℕ) → limit ≤ larger
    → IsBelowAt limit form text at → IsBelowAt larger form text at
below_weaker limit larger form text at h p = record { c = p.c; small = omega (arith, p.small); stands = p.stands }

-- no unit from an index on, nor the one after them, is greater than the bitwise OR of them all
pub any_bits_more : (form : AsciiForm) (text : List ℕ) (at n place bits u : ℕ) → place ≡ at + unit_size form * n
    → ((k : ℕ) → k < n → IsBelowAt (bits + 1) form text (at + unit_size form * k)) → IsUnitAt form text place u
    → (k : ℕ) → k < n + 1 → IsBelowAt (bit_or bits u + 1) form text (at + unit_size form * k)
any_bits_more form text at n place bits u e p q = below_more (bit_or bits u + 1) form text at n place e (λ k h.
    below_weaker (bits + 1) (bit_or bits u + 1) form text (at + unit_size form * k) (omega (arith, le_or_l bits u))
    (p k h)) (below_at (bit_or bits u + 1) form text place u q (omega (arith, le_or_r bits u)))

-- a run, and one unit of a small character after it
pub run_more : (limit : ℕ) (form : AsciiForm) (text : List ℕ) (n place : ℕ) → place ≡ unit_size form * n
    → IsRunBelow limit form text n → IsBelowAt limit form text place → IsRunBelow limit form text (n + 1)
run_more limit form text n place e p q k h = elim (cases_lt k n) [
  | inl l ↦ p k l
  | inr l ↦ (let same : k ≡ n = omega arith in
      subst (λ (j : ℕ). IsBelowAt limit form text j) (e ∙ ap (λ (j : ℕ). unit_size form * j) (sym same)) q)
]

-- a run, and units of small characters after it
pub runs_join : (limit : ℕ) (form : AsciiForm) (text : List ℕ) (at n m : ℕ) → at ≡ unit_size form * n
    → IsRunBelow limit form text n → ((k : ℕ) → k < m → IsBelowAt limit form text (at + unit_size form * k))
    → IsRunBelow limit form text (n + m)
runs_join limit form text at n m e p q k h = elim (cases_lt k n) [
  | inl l ↦ p k l
  | inr l ↦ (
      let place : at + unit_size form * (k - n) ≡ unit_size form * k = ap (λ (j : ℕ). j + unit_size form * (k - n)) e
      ∙ sym (mul-add (unit_size form) n (k - n)) ∙ ap (λ (j : ℕ). unit_size form * j) (omega arith) in
      subst (λ (j : ℕ). IsBelowAt limit form text j) place (q (k - n) (omega arith)))
]

-- how many bytes one unit more has
pub unit_more : (form : AsciiForm) (n : ℕ) → unit_size form * (n + 1) ≡ unit_size form * n + unit_size form
unit_more form n = ap (λ (k : ℕ). unit_size form * k) (omega arith) ∙ mul-suc (unit_size form) n ∙ omega arith

-- how many bytes one block more has
pub block_more : (form : AsciiForm) (n : ℕ)
    → unit_size form * (16 * (n + 1)) ≡ unit_size form * (16 * n) + unit_size form * 16
block_more form n = ap (λ (k : ℕ). unit_size form * k) (omega arith) ∙ mul-add (unit_size form) (16 * n) 16

-- one unit more fits if all do
pub unit_fits : (form : AsciiForm) (k n : ℕ) → k < n → unit_size form * k + unit_size form ≤ unit_size form * n
unit_fits form k n h =
    let m : unit_size form * (k + 1) ≤ unit_size form * n = mul-le-mul_left (unit_size form) (omega arith) in
    omega (arith, m, unit_more form k)

-- what is in the buffer, once n units of a run were written at an index
abbrev pub put_run : AsciiForm → AsciiForm → List ℕ → List ℕ → ℕ → ℕ → List ℕ
put_run form target text before at n =
    take at before ++ bytes_of_units target (characters_in form text n) ++ drop (at + unit_size target * n) before

-- no unit is written
pub put_none : (form target : AsciiForm) (text before : List ℕ) (at : ℕ) → before ≡ put_run form target text before at 0
unfolding characters_in
put_none form target text before at = rw (mul-zero, add-zero, append-nil) (sym (take-append-drop at before))

-- one unit more is written
pub put_more : (form target : AsciiForm) (text before : List ℕ) (at n end c : ℕ) (now after : List ℕ) → at + unit_size
    target * n ≤ length before → end ≡ at + unit_size target * n → c ≡ get_or text (unit_size form * n + offset form) 0
    → now ≡ put_run form target text before at n → after ≡ take end now ++ unit_of target c
    ++ drop (end + unit_size target) now → after ≡ put_run form target text before at (suc n)
unfolding characters_in
put_more form target text before at n end c now after fits e is p q =
    let characters = characters_in form text n in
    let front : List ℕ = take at before ++ bytes_of_units target characters in
    let behind : ℕ = at + unit_size target * n in
    let long : behind ≡ length front = omega (
      arith,
      length-append (take at before) (bytes_of_units target characters),
      length-take at before,
      length-run form target text n,
    ) in
    let wrote : after ≡ (front ++ unit_of target c) ++ drop (behind + unit_size target) before = q
    ∙ rw (p, e) (rw length-unit_of at (out_more front (unit_of target c) before behind long)) in
    let places : behind + unit_size target ≡ at + unit_size target * suc n =
    omega (arith, mul-suc (unit_size target) n) in
    let units : front ++ unit_of target c ≡ take at before ++ bytes_of_units target (characters ++ c ∷ []) =
    append_assoc (take at before) (bytes_of_units target characters) (unit_of target c)
    ∙ ap (λ (x : List ℕ). take at before ++ x) (sym (units_of-more target characters c)) in
    wrote ∙ rw (units, places, is) refl

-- the lowest bytes of units, and of those after them
pub characters_join : (form : AsciiForm) (text : List ℕ) (n m : ℕ) → characters_in form text (n + m)
    ≡ characters_in form text n ++ characters_in form (drop (unit_size form * n) text) m
unfolding characters_in
characters_join form text n zero = rw (add-zero, append-nil) refl
characters_join form text n (suc m) =
    let behind : List ℕ = drop (unit_size form * n) text in
    let there : unit_size form * n + (unit_size form * m + offset form) ≡ unit_size form * (n + m) + offset form =
    omega (arith, mul-add (unit_size form) n m) in
    let byte : get_or behind (unit_size form * m + offset form) 0 ≡ get_or text (unit_size form * (n + m) + offset form)
    0 = get_or-drop (unit_size form * n) text (unit_size form * m + offset form) 0
    ∙ ap (λ (k : ℕ). get_or text k 0) there in
    rw (add-suc, byte, characters_join form text n m)
    (append_assoc (characters_in form text n) (characters_in form behind m) _)

-- more units are written
pub put_join : (form target : AsciiForm) (text before : List ℕ) (at n m place end : ℕ) (now after : List ℕ)
    → at + unit_size target * (n + m) ≤ length before → place ≡ unit_size form * n → end ≡ at + unit_size target * n
    → now ≡ put_run form target text before at n → after ≡ put_run form target (drop place text) now end m
    → after ≡ put_run form target text before at (n + m)
put_join form target text before at n m place end now after fits e is p q =
    let characters = characters_in form text n in
    let more : List ℕ = bytes_of_units target (characters_in form (drop place text) m) in
    let front : List ℕ = take at before ++ bytes_of_units target characters in
    let size = mul-add (unit_size target) n m in
    let long : end ≡ length front = omega (
      arith,
      is,
      size,
      length-append (take at before) (bytes_of_units target characters),
      length-take at before,
      length-run form target text n,
    ) in
    let now_is : now ≡ front ++ drop end before = p ∙ rw is refl in
    let wide : length more ≡ unit_size target * m = length-run form target (drop place text) m in
    let wrote : after ≡ (front ++ more) ++ drop (end + unit_size target * m) before = q
    ∙ rw now_is (rw wide at (out_more front more before end long)) in
    let there : end + unit_size target * m ≡ at + unit_size target * (n + m) = omega (arith, is, size) in
    let units : bytes_of_units target characters ++ more ≡ bytes_of_units target (characters_in form text (n + m)) =
    sym (flat_map-append (unit_of target) characters (characters_in form (drop place text) m))
    ∙ ap (bytes_of_units target) (rw e (sym (characters_join form text n m))) in
    wrote ∙ rw (append_assoc (take at before) (bytes_of_units target characters) more, units, there) refl

-- the lowest bytes of bytes are the bytes
pub bytes_are : (text : List ℕ) (n : ℕ) → n ≤ length text → characters_in Byte text n ≡ take n text
unfolding characters_in
bytes_are text zero h = refl
bytes_are text (suc n) h =
    let place : 1 * n + 0 ≡ n = omega arith in
    ap (λ (x : List ℕ). x ++ get_or text (1 * n + 0) 0 ∷ []) (bytes_are text n (omega arith))
    ∙ rw place (sym (take-suc text n 0 h))

-- sixteen bytes, as units of one byte, are their lowest bytes
pub sixteen_are : (text : List ℕ) → length text ≡ 16 → characters_in Byte text 16 ≡ text
sixteen_are text h = bytes_are text 16 (omega (arith, h)) ∙ take_all 16 text (omega (arith, h))

-- the units of a run after an index are below the limit in the whole text
pub run_behind : (limit : ℕ) (form : AsciiForm) (text : List ℕ) (place m : ℕ) → IsRunBelow limit form
    (drop place text) m → (k : ℕ) → k < m → IsBelowAt limit form text (place + unit_size form * k)
run_behind limit form text place m p k h =
    let q = p k h in
    record {
      c = q.c;
      small = q.small;
      stands = subst (λ (x : List ℕ). Begins (unit_of form q.c) x) (drop-drop (unit_size form * k) place text) q.stands;
    }

-- how many lowest bytes there are
pub length-characters : (form : AsciiForm) (text : List ℕ) (n : ℕ) → length (characters_in form text n) ≡ n
unfolding characters_in
length-characters form text zero = refl
length-characters form text (suc n) = omega (
  arith,
  length-append (characters_in form text n) (get_or text (unit_size form * n + offset form) 0 ∷ []),
  length-characters form text n,
)

-- small bytes are a run
pub bytes_run : (limit : ℕ) (text : List ℕ) (n : ℕ) → n ≤ length text → ((k : ℕ) → k < n → get_or text k 0 < limit)
    → IsRunBelow limit Byte text n
bytes_run limit text n l p k h = let e : 1 * k ≡ k = omega arith in
    rw e (record { c = get_or text k 0; small = p k h; stands = rw (drop-cons text k 0 (omega arith)) (refl, tt) })

-- small bytes at an index are units of one byte each
pub bytes_at : (limit : ℕ) (form : AsciiForm) (text : List ℕ) (at n : ℕ) → form ≡ Byte
    → at + unit_size form * n ≤ length text → ((k : ℕ) → at ≤ k → k < at + n → get_or text k 0 < limit) → (k : ℕ)
    → k < n → IsBelowAt limit form text (at + unit_size form * k)
bytes_at limit form text at n is fits p k h =
    let place : at + unit_size form * k ≡ at + k = rw is (omega arith) in
    let within : at + k < length text = (let fits : at + 1 * n ≤ length text = rw is at fits in omega arith) in
    rw (place, is) (record {
      c = get_or text (at + k) 0;
      small = p (at + k) (omega arith) (omega arith);
      stands = rw (drop-cons text (at + k) 0 within) (refl, tt);
    })

-- the bytes of a run of bytes are those of the text
pub bytes_copied : (text : List ℕ) (n : ℕ) → n ≤ length text
    → bytes_of_units Byte (characters_in Byte text n) ≡ take n text
unfolding characters_in
bytes_copied text zero h = refl
bytes_copied text (suc n) h =
    let place : 1 * n + 0 ≡ n = omega arith in
    let c = get_or text (1 * n + 0) 0 in
    units_of-more Byte (characters_in Byte text n) c
    ∙ ap (λ (x : List ℕ). x ++ c ∷ []) (bytes_copied text n (omega arith)) ∙ rw place (sym (take-suc text n 0 h))

-- the bytes of a run of bytes that were copied are its units
pub bytes_put : (text before : List ℕ) (at n : ℕ) → n ≤ length text
    → take at before ++ take n text ++ drop (at + n) before ≡ put_run Byte Byte text before at n
bytes_put text before at n h =
    let e : 1 * n ≡ n = omega arith in
    rw (bytes_copied text n h, e) refl
