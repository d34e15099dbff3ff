-- What the standard library calls well-formed UTF-8 is the bytes of characters.
use Rattle.std.proofs.Common.{◌≡◌, ℕ, ◌+◌, ◌≤◌, true, List, [], ◌∷◌, length, take, drop, refl, sym, ◌∙◌, ap, subst}
use Rattle.std.proofs.Common.{arith, inl, inr, length-take, length-drop, ◌<◌}
use Rattle.std.specs.Prelude.{IsUtf8}
use Rattle.std.specs.List.{flat_map}
use Rattle.std.proofs.Math.Utf8.{encode, encodes, scalar, scalars, scalar_cases, low_scalar}
use Rattle.std.proofs.Math.Seq.{take-add}
use Rattle.std.proofs.lemmas.Bool.{and_parts, cases_lt}
use Rattle.std.proofs.lemmas.List.{take-take}
use Rattle.std.proofs.lemmas.Str.{IsUtf8-append, IsUtf8-nil, IsUtf8-encode}
use Rattle.cv_base.specs.Items.{Begins}
use Rattle.cv_base.specs.Scalars.{IsScalar, AreScalars}
use Rattle.cv_base.specs.Blocks.{IsUnchanged}
use Rattle.cv_base.specs.declared.state.ReadState.TheVariants as read
use Rattle.cv_base.specs.declared.state.WriteState.TheVariants as write
use Rattle.cv_base.proofs.Front.{Begins-take, Begins-same, Begins-length}
use Rattle.cv_block.specs.StatelessForms.{IsFormPrefix}
use Rattle.cv_block.proofs.FormPrefixes.{spelled_unchanged}
use Rattle.cv_utf8.specs.Utf16Lanes.{lane_characters, AreRead}
use Rattle.cv_utf8.specs.declared.read.utf16_lanes.Utf16Lanes.{Utf16Lanes}
use Rattle.cv_utf8.specs.Utf8.{utf8_reads, utf8_bytes, utf8_writes}
use Rattle.cv_utf8.proofs.Utf8Spelled.{utf8_reads_spelled, utf8_writes_spelled}

same_bytes : (c : ℕ) → encode c ≡ utf8_bytes c
unfolding encode
same_bytes c = refl

all_same : (characters : List ℕ) → encodes characters ≡ flat_map utf8_bytes characters
all_same [] = refl
all_same (c ∷ characters) = rw (same_bytes c, all_same characters) refl

is_scalar : (c : ℕ) → scalar c ≡ true → IsScalar c
is_scalar c p = elim (scalar_cases c p) [
  | inl l ↦ (omega arith, λ h. omega arith)
  | inr l ↦ (l.1, λ h. l.0)
]

are_scalars : (characters : List ℕ) → scalars characters ≡ true → AreScalars characters
are_scalars [] p = tt
are_scalars (c ∷ characters) p =
    let both = and_parts (scalar c) (scalars characters) p in
    (is_scalar c both.0, are_scalars characters both.1)

-- well-formed bytes at the start of a text are converted to themselves
pub utf8_unchanged : (text : List ℕ) (n : ℕ) → n ≤ length text → IsUtf8 (take n text)
    → IsUnchanged utf8_reads utf8_writes read.Start write.Start text n
utf8_unchanged text n h p =
    let same : flat_map utf8_bytes p.0 ≡ take n text = sym (all_same p.0) ∙ p.1.1 in
    let front : IsFormPrefix utf8_bytes text n = record {
      characters = p.0;
      scalars = are_scalars p.0 p.1.0;
      begins = subst (λ (x : List ℕ). Begins x text) (sym same) (Begins-take n text);
      uses = omega (arith, ap length same, length-take n text);
    } in
    spelled_unchanged utf8_reads utf8_writes read.Start write.Start utf8_bytes utf8_reads_spelled utf8_writes_spelled
    text n front

-- well-formed bytes after well-formed bytes
pub more_well_formed : (text : List ℕ) (n k : ℕ) → IsUtf8 (take n text) → IsUtf8 (take k (drop n text))
    → IsUtf8 (take (n + k) text)
more_well_formed text n k p q =
    subst IsUtf8 (sym (take-add n k text)) (IsUtf8-append (take n text) (take k (drop n text)) p q)

-- a part after well-formed bytes, which is well-formed itself
pub part_well_formed : (text part : List ℕ) (n : ℕ) → IsUtf8 (take n text) → part ≡ take (length part) (drop n text)
    → IsUtf8 part → IsUtf8 (take (n + length part) text)
part_well_formed text part n p e q = more_well_formed text n (length part) p (subst IsUtf8 e q)

-- a part after well-formed bytes, whose prefix is well-formed
pub front_well_formed : (text part : List ℕ) (n k : ℕ) → IsUtf8 (take n text) → part ≡ take (length part) (drop n text)
    → k ≤ length part → IsUtf8 (take k part) → IsUtf8 (take (n + k) text)
front_well_formed text part n k p e h q =
    more_well_formed text n k p (subst IsUtf8 (ap (take k) e ∙ take-take k (length part) (drop n text) h) q)

-- ---- characters that windows read

high_scalar : (c : ℕ) → 0xe000 ≤ c → c < 0x110000 → scalar c ≡ true
high_scalar c h l = grind arith

scalar_is : (c : ℕ) → IsScalar c → scalar c ≡ true
scalar_is c p = elim (cases_lt c 0xd800) [ inl h ↦ low_scalar c h | inr h ↦ high_scalar c (p.1 h) p.0 ]

spelled_well_formed : (characters : List ℕ) → AreScalars characters → IsUtf8 (flat_map utf8_bytes characters)
spelled_well_formed [] p = IsUtf8-nil
spelled_well_formed (c ∷ characters) p = IsUtf8-append (utf8_bytes c) (flat_map utf8_bytes characters)
    (subst IsUtf8 (same_bytes c) (IsUtf8-encode c (scalar_is c p.0))) (spelled_well_formed characters p.1)

-- the characters of a window are in the text
pub lanes_within : (text : List ℕ) (n : ℕ) (units : Utf16Lanes) → n ≤ length text → AreRead text n units
    → n + units.used ≤ length text
lanes_within text n units h is =
    omega (arith, is.uses, Begins-length _ (drop n text) is.begins, length-drop n text)

-- and well-formed after well-formed bytes
pub lanes_well_formed : (text : List ℕ) (n : ℕ) (units : Utf16Lanes) → IsUtf8 (take n text) → AreRead text n units
    → IsUtf8 (take (n + units.used) text)
lanes_well_formed text n units p is =
    let bytes : List ℕ = flat_map utf8_bytes (lane_characters units) in
    let front : bytes ≡ take units.used (drop n text) = Begins-same bytes (take units.used (drop n text)) (drop n text)
    is.begins (Begins-take units.used (drop n text))
    (omega (arith, is.uses, Begins-length bytes (drop n text) is.begins, length-take units.used (drop n text))) in
    more_well_formed text n units.used p (subst IsUtf8 front (spelled_well_formed (lane_characters units) is.scalars))
