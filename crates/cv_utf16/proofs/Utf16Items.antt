-- What is next in UTF-16 in one byte order.
use Rattle.std.proofs.Common.{◌≡◌, ℕ, ◌+◌, ◌*◌, ◌/◌, ◌<◌, ◌≤◌, ◌⊎◌, inl, inr, List, [], ◌∷◌, ◌++◌, length, drop}
use Rattle.std.proofs.Common.{get_or, get_or-drop, length-drop, zero, suc, refl, sym, ◌∙◌, ap, subst, arith, Some}
use Rattle.std.proofs.lemmas.Bool.{cases_eq}
use Rattle.cv_base.specs.Scalars.{IsScalar}
use Rattle.cv_base.specs.Items.{taken, Begins, Stands, IsNext}
use Rattle.cv_base.specs.Units.{high_unit, low_unit, unit_of}
use Rattle.cv_base.specs.declared.ascii_form.AsciiForm.TheVariants.{Two}
use Rattle.cv_base.specs.declared.endian.Endian.{Endian}
use Rattle.cv_base.specs.declared.endian.Endian.TheVariants.{Big, Little}
use Rattle.cv_base.specs.declared.state.ReadState.{ReadState}
use Rattle.cv_base.specs.declared.item.Item.TheVariants.{Incomplete, Ill}
use Rattle.cv_base.proofs.Front.{Agree, Begins-refl, Begins-append, Begins-trans, Begins-length}
use Rattle.cv_block.specs.Surrogates.{IsHighUnit, IsLowUnit, IsPair}
use Rattle.cv_block.specs.Units.{IsUnitAt}
use Rattle.cv_block.proofs.UnitBytes.{one_number, length-unit_of}
use Rattle.cv_utf16.specs.Private.AnyState.{always_gives}
use Rattle.cv_utf16.specs.Private.Parts.{CanBeLow, CanBeOther}
use Rattle.cv_utf16.specs.Utf16.{utf16}
use Rattle.cv_utf16.proofs.OneOrder.{char_from, ill_from, incomplete_from, front_agrees, back_agrees, whole_and_part}
use Rattle.cv_utf16.proofs.Utf16Units.{one_unit, pair_bytes, pair_size, size_one, size_two, scalar_one, pair_scalar}
use Rattle.cv_utf16.proofs.Utf16Units.{paired, paired_is, IsOne, IsTwo, one_or_two, unit_within, pair_stands}

-- a low surrogate begins with a byte that one can begin with
low_byte : (e : Endian) (u : ℕ) → IsLowUnit u → CanBeLow e (get_or (unit_of (Two e) u) 0 0)
low_byte Big u low = (omega (arith, low), omega (arith, low))
low_byte Little u low = tt

-- another unit begins with a byte that one can begin with
other_byte : (e : Endian) (u : ℕ) → (IsLowUnit u → ⊥) → CanBeOther e (get_or (unit_of (Two e) u) 0 0)
other_byte Big u other = λ b. omega (arith, other, b.0, b.1)
other_byte Little u other = tt

-- A unit that begins with a byte.
record From (e : Endian) (b u : ℕ) : Type 0 where
  few : u < 0x10000
  begins : Begins (b ∷ []) (unit_of (Two e) u)

low_from : (e : Endian) (b : ℕ) → b < 256 → CanBeLow e b → (u : ℕ) × IsLowUnit u × From e b u
low_from Big b h low = (b * 256, omega (arith, low.0, low.1), record { few = omega arith; begins = (omega arith, tt) })
low_from Little b h low = (0xdc00 + b, omega arith, record { few = omega arith; begins = (omega arith, tt) })

other_from : (e : Endian) (b : ℕ) → b < 256 → CanBeOther e b → (u : ℕ) × (IsLowUnit u → ⊥) × From e b u
other_from Big b h other = (
  b * 256,
  λ low. other (omega (arith, low), omega (arith, low)),
  record { few = omega arith; begins = (omega arith, tt) },
)
other_from Little b h other = (b, λ low. omega (arith, low), record { few = omega arith; begins = (omega arith, tt) })

-- the first byte of a unit stays the first when bytes follow
first_of_two : (e : Endian) (u : ℕ) (rest : List ℕ)
    → get_or (unit_of (Two e) u) 0 0 ≡ get_or (unit_of (Two e) u ++ rest) 0 0
first_of_two Big u rest = refl
first_of_two Little u rest = refl

nothing_of : (w : List ℕ) (n : ℕ) → Begins (drop n []) w
nothing_of w zero = tt
nothing_of w (suc n) = tt

nothing_behind : (w : List ℕ) (n : ℕ) (x : List ℕ) → length x ≤ n → Begins (drop n x) w
nothing_behind w n [] h = nothing_of w n
nothing_behind w zero (t ∷ x) h = absurd (omega arith)
nothing_behind w (suc n) (t ∷ x) h = nothing_behind w n x (omega arith)

only_byte : (x : List ℕ) → 0 < length x → length x < 2 → (w : List ℕ) → Begins (get_or x 0 0 ∷ []) w → Begins x w
only_byte [] some few w h = tt
only_byte (t ∷ []) some few w h = h
only_byte (t ∷ u ∷ x) some few w h = absurd (omega arith)

last_byte : (x : List ℕ) → length x ≡ 3 → (w : List ℕ) → Begins (get_or x 2 0 ∷ []) w → Begins (drop 2 x) w
last_byte [] long w h = absurd (omega arith)
last_byte (t ∷ []) long w h = absurd (omega arith)
last_byte (t ∷ u ∷ []) long w h = absurd (omega arith)
last_byte (t ∷ u ∷ v ∷ []) long w h = h
last_byte (t ∷ u ∷ v ∷ z ∷ x) long w h = absurd (omega arith)

-- the first unit of a scalar that agrees with a text
first_unit : (e : Endian) (x : List ℕ) (first c : ℕ) → IsScalar c → Agree (utf16 e c) x → IsUnitAt (Two e) x 0 first
    → (IsOne e c × (c ≡ first)) ⊎ (IsTwo e c × (high_unit c ≡ first))
first_unit e x first c s a p =
    let l = unit_within e x 0 first p in
    let some : 2 ≤ length x = omega (arith, l) in
    elim (one_or_two e c s) [
      | inl o ↦ (
          let here : Begins (unit_of (Two e) c) x = front_agrees (unit_of (Two e) c) (utf16 e c) x
          (subst (λ (w : List ℕ). Begins (unit_of (Two e) c) w) (sym o.bytes) (Begins-refl (unit_of (Two e) c))) a
          (omega (arith, length-unit_of (Two e) c, some)) in
          inl (o, one_number (Two e) x c first here p.stands))
      | inr o ↦ (
          let here : Begins (unit_of (Two e) (high_unit c)) x = front_agrees (unit_of (Two e) (high_unit c))
          (utf16 e c) x (subst (λ (w : List ℕ). Begins (unit_of (Two e) (high_unit c)) w)
          (sym o.bytes) (Begins-append (unit_of (Two e) (high_unit c)) (unit_of (Two e) (low_unit c)))) a
          (omega (arith, length-unit_of (Two e) (high_unit c), some)) in
          inr (o, one_number (Two e) x (high_unit c) first here p.stands))
    ]

-- the low surrogate of a scalar that agrees with a text does so with what is after the first two bytes
low_agrees : (e : Endian) (x : List ℕ) (c : ℕ) → IsTwo e c → Agree (utf16 e c) x
    → Agree (unit_of (Two e) (low_unit c)) (drop 2 x)
low_agrees e x c t a = subst (λ (n : ℕ). Agree (unit_of (Two e) (low_unit c)) (drop n x))
    (length-unit_of (Two e) (high_unit c)) (back_agrees (unit_of (Two e) (high_unit c)) (unit_of (Two e) (low_unit c)) x
    (subst (λ (w : List ℕ). Agree w x) t.bytes a))

-- a scalar that agrees with a text which begins with a high surrogate has two units
two_from : (e : Endian) (x : List ℕ) (first c : ℕ) → IsScalar c → Agree (utf16 e c) x → IsUnitAt (Two e) x 0 first
    → IsHighUnit first → IsTwo e c
two_from e x first c s a p high = elim (first_unit e x first c s a p) [
  | inl q ↦ absurd (q.0.no_high (ap (λ (u : ℕ). u / 0x400) q.1 ∙ high))
  | inr q ↦ q.0
]

-- a low surrogate at the start is ill-formed
pub ill_first : (e : Endian) (next s : ReadState) (x : List ℕ) (first : ℕ) → IsUnitAt (Two e) x 0 first
    → IsLowUnit first → IsNext (always_gives (utf16 e) next) s x Ill
ill_first e next s x first p low = ill_from (utf16 e) next s x (omega (arith, unit_within e x 0 first p))
    (λ c scalar a. elim (first_unit e x first c scalar a p) [
      | inl q ↦ q.0.no_low (ap (λ (u : ℕ). u / 0x400) q.1 ∙ low)
      | inr q ↦ omega (arith, q.0.high, q.1, low)
    ])

-- a high surrogate with no low one after it is ill-formed
pub ill_second : (e : Endian) (next s : ReadState) (x : List ℕ) (first second : ℕ) → IsUnitAt (Two e) x 0 first
    → IsHighUnit first → IsUnitAt (Two e) x 2 second → (IsLowUnit second → ⊥)
    → IsNext (always_gives (utf16 e) next) s x Ill
ill_second e next s x first second p high q never =
    ill_from (utf16 e) next s x (omega (arith, unit_within e x 0 first p)) (λ c scalar a. (
    let t = two_from e x first c scalar a p high in
    let long = Begins-length (unit_of (Two e) second) (drop 2 x) q.stands in
    let here = front_agrees (unit_of (Two e) (low_unit c))
    (unit_of (Two e) (low_unit c)) (drop 2 x) (Begins-refl (unit_of (Two e) (low_unit c))) (low_agrees e x c t a)
    (omega (arith, long, length-unit_of (Two e) (low_unit c), length-unit_of (Two e) second)) in
    let same : low_unit c ≡ second = one_number (Two e) (drop 2 x) (low_unit c) second here q.stands in
    never (ap (λ (u : ℕ). u / 0x400) (sym same) ∙ t.low)))

-- a high surrogate, and a byte that begins no low one, are ill-formed
pub ill_part : (e : Endian) (next s : ReadState) (x : List ℕ) (first : ℕ) → IsUnitAt (Two e) x 0 first
    → IsHighUnit first → length x ≡ 3 → (CanBeLow e (get_or x 2 0) → ⊥) → IsNext (always_gives (utf16 e) next) s x Ill
ill_part e next s x first p high long never = ill_from (utf16 e) next s x (omega arith) (λ c scalar a. (
    let t = two_from e x first c scalar a p high in
    let here =
    low_agrees e x c t a 0 (omega (arith, length-unit_of (Two e) (low_unit c))) (omega (arith, length-drop 2 x)) in
    let same : get_or (unit_of (Two e) (low_unit c)) 0 0 ≡ get_or x 2 0 = rw get_or-drop at here in
    never (subst (CanBeLow e) same (low_byte e (low_unit c) t.low))))

-- a byte that begins only low surrogates is ill-formed
pub ill_byte : (e : Endian) (next s : ReadState) (x : List ℕ) → 0 < length x → length x < 2
    → (CanBeOther e (get_or x 0 0) → ⊥) → IsNext (always_gives (utf16 e) next) s x Ill
ill_byte e next s x some few never = ill_from (utf16 e) next s x some (λ c scalar a. elim (one_or_two e c scalar) [
  | inl o ↦ (
      let same : get_or (unit_of (Two e) c) 0 0 ≡ get_or x 0 0 = ap (λ (w : List ℕ). get_or w 0 0) (sym o.bytes)
      ∙ a 0 (omega (arith, size_one c o.few e)) some in
      never (subst (CanBeOther e) same (other_byte e c o.no_low)))
  | inr o ↦ (
      let front : get_or (unit_of (Two e) (high_unit c)) 0 0 ≡ get_or (unit_of (Two e) (high_unit c)
      ++ unit_of (Two e) (low_unit c)) 0 0 = first_of_two e (high_unit c) (unit_of (Two e) (low_unit c)) in
      let same : get_or (unit_of (Two e) (high_unit c)) 0 0 ≡ get_or x 0 0 = front
      ∙ ap (λ (w : List ℕ). get_or w 0 0) (sym o.bytes) ∙ a 0 (omega (arith, size_two c o.above e)) some in
      never (subst (CanBeOther e) same (other_byte e (high_unit c) (λ low. omega (arith, low, o.high)))))
])

-- a unit that is no surrogate is read as its character
pub char_one : (e : Endian) (next s : ReadState) (x : List ℕ) (first : ℕ)
    → IsUnitAt (Two e) x 0 first → (IsLowUnit first → ⊥) → (IsHighUnit first → ⊥)
    → Stands (always_gives (utf16 e) next) s x (taken 2 (Some first) next)
char_one e next s x first p low high = char_from (utf16 e) next s x 2 first (scalar_one first p.few high low)
    (subst (λ (w : List ℕ). Begins w x) (sym (one_unit e first p.few)) p.stands) (size_one first p.few e)

-- a high and a low surrogate are read as their character
pub char_two : (e : Endian) (next s : ReadState) (x : List ℕ) (first second c : ℕ)
    → IsUnitAt (Two e) x 0 first → IsHighUnit first → IsUnitAt (Two e) x 2 second → IsPair first second c
    → Stands (always_gives (utf16 e) next) s x (taken 4 (Some c) next)
char_two e next s x first second c p high q pair = char_from (utf16 e) next s x 4 c
    (pair_scalar first second c high pair) (pair_stands e x 0 first second c p q pair) (pair_size e first second c pair)

longer : (e : Endian) (x : List ℕ) (first c : ℕ) → IsUnitAt (Two e) x 0 first → IsHighUnit first → length x < 4
    → IsScalar c → Agree (utf16 e c) x → length x < length (utf16 e c)
longer e x first c p high few scalar a = let t = two_from e x first c scalar a p high in
    omega (arith, size_two c t.above e)

-- a high surrogate alone is incomplete
pub incomplete_high : (e : Endian) (next s : ReadState) (x : List ℕ) (first : ℕ) → IsUnitAt (Two e) x 0 first
    → IsHighUnit first → length x ≡ 2 → IsNext (always_gives (utf16 e) next) s x Incomplete
incomplete_high e next s x first p high long =
    let pair : IsPair first 0xdc00 (paired first 0xdc00) = paired_is first 0xdc00 high (omega arith) in
    let front : Begins x (unit_of (Two e) first ++ unit_of (Two e) 0xdc00) =
    whole_and_part (unit_of (Two e) first) (unit_of (Two e) 0xdc00) x p.stands (nothing_behind (unit_of (Two e) 0xdc00)
    (length (unit_of (Two e) first)) x (omega (arith, length-unit_of (Two e) first))) in
    incomplete_from (utf16 e) next s x (omega arith) (λ c scalar a. longer e x first c p high (omega arith) scalar a)
    (paired first 0xdc00) (pair_scalar first 0xdc00 _ high pair)
    (subst (λ (w : List ℕ). Begins x w) (sym (pair_bytes e first 0xdc00 _ pair)) front)

-- a high surrogate and the first byte of a low one are incomplete
pub incomplete_part : (e : Endian) (next s : ReadState) (x : List ℕ) (first : ℕ)
    → IsUnitAt (Two e) x 0 first → IsHighUnit first → length x ≡ 3 → get_or x 2 0 < 256 → CanBeLow e (get_or x 2 0)
    → IsNext (always_gives (utf16 e) next) s x Incomplete
incomplete_part e next s x first p high long byte can =
    let low = low_from e (get_or x 2 0) byte can in
    let pair : IsPair first low.0 (paired first low.0) = paired_is first low.0 high low.1 in
    let rest : Begins (drop (length (unit_of (Two e) first)) x) (unit_of (Two e) low.0) =
    subst (λ (n : ℕ). Begins (drop n x) (unit_of (Two e) low.0)) (sym (length-unit_of (Two e) first))
    (last_byte x long (unit_of (Two e) low.0) low.2.begins) in
    let front : Begins x (unit_of (Two e) first ++ unit_of (Two e) low.0) =
    whole_and_part (unit_of (Two e) first) (unit_of (Two e) low.0) x p.stands rest in
    incomplete_from (utf16 e) next s x (omega arith) (λ c scalar a. longer e x first c p high (omega arith) scalar a)
    (paired first low.0) (pair_scalar first low.0 _ high pair)
    (subst (λ (w : List ℕ). Begins x w) (sym (pair_bytes e first low.0 _ pair)) front)

-- the first byte of a unit that may be no low surrogate is incomplete
pub incomplete_byte : (e : Endian) (next s : ReadState) (x : List ℕ) → 0 < length x → length x < 2 → get_or x 0 0 < 256
    → CanBeOther e (get_or x 0 0) → IsNext (always_gives (utf16 e) next) s x Incomplete
incomplete_byte e next s x some few byte can =
    let other = other_from e (get_or x 0 0) byte can in
    let here : Begins x (unit_of (Two e) other.0) = only_byte x some few (unit_of (Two e) other.0) other.2.begins in
    let all : (c : ℕ)
    → IsScalar c → Agree (utf16 e c) x → length x < length (utf16 e c) = (λ c scalar a. elim (one_or_two e c
    scalar) [ inl o ↦ omega (arith, size_one c o.few e) | inr o ↦ omega (arith, size_two c o.above e) ]) in
    elim (cases_eq (other.0 / 0x400) 0x36) [
      | inl high ↦ (
          let pair : IsPair other.0 0xdc00 (paired other.0 0xdc00) = paired_is other.0 0xdc00 high (omega arith) in
          incomplete_from (utf16 e) next s x some all (paired other.0 0xdc00) (pair_scalar other.0 0xdc00 _ high pair)
          (subst (λ (w : List ℕ). Begins x w) (sym (pair_bytes e other.0 0xdc00 _ pair))
          (Begins-trans x (unit_of (Two e) other.0) (unit_of (Two e) other.0 ++ unit_of (Two e) 0xdc00) here
          (Begins-append (unit_of (Two e) other.0) (unit_of (Two e) 0xdc00)))))
      | inr high ↦ incomplete_from (utf16 e) next s x some all other.0 (scalar_one other.0 other.2.few high other.1)
          (subst (λ (w : List ℕ). Begins x w) (sym (one_unit e other.0 other.2.few)) here)
    ]

-- each return of reading an item of UTF-16
pub ruleset steps = (
  scalar_one,
  pair_scalar,
  ill_first,
  ill_second,
  ill_part,
  ill_byte,
  char_one,
  char_two,
  incomplete_high,
  incomplete_part,
  incomplete_byte,
)
