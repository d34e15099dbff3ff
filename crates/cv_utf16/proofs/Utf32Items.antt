-- What is next in UTF-32 in one byte order.
use Rattle.std.proofs.Common.{◌≡◌, ℕ, ◌+◌, ◌*◌, ◌/◌, ◌%◌, ◌<◌, ◌≤◌, inl, inr, List, [], ◌∷◌, length, get_or, refl, sym}
use Rattle.std.proofs.Common.{◌∙◌, subst, arith, Some}
use Rattle.std.proofs.lemmas.Bool.{cases_lt}
use Rattle.cv_base.specs.Scalars.{IsScalar}
use Rattle.cv_base.specs.Items.{taken, Begins, Stands, IsNext}
use Rattle.cv_base.specs.declared.ascii_form.AsciiForm.TheVariants.{Four}
use Rattle.cv_base.specs.declared.endian.Endian.{Endian}
use Rattle.cv_base.specs.declared.endian.Endian.TheVariants.{Big, Little}
use Rattle.cv_base.specs.declared.state.ReadState.{ReadState}
use Rattle.cv_base.specs.declared.item.Item.TheVariants.{Incomplete, Ill}
use Rattle.cv_base.proofs.Front.{Begins-refl, Begins-length, Begins-agree}
use Rattle.cv_block.specs.Units.{IsUnitAt}
use Rattle.cv_block.proofs.UnitBytes.{one_number}
use Rattle.cv_utf16.specs.Private.AnyState.{always_gives}
use Rattle.cv_utf16.specs.Private.Parts.{IsThird, CanBeScalar}
use Rattle.cv_utf16.specs.Utf32.{utf32}
use Rattle.cv_utf16.proofs.OneOrder.{char_from, ill_from, incomplete_from, front_agrees}
use Rattle.cv_utf16.proofs.Utf32Form.{size_four}

-- the number of four bytes whose highest is 0
abbrev number : ℕ → ℕ → ℕ → ℕ
number i j k = i * 0x10000 + j * 0x100 + k

-- the number of four such bytes is a scalar
scalar_of : (i j k : ℕ) → i ≤ 0x10 → IsThird i j → j < 256 → k < 256 → IsScalar (number i j k)
scalar_of i j k p t q r = (
  omega arith,
  λ h. elim (cases_lt 0 i) [ inl l ↦ omega arith | inr l ↦ omega (arith, t (omega arith) (omega arith)) ],
)

-- the big-endian bytes of a scalar, from its number's bytes
big_is : (i j k : ℕ) → i ≤ 0x10 → j < 256 → k < 256 → utf32 Big (number i j k) ≡ 0 ∷ i ∷ j ∷ k ∷ []
big_is i j k p q r =
    let a : number i j k / 0x1000000 ≡ 0 = omega arith in
    let b : number i j k / 0x10000 % 0x100 ≡ i = omega arith in
    let c : number i j k / 0x100 % 0x100 ≡ j = omega arith in
    let d : number i j k % 0x100 ≡ k = omega arith in
    cc (a, b, c, d)

little_is : (i j k : ℕ) → i ≤ 0x10 → j < 256 → k < 256 → utf32 Little (number i j k) ≡ k ∷ j ∷ i ∷ 0 ∷ []
little_is i j k p q r =
    let a : number i j k / 0x1000000 ≡ 0 = omega arith in
    let b : number i j k / 0x10000 % 0x100 ≡ i = omega arith in
    let c : number i j k / 0x100 % 0x100 ≡ j = omega arith in
    let d : number i j k % 0x100 ≡ k = omega arith in
    cc (a, b, c, d)

-- A scalar whose bytes begin with a text.
record Grown (e : Endian) (x : List ℕ) : Type 0 where
  c : ℕ
  scalar : IsScalar c
  front : Begins x (utf32 e c)

grown_big : (x : List ℕ) (i j k : ℕ) → i ≤ 0x10 → IsThird i j → j < 256 → k < 256 → Begins x (0 ∷ i ∷ j ∷ k ∷ [])
    → Grown Big x
grown_big x i j k p t q r front = record {
  c = number i j k;
  scalar = scalar_of i j k p t q r;
  front = subst (λ (w : List ℕ). Begins x w) (sym (big_is i j k p q r)) front;
}

grown_little : (x : List ℕ) (i j k : ℕ) → i ≤ 0x10 → IsThird i j → j < 256 → k < 256 → Begins x (k ∷ j ∷ i ∷ 0 ∷ [])
    → Grown Little x
grown_little x i j k p t q r front = record {
  c = number i j k;
  scalar = scalar_of i j k p t q r;
  front = subst (λ (w : List ℕ). Begins x w) (sym (little_is i j k p q r)) front;
}

no_third : (i j : ℕ) → i ≡ 0 → j ≡ 0 → IsThird i j
no_third i j e f p h = absurd (omega arith)

one : (j : ℕ) → IsThird 1 j
one j e h = absurd (omega arith)

-- fewer than four bytes that can begin a scalar are a prefix of one
grown : (e : Endian) (x : List ℕ) → length x < 4 → get_or x 0 0 < 256 → get_or x 1 0 < 256 → get_or x 2 0 < 256
    → CanBeScalar e x → Grown e x
grown Big [] l p q r can = grown_big [] 0 0 0 (omega arith) (no_third 0 0 refl refl) (omega arith) (omega arith) tt
grown Big (a ∷ []) l p q r can =
    grown_big (a ∷ []) 0 0 0 (omega arith) (no_third 0 0 refl refl) (omega arith) (omega arith) (can.0, tt)
grown Big (a ∷ b ∷ []) l p q r can = grown_big (a ∷ b ∷ []) b 0 0 (can.1 (omega arith)) (λ e h. absurd (omega arith))
    (omega arith) (omega arith) (can.0, (refl, tt))
grown Big (a ∷ b ∷ c ∷ []) l p q r can = grown_big (a ∷ b ∷ c ∷ []) b c 0 (can.1 (omega arith)) (can.2 (omega arith)) r
    (omega arith) (can.0, (refl, (refl, tt)))
grown Big (a ∷ b ∷ c ∷ d ∷ x) l p q r can = absurd (omega arith)
grown Little [] l p q r can = grown_little [] 1 0 0 (omega arith) (one 0) (omega arith) (omega arith) tt
grown Little (a ∷ []) l p q r can = grown_little (a ∷ []) 1 0 a (omega arith) (one 0) (omega arith) p (refl, tt)
grown Little (a ∷ b ∷ []) l p q r can = grown_little (a ∷ b ∷ []) 1 b a (omega arith) (one b) q p (refl, (refl, tt))
grown Little (a ∷ b ∷ c ∷ []) l p q r can = let both = can (omega arith) in
    grown_little (a ∷ b ∷ c ∷ []) c b a both.0 both.1 q p (refl, (refl, (refl, tt)))
grown Little (a ∷ b ∷ c ∷ d ∷ x) l p q r can = absurd (omega arith)

third_of : (c : ℕ) → IsScalar c → IsThird (c / 0x10000 % 0x100) (c / 0x100 % 0x100)
third_of c s e h = omega (arith, s.0, s.1 (omega (arith, s.0)))

-- a prefix of a scalar's bytes can begin a scalar
can_be : (e : Endian) (x : List ℕ) (c : ℕ) → length x < 4 → 0 < length x → IsScalar c → Begins x (utf32 e c)
    → CanBeScalar e x
can_be Big x c l n s f =
    let at = (Begins-agree x (utf32 Big c) f).1 in (
      at 0 n (omega arith) ∙ (let e : c / 0x1000000 ≡ 0 = omega (arith, s.0) in e),
      λ h. omega (arith, at 1 (omega arith) (omega arith), s.0),
      λ h. rw (at 1 (omega arith) (omega arith), at 2 (omega arith) (omega arith)) (third_of c s),
    )
can_be Little x c l n s f =
    let at = (Begins-agree x (utf32 Little c) f).1 in
    λ h. (
      omega (arith, at 2 (omega arith) (omega arith), s.0),
      rw (at 2 (omega arith) (omega arith), at 1 (omega arith) (omega arith)) (third_of c s),
    )

-- fewer than four bytes that can begin a scalar are incomplete
pub incomplete_part : (e : Endian) (next s : ReadState) (x : List ℕ) → 0 < length x → length x < 4 → get_or x 0 0 < 256
    → get_or x 1 0 < 256 → get_or x 2 0 < 256 → CanBeScalar e x → IsNext (always_gives (utf32 e) next) s x Incomplete
incomplete_part e next s x some few p q r can = let g = grown e x few p q r can in
    incomplete_from (utf32 e) next s x some (λ c scalar a. omega (arith, size_four e c)) g.c g.scalar g.front

-- fewer than four bytes that cannot begin a scalar are ill-formed
pub ill_part : (e : Endian) (next s : ReadState) (x : List ℕ) → 0 < length x → length x < 4 → (CanBeScalar e x → ⊥)
    → IsNext (always_gives (utf32 e) next) s x Ill
ill_part e next s x some few never = ill_from (utf32 e) next s x some (λ c scalar a. never (can_be e x c few some scalar
    (front_agrees x x (utf32 e c) (Begins-refl x) (λ k l m. sym (a k m l)) (omega (arith, size_four e c)))))

unit_within : (e : Endian) (x : List ℕ) (n : ℕ) → IsUnitAt (Four e) x 0 n → 4 ≤ length x
unit_within e x n p = omega (arith, Begins-length (utf32 e n) x p.stands, size_four e n)

-- four bytes of a number that is no scalar are ill-formed
pub ill_number : (e : Endian) (next s : ReadState) (x : List ℕ) (n : ℕ) → IsUnitAt (Four e) x 0 n → (IsScalar n → ⊥)
    → IsNext (always_gives (utf32 e) next) s x Ill
ill_number e next s x n p never = ill_from (utf32 e) next s x (omega (arith, unit_within e x n p)) (λ c scalar a. (
    let here = front_agrees (utf32 e c) (utf32 e c) x (Begins-refl (utf32 e c)) a
    (omega (arith, size_four e c, unit_within e x n p)) in
    never (subst IsScalar (one_number (Four e) x c n here p.stands) scalar)))

-- four bytes of a scalar are read as it
pub char_four : (e : Endian) (next s : ReadState) (x : List ℕ) (n c : ℕ) → IsUnitAt (Four e) x 0 n → c ≡ n → IsScalar c
    → Stands (always_gives (utf32 e) next) s x (taken 4 (Some c) next)
char_four e next s x n c p is scalar =
    char_from (utf32 e) next s x 4 c scalar (subst (λ (m : ℕ). Begins (utf32 e m) x) (sym is) p.stands) (size_four e c)

-- each return of reading an item of UTF-32
pub ruleset steps = (ill_part, ill_number, char_four, incomplete_part)
