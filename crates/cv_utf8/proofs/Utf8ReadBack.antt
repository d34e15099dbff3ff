-- What UTF-8 writes is read back.
use Rattle.std.proofs.Common.{◌≡◌, ℕ, ◌+◌, ◌/◌, ◌%◌, ◌<◌, ◌≤◌, inl, inr, [], ◌∷◌, refl, subst, arith}
use Rattle.std.proofs.lemmas.Bool.{cases_lt, lt-ltb, le-ltb}
use Rattle.cv_base.specs.Scalars.{IsScalar}
use Rattle.cv_base.specs.declared.state.ReadState.TheVariants as read
use Rattle.cv_base.specs.declared.state.WriteState.TheVariants as write
use Rattle.cv_utf8.specs.Utf8.{table, carried, IsOfOne, utf8_reads, utf8_bytes, utf8_writes}
use Rattle.cv_utf8.proofs.Utf8Items.{row_2, row_3, row_4}
use Rattle.cv_base.specs.ReadBack.{ReadsBack}
use Rattle.cv_base.proofs.ReadBacks.{IsReadFrom, EachReadsBack, one_item, same_written, no_closing, texts_back}

is_one : (c : ℕ) → c < 0x80 → IsOfOne table (c ∷ []) c
is_one c h = inl (((omega arith, omega arith), tt), (omega arith, omega arith), refl)

is_two : (c : ℕ) → 0x80 ≤ c → c < 0x800 → IsOfOne table ((0xc0 + c / 64) ∷ (0x80 + c % 64) ∷ []) c
is_two c h k =
    let e : carried ((0xc0 + c / 64) ∷ (0x80 + c % 64) ∷ []) ≡ c = omega arith in
    subst (λ n. IsOfOne table ((0xc0 + c / 64) ∷ (0x80 + c % 64) ∷ []) n) e
    (row_2 (0xc0 + c / 64) (0x80 + c % 64) (omega arith) (omega arith) (omega arith, omega arith))

is_three : (c : ℕ) → IsScalar c → 0x800 ≤ c → c < 0x10000
    → IsOfOne table ((0xe0 + c / 4096) ∷ (0x80 + c / 64 % 64) ∷ (0x80 + c % 64) ∷ []) c
is_three c s h k =
    let e : carried ((0xe0 + c / 4096) ∷ (0x80 + c / 64 % 64) ∷ (0x80 + c % 64) ∷ []) ≡ c = omega arith in
    subst (λ n. IsOfOne table ((0xe0 + c / 4096) ∷ (0x80 + c / 64 % 64) ∷ (0x80 + c % 64) ∷ []) n) e
    (row_3 (0xe0 + c / 4096) (0x80 + c / 64 % 64) (0x80 + c % 64) (omega arith) (omega arith) (
      omega arith,
      omega arith,
      λ f. omega arith,
      λ f. elim (cases_lt c 0xD800) [ inl l ↦ omega arith | inr l ↦ absurd (omega (arith, s.1 l)) ],
      λ f. absurd (omega arith),
      λ f. absurd (omega arith),
    ) (omega arith, omega arith))

is_four : (c : ℕ) → IsScalar c → 0x10000 ≤ c
    → IsOfOne table ((0xf0 + c / 262144) ∷ (0x80 + c / 4096 % 64) ∷ (0x80 + c / 64 % 64) ∷ (0x80 + c % 64) ∷ []) c
is_four c s h =
    let e : carried ((0xf0 + c / 262144) ∷ (0x80 + c / 4096 % 64) ∷ (0x80 + c / 64 % 64) ∷ (0x80 + c % 64) ∷ []) ≡ c =
    omega (arith, s.0) in
    subst (λ n. IsOfOne table
    ((0xf0 + c / 262144) ∷ (0x80 + c / 4096 % 64) ∷ (0x80 + c / 64 % 64) ∷ (0x80 + c % 64) ∷ []) n) e (row_4
    (0xf0 + c / 262144) (0x80 + c / 4096 % 64) (0x80 + c / 64 % 64) (0x80 + c % 64) (omega arith) (omega (arith, s.0)) (
      omega arith,
      omega arith,
      λ f. absurd (omega arith),
      λ f. absurd (omega arith),
      λ f. omega arith,
      λ f. omega (arith, s.0),
    ) (omega arith, omega arith) (omega arith, omega arith))

-- the bytes of a scalar are a sequence of the table
pub is_in_table : (c : ℕ) → IsScalar c → IsOfOne table (utf8_bytes c) c
is_in_table c s = elim (cases_lt c 0x80) [
  | inl l ↦ rw (lt-ltb c 0x80 l) (is_one c l)
  | inr l ↦ elim (cases_lt c 0x800) [
    | inl k ↦ rw (le-ltb c 0x80 l, lt-ltb c 0x800 k) (is_two c l k)
    | inr k ↦ elim (cases_lt c 0x10000) [
      | inl j ↦ rw (le-ltb c 0x80 l, le-ltb c 0x800 k, lt-ltb c 0x10000 j) (is_three c s k j)
      | inr j ↦ rw (le-ltb c 0x80 l, le-ltb c 0x800 k, le-ltb c 0x10000 j) (is_four c s j)
    ]
  ]
]

each_back : EachReadsBack utf8_reads utf8_writes (λ t s. Unit {0})
each_back t s c bytes next m scalar e =
    same_written (λ w u. IsReadFrom utf8_reads s w (c ∷ []) (λ r. Unit {0})) (utf8_bytes c) bytes write.Start next
    (one_item utf8_reads s read.Start (utf8_bytes c) c (λ r. Unit {0}) (c, is_in_table c scalar, refl) tt) e

-- UTF-8 reads back the texts that it writes
pub utf8_reads_back : ReadsBack utf8_reads utf8_writes (λ t. [])
utf8_reads_back =
    texts_back utf8_reads utf8_writes (λ t. []) (λ t s. Unit {0}) each_back (no_closing utf8_reads (λ t s. Unit {0})) tt
