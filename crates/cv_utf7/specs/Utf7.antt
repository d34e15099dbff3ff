-- UTF-7 (RFC 2152, "UTF-7 Definition", rules 1 to 3).
-- `pending_of` makes pending bits from two or four bits, or from none. They are the bits that it is given
-- (`laws::pending_bits`).
use Rattle.std.specs.Prelude.{◌≡◌, ℕ, ◌<◌, Bool, true, false, ◌⊎◌, List, [], ◌∷◌, ◌++◌, length, Option, Some, None}
use Rattle.std.specs.Prelude.{◌==◌, if◌then◌else◌, replicate}
use Rattle.cv_base.specs.Scalars.{IsScalar}
use Rattle.cv_base.specs.Items.{Taken, taken}
use Rattle.cv_base.specs.declared.state.Bits.{Bits}
use Rattle.cv_base.specs.declared.state.ReadState.{ReadState}
use Rattle.cv_base.specs.declared.state.ReadState.TheVariants as read
use Rattle.cv_base.specs.declared.state.WriteState.{WriteState}
use Rattle.cv_base.specs.declared.state.WriteState.TheVariants as write
use Rattle.cv_utf7.specs.Sets.{may_be_direct, is_direct, is_digit}
use Rattle.cv_utf7.specs.BitLists.{bits_of, character_bits, AreDigits, digit_bits, digits, over}
use Rattle.cv_utf7.specs.PendingBits.{pending_of}

-- `+`
abbrev pub plus : ℕ
plus = 43

-- `-`
abbrev pub minus : ℕ
minus = 45

-- Outside a shifted sequence a direct byte is its character (rules 1 and 3), `+-` is U+002B, and `+` before a digit
-- begins a sequence (rule 2).
abbrev pub ReadsAtStart : List ℕ → Taken → Type 0
ReadsAtStart (b ∷ []) item = (may_be_direct b ≡ true) × (item ≡ taken 1 (Some b) read.Start)
ReadsAtStart (b ∷ d ∷ []) item =
    ((b ≡ plus) × (d ≡ minus) × (item ≡ taken 2 (Some plus) read.Start))
    ⊎ ((b ≡ plus) × (is_digit d ≡ true) × (item ≡ taken 1 None (read.Shifted (pending_of []))))
ReadsAtStart other item = ⊥

-- A character of a shifted sequence: the pending bits, and then those of the digits, are the bits of the character, and
-- then the next pending bits, which are too few for a digit (rule 2).
pub record ReadsCharacter (pending : Bits) (bytes : List ℕ) (item : Taken) : Type 0 where
  pub c : ℕ
  pub next : Bits
  pub scalar : IsScalar c
  pub are_digits : AreDigits bytes
  pub same_bits : bits_of pending ++ digit_bits bytes ≡ character_bits c ++ bits_of next
  pub is : item ≡ taken (length bytes) (Some c) (read.Shifted next)

-- What ends a shifted sequence: `-`, which gives no character, or another direct byte that is not a digit, which gives
-- itself (rule 2).
abbrev pub EndsAt : ℕ → ℕ → Taken → Type 0
EndsAt used b item =
    ((b ≡ minus) × (item ≡ taken used None read.Start))
    ⊎ ((may_be_direct b ≡ true) × (is_digit b ≡ false) × (b ≡ minus → ⊥) × (item ≡ taken used (Some b) read.Start))

-- The end of a shifted sequence: the bits left are fewer than those of a code unit, and zero (rule 2).
pub record ReadsEnd (pending : Bits) (bytes : List ℕ) (item : Taken) : Type 0 where
  pub front : List ℕ
  pub last : ℕ
  pub left : ℕ
  pub are_digits : AreDigits front
  pub few : left < 16
  pub zero_bits : bits_of pending ++ digit_bits front ≡ replicate left false
  pub whole : bytes ≡ front ++ last ∷ []
  pub ends : EndsAt (length bytes) last item

-- The whole byte string is an item, of a shifted sequence or outside one.
abbrev pub utf7_reads : ReadState → List ℕ → Taken → Type 0
utf7_reads (read.Shifted pending) bytes item = ReadsCharacter pending bytes item ⊎ ReadsEnd pending bytes item
utf7_reads other bytes item = ReadsAtStart bytes item

-- the digits of bits; the bits left over are pending
abbrev pub written_bits : List Bool → List ℕ × WriteState
written_bits all = (digits all, write.Shifted (pending_of (over all)))

-- the closing digit: the pending bits followed by zero bits, or no digit if none are pending
abbrev pub last_digit : List Bool → List ℕ
last_digit few = digits (few ++ replicate 5 false)

-- what closes a shifted sequence: the closing digit and `-`; nothing outside one
abbrev pub utf7_closes : WriteState → List ℕ
utf7_closes (write.Shifted pending) = last_digit (bits_of pending) ++ minus ∷ []
utf7_closes other = []

-- how a character is written outside a shifted sequence: as itself, as `+-`, or as `+` and the digits of its bits
abbrev pub writes_at_start : ℕ → List ℕ × WriteState
writes_at_start c =
    if is_direct c then (c ∷ [], write.Start)
    else if c == plus then (plus ∷ minus ∷ [], write.Start)
    else (plus ∷ digits (character_bits c), write.Shifted (pending_of (over (character_bits c))))

-- how a character is written in a shifted sequence: as itself after what closes the sequence, or as the digits of the
-- pending bits and its own
abbrev pub writes_in_shift : Bits → ℕ → List ℕ × WriteState
writes_in_shift pending c =
    if is_direct c then (utf7_closes (write.Shifted pending) ++ c ∷ [], write.Start)
    else written_bits (bits_of pending ++ character_bits c)

-- Every character is written, in a shifted sequence or outside one.
abbrev pub utf7_writes : WriteState → ℕ → Option (List ℕ × WriteState)
utf7_writes (write.Shifted pending) c = Some (writes_in_shift pending c)
utf7_writes other c = Some (writes_at_start c)
