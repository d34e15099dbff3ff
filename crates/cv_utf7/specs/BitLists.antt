-- Strings of bits, the highest first.
use Rattle.std.specs.Prelude.{◌≡◌, ℕ, zero, suc, ◌+◌, ◌*◌, ◌/◌, ◌%◌, ◌^◌, Bool, true, List, [], ◌∷◌, ◌++◌, length}
use Rattle.std.specs.Prelude.{◌==◌, if◌then◌else◌}
use Rattle.std.specs.List.{All, flat_map}
use Rattle.cv_base.specs.Units.{units_of}
use Rattle.cv_base.specs.declared.state.Bits.{Bits}
use Rattle.cv_utf7.specs.Sets.{is_digit, value_of, digit_of}

-- the lowest bits of a number, as many as the count
unfoldable pub bits : ℕ → ℕ → List Bool
bits zero n = []
bits (suc count) n = bits count (n / 2) ++ (n % 2 == 1) ∷ []

-- the number that bits spell
abbrev pub number : List Bool → ℕ
number [] = 0
number (bit ∷ rest) = (if bit then 1 else 0) * 2 ^ length rest + number rest

-- the bits that are pending
abbrev pub bits_of : Bits → List Bool
bits_of pending = bits pending.count pending.value

-- the bits of a character: sixteen for each of its code units
abbrev pub character_bits : ℕ → List Bool
character_bits c = flat_map (bits 16) (units_of c)

-- Each byte is a digit.
abbrev pub AreDigits : List ℕ → Type 0
AreDigits bytes = All (λ b. is_digit b ≡ true) bytes

-- the six bits of each digit
abbrev pub digit_bits : List ℕ → List Bool
digit_bits digits = flat_map (λ b. bits 6 (value_of b)) digits

-- a digit for each six bits; bits that are too few for a digit have none
abbrev pub digits : List Bool → List ℕ
digits (a ∷ b ∷ c ∷ d ∷ e ∷ f ∷ rest) = digit_of (number (a ∷ b ∷ c ∷ d ∷ e ∷ f ∷ [])) ∷ digits rest
digits few = []

-- the bits left over, which are too few for a digit
abbrev pub over : List Bool → List Bool
over (a ∷ b ∷ c ∷ d ∷ e ∷ f ∷ rest) = over rest
over few = few
