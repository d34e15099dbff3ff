-- Code units that are written at once.
use Rattle.std.specs.Prelude.{◌≡◌, ℕ, ◌+◌, ◌-◌, ◌<◌, ◌≤◌, true, List, ◌++◌, take, drop, length, get_or, replicate, []}
use Rattle.std.specs.Prelude.{◌∷◌, ◌*◌, ◌/◌, ◌%◌}
use Rattle.std.specs.Prelude.{min, if◌then◌else◌, nat_lt}
use Rattle.cv_utf7.specs.Sets.{is_direct}
use Rattle.cv_utf7.specs.declared.write.groups.Group.{Group}

-- Eight units are the characters from an index on, as far as these are below U+FFFF.
abbrev pub AreUnits : List ℕ → ℕ → List ℕ → Type 0
AreUnits characters n units = (k : ℕ) → k < 8 → get_or units k 0 ≡ min (get_or characters (n + k) 0) 0xffff

-- a character that is one unit and not ASCII
abbrev pub IsLong : ℕ → Type 0
IsLong c = (128 ≤ c) × (c < 0xffff)

-- The units are those of the first characters from an index on, and zeros. If they are fewer than six, a direct
-- character follows, and so many characters that their bytes are after the digits.
pub record IsGroup (characters : List ℕ) (n : ℕ) (group : Group) : Type 0 where
  pub few : group.n ≤ 6
  pub some : 2 ≤ group.n
  pub left : n + 8 ≤ length characters
  pub long : (k : ℕ) → k < group.n → IsLong (get_or characters (n + k) 0)
  pub are : take 6 group.units ≡ take group.n (drop n characters) ++ replicate (6 - group.n) 0
  pub many : group.n < 6 → n + 11 ≤ length characters
  pub ends : group.n < 6 → is_direct (get_or characters (n + group.n) 0) ≡ true

-- for each three units the four pairs of digits, each as the highest or the lowest twelve bits of sixteen
abbrev pub pairs_in : List ℕ → List ℕ
pairs_in (a ∷ b ∷ c ∷ rest) = a ∷ (b / 256 + 256 * (a % 256)) ∷ (c / 256 + 256 * (b % 256)) ∷ c ∷ pairs_in rest
pairs_in few = []

-- the values of the digits of pairs
abbrev pub values_in : List ℕ → List ℕ
values_in (p ∷ q ∷ rest) = p / 1024 ∷ p / 16 % 64 ∷ q / 64 % 64 ∷ q % 64 ∷ values_in rest
values_in few = []

-- where the number is that is added to a value to make the digit
abbrev pub offset_index : ℕ → ℕ
offset_index value = if nat_lt value 26 then 13 else value - 51
