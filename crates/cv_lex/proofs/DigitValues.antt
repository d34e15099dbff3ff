-- The table of digits has the value of each byte.
use Rattle.std.proofs.Common.{◌≡◌, ℕ, ◌<◌, Bool, true, get_or, refl}
use Rattle.std.proofs.Math.Dec.{eqb}
use Rattle.std.proofs.lemmas.Bool.{agree_below_at, eqb-true}
use Rattle.std.specs.Char.{digit_value}
use Rattle.cv_lex.specs.declared.digit_table.TheConstants.{DIGITS}

abbrev is_same : ℕ → Bool
is_same b = eqb (get_or DIGITS b 0) (digit_value b)

-- the entry of a byte is its value
pub value_at : (b : ℕ) → b < 256 → get_or DIGITS b 0 ≡ digit_value b
value_at b h = eqb-true _ _ (agree_below_at is_same (λ _. true) 256 b refl h)
