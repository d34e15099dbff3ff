-- What the steps that look for the next item find in a text.
use Rattle.std.specs.Prelude.{◌≡◌, ℕ, ◌+◌, ◌*◌, ◌^◌, ◌<◌, ◌≤◌, List, ◌++◌, length, take, Some, None}
use Rattle.cv_base.specs.Items.{Taken, taken}
use Rattle.cv_base.specs.declared.item.Item.{Item}
use Rattle.cv_base.specs.declared.item.Item.TheVariants as item
use Rattle.cv_base.specs.declared.state.Bits.{Bits}
use Rattle.cv_utf7.specs.BitLists.{bits, bits_of, AreDigits, digit_bits}
use Rattle.cv_utf7.specs.Utf7.{EndsAt}
use Rattle.cv_utf7.specs.declared.read.base64_unit.Base64Unit.{Base64Unit}

-- The text begins with the fewest digits that hold a code unit after the pending bits. The bits left over are pending
-- next.
pub record IsUnit (pending : Bits) (text : List ℕ) (found : Base64Unit) : Type 0 where
  pub within : found.n ≤ length text
  pub are_digits : AreDigits (take found.n text)
  pub same : bits_of pending ++ digit_bits (take found.n text) ≡ bits 16 found.value ++ bits_of found.over
  pub small : found.value < 0x10000

-- There are too few digits for a code unit.
abbrev pub NoUnit : Bits → List ℕ → Type 0
NoUnit pending text = (n : ℕ) → n ≤ length text → 16 ≤ pending.count + 6 * n → AreDigits (take n text) → ⊥

-- The text begins with n digits, which are too few for a code unit. With the pending bits before them they are `count`
-- bits, which spell the value.
pub record IsPartial (pending : Bits) (text : List ℕ) (n count value : ℕ) : Type 0 where
  pub within : n ≤ length text
  pub are_digits : AreDigits (take n text)
  pub counts : count ≡ pending.count + 6 * n
  pub few : count < 16
  pub small : value < 2 ^ count
  pub same : bits_of pending ++ digit_bits (take n text) ≡ bits count value

-- The item that a byte ends after zero bits, or `Ill` if it ends none.
abbrev pub IsEnding : ℕ → ℕ → Item → Type 0
IsEnding last used (item.Char c n next) = EndsAt used last (taken n (Some c) next)
IsEnding last used (item.Shift n next) = EndsAt used last (taken n None next)
IsEnding last used item.Incomplete = ⊥
IsEnding last used item.Ill = (i : Taken) → EndsAt used last i → ⊥
IsEnding last used item.End = ⊥
