-- What the steps of reading a block do.
use Rattle.std.specs.Prelude.{◌≡◌, ℕ, ◌+◌, ◌*◌, ◌<◌, ◌≤◌, true, false, List, ◌++◌, take, drop, length, get_or}
use Rattle.cv_base.specs.Items.{Taken}
use Rattle.cv_base.specs.Chains.{IsChain, used_bytes, read_state, characters_of}
use Rattle.cv_base.specs.declared.block.ReadBlock.{ReadBlock}
use Rattle.cv_base.specs.declared.state.Bits.{Bits}
use Rattle.cv_base.specs.declared.state.ReadState.{ReadState}
use Rattle.cv_block.specs.Surrogates.{IsSurrogate}
use Rattle.cv_utf7.specs.Sets.{may_be_direct, is_digit, value_of}
use Rattle.cv_utf7.specs.Private.ItemSteps.{IsUnit}
use Rattle.cv_utf7.specs.Utf7.{plus, utf7_reads}
use Rattle.cv_utf7.specs.declared.read.base64_unit.Base64Unit.{Base64Unit}

-- a place of reading: the state, how many bytes were used, and how many characters are in the buffer
abbrev pub read_to : ReadState → ℕ → ℕ → ReadBlock
read_to state used n = record { n = n; used = used; next = state }

-- Items of a text were read from one place to another. Their characters are in the buffer, after those that were there.
pub record ReadsOn (text : List ℕ) (from : ReadBlock) (before : List ℕ) (to : ReadBlock) (after : List ℕ) : Type 0 where
  pub chain : List Taken
  pub is_chain : IsChain utf7_reads from.next (drop from.used text) chain
  pub uses : to.used ≡ from.used + used_bytes chain
  pub within : to.used ≤ length text
  pub next : to.next ≡ read_state from.next chain
  pub gives : take to.n after ≡ take from.n before ++ characters_of chain
  pub fits : to.n ≤ length after
  pub size : length after ≡ length before

-- A byte ends a shifted sequence whose pending bits are zero.
abbrev pub Ends : ℕ → Type 0
Ends b = (may_be_direct b ≡ true) × (is_digit b ≡ false)

-- A shifted sequence of one character is at index `at` of a text, with the byte that ends it: `+`, three digits, and
-- the byte.
pub record IsLone (text : List ℕ) (at c : ℕ) : Type 0 where
  pub none : Bits
  pub unit : Base64Unit
  pub nothing : none.count ≡ 0
  pub begins : get_or text at 0 ≡ plus
  pub is_unit : IsUnit none (drop (at + 1) text) unit
  pub is : unit.value ≡ c
  pub scalar : IsSurrogate unit.value → ⊥
  pub zero : unit.over.value ≡ 0
  pub ends : Ends (get_or text (at + 4) 0)

-- Three digits are at index `at` of a text, and spell a number.
pub record AreThree (text : List ℕ) (at number : ℕ) : Type 0 where
  pub small : number < 0x40000
  pub first : is_digit (get_or text at 0) ≡ true
  pub second : is_digit (get_or text (at + 1) 0) ≡ true
  pub third : is_digit (get_or text (at + 2) 0) ≡ true
  pub spell : number ≡ (value_of (get_or text at 0) * 64 + value_of (get_or text (at + 1) 0)) * 64
      + value_of (get_or text (at + 2) 0)
