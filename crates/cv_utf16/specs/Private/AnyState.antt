-- The items of one byte order, and those at the start of a text, in any state.
use Rattle.std.specs.Prelude.{ℕ, List}
use Rattle.cv_base.specs.Items.{ItemRelation}
use Rattle.cv_base.specs.declared.state.ReadState.{ReadState}
use Rattle.cv_utf16.specs.Orders.{OrderedForm, gives, reads_first}

-- In any state the whole byte string is that of one scalar.
abbrev pub always_gives : (ℕ → List ℕ) → ReadState → ItemRelation
always_gives bytes_of next s bytes item = gives bytes_of next bytes item

-- In any state the whole byte string is a mark, or any other big-endian character.
abbrev pub always_first : OrderedForm → ItemRelation
always_first form s bytes item = reads_first form bytes item
