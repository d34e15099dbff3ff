-- The byte orders of an encoding form, and the marks that determine them (Unicode 3.10, D96 to D101).
use Rattle.std.specs.Prelude.{◌≡◌, ℕ, ◌⊎◌, List, ◌++◌, length, Some, None}
use Rattle.cv_base.specs.Scalars.{IsScalar}
use Rattle.cv_base.specs.Items.{Taken, taken, ItemRelation}
use Rattle.cv_base.specs.Codecs.{Writing}
use Rattle.cv_base.specs.declared.endian.Endian.{Endian}
use Rattle.cv_base.specs.declared.endian.Endian.TheVariants.{Big, Little}
use Rattle.cv_base.specs.declared.state.ReadState.{ReadState}
use Rattle.cv_base.specs.declared.state.ReadState.TheVariants as read
use Rattle.cv_base.specs.declared.state.WriteState.TheVariants as write
use Rattle.cv_utf16.specs.declared.order.Order.{Order}
use Rattle.cv_utf16.specs.declared.order.Order.TheVariants.{Be, Le, Marked}

-- an encoding form: the bytes of each scalar, in each byte order of a unit
abbrev pub OrderedForm : Type 0
OrderedForm = Endian → ℕ → List ℕ

-- the byte order mark, U+FEFF, whose bytes determine the order (Unicode 23.8)
abbrev pub mark : ℕ
mark = 0xFEFF

-- The whole byte string is that of one scalar, and the state after it is the given one.
abbrev pub gives : (ℕ → List ℕ) → ReadState → List ℕ → Taken → Type 0
gives bytes_of next bytes item = (c : ℕ) × IsScalar c × (bytes ≡ bytes_of c)
    × (item ≡ taken (length bytes) (Some c) next)

-- At the start of a text that may have a mark: a mark, or any other big-endian character.
abbrev pub reads_first : OrderedForm → List ℕ → Taken → Type 0
reads_first form bytes item =
    ((bytes ≡ form Big mark) × (item ≡ taken (length bytes) None read.Big))
    ⊎ (((bytes ≡ form Little mark) × (item ≡ taken (length bytes) None read.Little))
    ⊎ ((bytes ≡ form Big mark → ⊥) × (bytes ≡ form Little mark → ⊥) × gives (form Big) read.Big bytes item))

-- The whole byte string is one scalar in the state's order, or a mark. A state that the order doesn't use means
-- `Start`.
abbrev pub reads_in : OrderedForm → Order → ItemRelation
reads_in form Be s = gives (form Big) read.Start
reads_in form Le s = gives (form Little) read.Start
reads_in form Marked read.Big = gives (form Big) read.Big
reads_in form Marked read.Little = gives (form Little) read.Little
reads_in form Marked other = reads_first form

-- Every scalar is written in the order, and with `Marked` after the big-endian mark if it is the first. A state that
-- the order doesn't use means `Start`.
abbrev pub writes_in : OrderedForm → Order → Writing
writes_in form Be t c = Some (form Big c, write.Start)
writes_in form Le t c = Some (form Little c, write.Start)
writes_in form Marked write.Marked c = Some (form Big c, write.Marked)
writes_in form Marked other c = Some (form Big mark ++ form Big c, write.Marked)
