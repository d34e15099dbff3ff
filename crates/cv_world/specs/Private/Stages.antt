-- A conversion whose output is appended to bytes, in stages.
use Rattle.std.specs.Prelude.{◌≡◌, ℕ, ◌+◌, List, ◌++◌}
use Rattle.cv_pivot.specs.Conversions.{IsConverted}
use Rattle.cv_pivot.specs.Encodings.{form_of, form_reads, form_writes}
use Rattle.cv_pivot.specs.declared.conversion.Conversion.{Conversion}
use Rattle.cv_world.specs.declared.stages.ConvOutcome.{ConvOutcome}

-- A conversion v becomes w by writing a text: as much of it as this room takes is appended to the bytes.
pub record Appends (v w : Conversion) (text : List ℕ) (room : ℕ) (o : ConvOutcome)
    (before after : List ℕ) : Type 0 where
  pub output : List ℕ
  pub converted : IsConverted (form_reads (form_of v.from)) (form_writes (form_of v.to)) v.policy v.states text room
      (record { left = o.left; count = o.count; stop = o.stop; output = output; states = w.states })
  pub kept : w ≡ record v { states = w.states }
  pub appended : after ≡ before ++ output

-- what a conversion in two stages came to
abbrev pub sum_of : ConvOutcome → ConvOutcome → ConvOutcome
sum_of first rest = record rest { count = first.count + rest.count }
