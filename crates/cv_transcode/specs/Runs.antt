-- Text of one Unicode form that was converted to another. It exists for speed: no contract of a conversion cites it.
use Rattle.std.specs.Prelude.{◌≡◌, ℕ, List, length}
use Rattle.std.specs.List.{flat_map}
use Rattle.cv_base.specs.Scalars.{AreScalars}
use Rattle.cv_base.specs.Items.{Begins}
use Rattle.cv_base.specs.Places.{IsPut}
use Rattle.cv_block.specs.StatelessForms.{BytesOf}
use Rattle.cv_transcode.specs.declared.run.Run.{Run}

-- The characters at the start of a text in one spelling were written in another, into a slice from index `at` on.
pub record IsTranscoded (from to : BytesOf) (text before : List ℕ) (at : ℕ) (run : Run) (after : List ℕ) : Type 0 where
  pub characters : List ℕ
  pub scalars : AreScalars characters
  pub begins : Begins (flat_map from characters) text
  pub uses : run.used ≡ length (flat_map from characters)
  pub put : IsPut (flat_map to characters) before at run.wrote after
