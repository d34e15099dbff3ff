-- Conversions that may also change some bytes after those that are wanted.
use Rattle.std.specs.Prelude.{◌≡◌, ℕ, List, length}
use Rattle.std.specs.List.{flat_map}
use Rattle.cv_base.specs.Scalars.{AreScalars}
use Rattle.cv_base.specs.Items.{Begins}
use Rattle.cv_block.specs.Slack.{IsPutWithSlack}
use Rattle.cv_block.specs.StatelessForms.{BytesOf}

-- The characters of the first `used` bytes of a text in one spelling were written in another, as n bytes from index
-- `at` on.
pub record IsConvertedWithSlack (from to : BytesOf) (text before : List ℕ) (at used n slack : ℕ) (after : List ℕ) : Type
    0 where
  pub characters : List ℕ
  pub scalars : AreScalars characters
  pub begins : Begins (flat_map from characters) text
  pub uses : used ≡ length (flat_map from characters)
  pub put : IsPutWithSlack (flat_map to characters) before at n slack after
