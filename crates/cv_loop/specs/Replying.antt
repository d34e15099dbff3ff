-- What a batch adds to the replies before it.
use Rattle.std.specs.Prelude.{◌≡◌, ℕ, List, ◌++◌}
use Rattle.cv_frame.specs.Message.{Message}
use Rattle.cv_machine.specs.Machine.{Turn, Progress}

-- Of the requests that were asked, all but the `later` ones ran, from tables `old` to `new`. The frames of their
-- replies are the bytes that were appended to `before`, followed by the `missing` ones.
pub record AppendsReplies {Table : Type 0} (turn : Turn Table) (old : ℕ → Table) (asked later : List Message)
    (before after missing : List ℕ) (new : ℕ → Table) : Type 0 where
  pub more : List ℕ
  pub appends : after ≡ before ++ more
  pub ran : Progress turn old asked later more missing new
