-- Laws of what is served: every stream has replies that may be served for it, and a failed write leaves the first of
-- them.
use Rattle.std.specs.Prelude.{◌≡◌, ℕ, List, ◌++◌}
use Rattle.cv_frame.specs.Cut.{messages_of, IsBytes}
use Rattle.cv_frame.specs.Message.{Message}
use Rattle.cv_caller.specs.Tables.{Table}
use Rattle.cv_machine.specs.Machine.{Turn, IsServed, BeginsAnswer, NoneLacks}
use Rattle.cv_world.specs.Laws.{IsSound}
use Rattle.cv_world.specs.Requests.{turn}

-- From sound tables something is served for every stream: it is impossible that all runs of its whole frames have a
-- failed allocation.
abbrev pub SomeService : Type 0
SomeService = (tables : ℕ → Table) (given : List ℕ) → ((caller : ℕ) → IsSound (tables caller)) → IsBytes given
    → ((written : List ℕ) → IsServed turn tables given written → ⊥) → ⊥

-- If written bytes begin an answer, and none of their whole replies says that an allocation failed, then these replies
-- are the first of those that are served.
abbrev pub FirstServed : {Table : Type 0} → Turn Table → Type 0
FirstServed {Table} turn = (tables : ℕ → Table) (given written served : List ℕ) → BeginsAnswer turn tables given written
    → NoneLacks (messages_of written)
    → IsServed turn tables given served → (later : List Message) × (messages_of served ≡ messages_of written ++ later)
