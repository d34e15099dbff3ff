-- How a request is answered: by a small body, or by the output of a conversion after others.
use Rattle.std.specs.Prelude.{◌≡◌, ◌≤◌, ◌++◌, ℕ, List, length, Result, Ok, Err}
use Rattle.cv_caller.specs.Tables.{Table}
use Rattle.std.specs.Int.{w32, to_be_bytes}
use Rattle.cv_frame.specs.Message.{Message}
use Rattle.cv_frame.specs.Status.{status_number}
use Rattle.cv_frame.specs.declared.status.Status.{Status}
use Rattle.cv_machine.specs.Machine.{Steps}
use Rattle.cv_world.specs.Actions.{Action, Conv}
use Rattle.cv_world.specs.Answers.{most_room, stop_status}
use Rattle.cv_world.specs.Requests.{turn}
use Rattle.cv_world.specs.Turn.{Acts}
use Rattle.cv_world.specs.declared.answer.Answer.{Answer}
use Rattle.cv_world.specs.declared.answer.Answer.TheVariants.{Converted}
use Rattle.cv_world.specs.declared.op.ConvRequest.{ConvRequest}
use Rattle.cv_world.specs.declared.serving.Small.{Small}
use Rattle.cv_world.specs.declared.stages.ConvOutcome.{ConvOutcome}

-- the reply to a request with a small body
abbrev pub small_message : Message → Status → List ℕ → Message
small_message m status body = record { caller = m.caller; tag = m.tag; code = status_number status; body = body }

-- the reply to a conversion: how many bytes are left, how many characters `?` replaces, and the output
abbrev pub converted_message : Message → ConvOutcome → List ℕ → Message
converted_message m o output =
    small_message m (stop_status o.stop) (to_be_bytes w32 o.left ++ (to_be_bytes w32 o.count ++ output))

-- The answer is not that of a conversion, and so its body is small.
abbrev pub IsSmall : Answer → Type 0
IsSmall (Converted stop left count output) = ⊥
IsSmall other = Unit {0}

-- The action is not a conversion.
abbrev pub IsOther : Action → Type 0
IsOther (Conv number room input) = ⊥
IsOther other = Unit {0}

-- what a CONV asks for
abbrev pub conversion : ConvRequest → Action
conversion conv = Conv conv.number conv.room conv.input.now

-- A CONV that is not refused appends its output.
pub record IsConvOutput (table next : Table) (conv : ConvRequest) (o : ConvOutcome)
    (before after : List ℕ) : Type 0 where
  pub output : List ℕ
  pub appended : after ≡ before ++ output
  pub fits : length output ≤ most_room
  pub acts : Acts table (conversion conv) next (Converted o.stop o.left o.count output)

-- The reply to a request is a step: that of a conversion whose output was appended, or a small one.
abbrev pub Answers : (ℕ → Table) → (ℕ → Table) → Message → List ℕ → List ℕ → Result ConvOutcome Small → Type 0
Answers s t m before after (Ok o) = (output : List ℕ) × (after ≡ before ++ output) × (length output ≤ most_room)
    × Steps turn s m (converted_message m o output) t
Answers s t m before after (Err small) = (after ≡ before)
    × Steps turn s m (small_message m small.status small.body) t
