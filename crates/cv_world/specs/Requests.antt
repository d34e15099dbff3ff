-- What a request asks for, by its op and its body, and which outcomes it may have. The numbers of the ops and the forms
-- of the bodies are this project's own.
use Rattle.std.specs.Prelude.{◌≡◌, ℕ, List, [], ◌∷◌, ◌++◌, ◌==◌, Option, Some, None, if◌then◌else◌}
use Rattle.cv_cache.specs.Compiled.{Compiled, MayCompile}
use Rattle.cv_caller.specs.Tables.{Table}
use Rattle.cv_machine.specs.Machine.{Outcome, When, Turn}
use Rattle.cv_frame.specs.Bodies.{Opening, drop_of, open_of, conv_of, reset_of, u32_of}
use Rattle.cv_frame.specs.Ops.{op_put, op_drop, op_open, op_conv, op_reset, op_close, op_bye, op_part}
use Rattle.cv_world.specs.Actions.{Action, Put, DropMap, Open, Conv, Reset, Close, Bye, Part, Bad}
use Rattle.cv_world.specs.Answers.{answer_code, answer_body}
use Rattle.cv_world.specs.Turn.{Acts}
use Rattle.cv_world.specs.declared.answer.Answer.{Answer}

-- ---- what the bytes of a request ask for

-- what a DROP asks for, by the name in its body
abbrev pub drop_action : Option (List ℕ) → Action
drop_action (Some name) = DropMap name
drop_action None = Bad

-- what an OPEN asks for, by the fields of its body
abbrev pub open_action : Option Opening → Action
open_action (Some o) = Open o.to o.from o.policy
open_action None = Bad

-- what a CONV asks for, by the fields of its body
abbrev pub conv_action : Option (ℕ × ℕ × List ℕ) → Action
conv_action (Some fields) = Conv fields.0 fields.1 fields.2
conv_action None = Bad

-- what a RESET asks for, by the fields of its body
abbrev pub reset_action : Option (ℕ × ℕ) → Action
reset_action (Some fields) = Reset fields.0 fields.1
reset_action None = Bad

-- what a CLOSE asks for, by the number in its body
abbrev pub close_action : Option ℕ → Action
close_action (Some number) = Close number
close_action None = Bad

-- what a BYE asks for, by its body
abbrev pub bye_action : List ℕ → Action
bye_action [] = Bye
bye_action (b ∷ body) = Bad

-- what the op and the body of a request other than PUT ask for
abbrev pub action_of : ℕ → List ℕ → Action
action_of code body =
    if code == op_drop then drop_action (drop_of body) else
    if code == op_open then open_action (open_of body) else
    if code == op_conv then conv_action (conv_of body) else
    if code == op_reset then reset_action (reset_of body) else
    if code == op_close then close_action (u32_of body) else
    if code == op_bye then bye_action body else
    if code == op_part then Part body else Bad

-- PUT asks to hold a charmap that the text may be compiled to.
pub record AsksPut (text : List ℕ) (action : Action) : Type 0 where
  pub charmap : Compiled
  pub may : MayCompile text charmap
  pub is : action ≡ Put charmap

-- What a request asks for, if this part of an upload is held for its caller. The text of a PUT is the part followed by
-- its body.
abbrev pub Asks : List ℕ → ℕ → List ℕ → Action → Type 0
Asks part code body action = When (code == op_put) (AsksPut (part ++ body) action) (action ≡ action_of code body)

-- ---- the outcomes that a request may have

-- An action that the request asks for may lead to the outcome's table and to an answer that the outcome encodes. This
-- is defined at every table, also at those that no run leaves. There the only outcome of a conversion from a charmap
-- that is not held is an allocation failure.
pub record MayTurn (table : Table) (code : ℕ) (body : List ℕ) (outcome : Outcome Table) : Type 0 where
  pub action : Action
  pub asks : Asks table.part code body action
  pub answer : Answer
  pub acts : Acts table action outcome.next answer
  pub code_is : outcome.code ≡ answer_code answer
  pub body_is : outcome.body ≡ answer_body answer

-- the turn of the machine
abbrev pub turn : Turn Table
turn table code body outcome = MayTurn table code body outcome
