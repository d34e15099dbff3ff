-- How a reply encodes an answer.
use Rattle.std.specs.Prelude.{ℕ, ◌≤◌, List, [], ◌∷◌, ◌++◌, length}
use Rattle.std.specs.Int.{w32, to_be_bytes}
use Rattle.cv_pivot.specs.declared.outcome.Stop.{Stop}
use Rattle.cv_pivot.specs.declared.outcome.Stop.TheVariants as stop
use Rattle.cv_lex.specs.Causes.{cause_number}
use Rattle.cv_frame.specs.Status.{status_number}
use Rattle.cv_frame.specs.declared.status.Status.{Status}
use Rattle.cv_frame.specs.declared.status.Status.TheVariants as status
use Rattle.cv_world.specs.declared.answer.Answer.{Answer}
use Rattle.cv_world.specs.declared.answer.Answer.TheVariants.{Empty, Number, Count, Converted, Written, BadMap, Refused}

-- the most room that a request may ask for, in bytes
abbrev pub most_room : ℕ
most_room = 1000000

-- the status of a conversion, by why it stopped
abbrev pub stop_status : Stop → Status
stop_status stop.Done = status.Ok
stop_status stop.TooBig = status.TooBig
stop_status stop.Lacking = status.Lacking
stop_status stop.Ill = status.Ill
stop_status stop.Incomplete = status.Incomplete

-- the status of an answer
abbrev pub answer_status : Answer → Status
answer_status Empty = status.Ok
answer_status (Number n) = status.Ok
answer_status (Count n) = status.Ok
answer_status (Converted stop left count output) = stop_status stop
answer_status (Written bytes) = status.Ok
answer_status (BadMap fault) = status.BadMap
answer_status (Refused s) = s

-- the number of that status
abbrev pub answer_code : Answer → ℕ
answer_code answer = status_number (answer_status answer)

-- The body of an answer. That of a conversion has the number of bytes left, how many characters `?` replaces, and the
-- output.
abbrev pub answer_body : Answer → List ℕ
answer_body Empty = []
answer_body (Number n) = to_be_bytes w32 n
answer_body (Count n) = to_be_bytes w32 n
answer_body (Converted stop left count output) = to_be_bytes w32 left ++ (to_be_bytes w32 count ++ output)
answer_body (Written bytes) = bytes
answer_body (BadMap fault) = to_be_bytes w32 fault.line ++ cause_number fault.cause ∷ []
answer_body (Refused s) = []

-- The output of a conversion has at most 1,000,000 bytes, so that the answer fits a frame.
abbrev pub AnswerFits : Answer → Type 0
AnswerFits Empty = Unit {0}
AnswerFits (Number n) = Unit {0}
AnswerFits (Count n) = Unit {0}
AnswerFits (Converted stop left count output) = length output ≤ most_room
AnswerFits (Written bytes) = Unit {0}
AnswerFits (BadMap fault) = Unit {0}
AnswerFits (Refused s) = Unit {0}
