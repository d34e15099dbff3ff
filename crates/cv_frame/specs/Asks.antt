-- What a client asks, as a message. The numbers of the ops are this project's own.
use Rattle.std.specs.Prelude.{ℕ, ◌≤◌, List, [], length}
use Rattle.cv_frame.specs.Message.{Message}
use Rattle.cv_frame.specs.Bodies.{name_body, open_body, conv_body, number_body, reset_body}
use Rattle.cv_frame.specs.declared.ask.Ask.{Ask}
use Rattle.cv_frame.specs.Ops.{op_put, op_drop, op_open, op_conv, op_reset, op_close, op_bye, op_part}
use Rattle.cv_frame.specs.Sizes.{most_body}
use Rattle.cv_frame.specs.declared.ask.Ask.TheVariants.{Put, DropMap, Open, Conv, Reset, Close, Bye, Part, Raw}

-- the number of an ask's op
abbrev pub ask_code : Ask → ℕ
ask_code (Put text) = op_put
ask_code (DropMap name) = op_drop
ask_code (Open to from policy) = op_open
ask_code (Conv number room input) = op_conv
ask_code (Reset number room) = op_reset
ask_code (Close number) = op_close
ask_code Bye = op_bye
ask_code (Part bytes) = op_part
ask_code (Raw op body) = op

-- the body of an ask
abbrev pub ask_body : Ask → List ℕ
ask_body (Put text) = text.now
ask_body (DropMap name) = name_body name.now
ask_body (Open to from policy) = open_body to.now from.now policy
ask_body (Conv number room input) = conv_body number room input.now
ask_body (Reset number room) = reset_body number room
ask_body (Close number) = number_body number
ask_body Bye = []
ask_body (Part bytes) = bytes.now
ask_body (Raw op body) = body.now

-- the request that a caller sends
abbrev pub request_of : ℕ → ℕ → Ask → Message
request_of caller tag ask = record { caller = caller; tag = tag; code = ask_code ask; body = ask_body ask }

-- Each name has at most 255 bytes, since its length is encoded in one byte.
abbrev pub NamesFit : Ask → Type 0
NamesFit (Put text) = Unit {0}
NamesFit (DropMap name) = length name.now ≤ 255
NamesFit (Open to from policy) = (length to.now ≤ 255) × (length from.now ≤ 255)
NamesFit (Conv number room input) = Unit {0}
NamesFit (Reset number room) = Unit {0}
NamesFit (Close number) = Unit {0}
NamesFit Bye = Unit {0}
NamesFit (Part bytes) = Unit {0}
NamesFit (Raw op body) = Unit {0}

-- The ask fits a frame: each of its names has at most 255 bytes, and its body at most 1,048,567.
pub record AskFits (ask : Ask) : Type 0 where
  pub names : NamesFit ask
  pub body : length (ask_body ask) ≤ most_body
