-- What a line of a script asks: a caller, a tag and a command, which is a request. The form of scripts is this
-- project's own.
use Rattle.std.specs.Prelude.{ℕ, ◌&&◌, List, [], ◌∷◌, length, nat_lt, nat_le, ◌==◌, bytes_eq, codes, if◌then◌else◌}
use Rattle.std.specs.Prelude.{Option, Some, None}
use Rattle.std.specs.Option.{option_map, option_and_then}
use Rattle.cv_base.specs.declared.policy.Policy.{Policy}
use Rattle.cv_base.specs.declared.policy.Policy.TheVariants.{Substitute, Strict}
use Rattle.cv_frame.specs.Bodies.{name_body, open_body, conv_body, reset_body, number_body}
use Rattle.cv_frame.specs.Message.{Message}
use Rattle.cv_frame.specs.Ops.{op_put, op_drop, op_open, op_conv, op_reset, op_close, op_bye, op_part}
use Rattle.cv_frame.specs.Sizes.{most_body}
use Rattle.cv_commands.specs.Texts.{text_for}
use Rattle.cv_commands.specs.Words.{words_of, after_word, number_in, name_in, bytes_in}

-- ---- the body of each request, by the words after its command; `None` if they are not of the command's form

-- put TEXT, part TEXT: the text follows one space
unfoldable pub text_in : List ℕ → Option (List ℕ)
text_in [] = None
text_in (byte ∷ text) = if byte == 32 then Some (text_for text) else None

-- drop NAME
unfoldable pub drop_in : List (List ℕ) → Option (List ℕ)
drop_in (name ∷ []) = option_map name_body (name_in name)
drop_in other = None

-- strict, or nothing
unfoldable pub policy_in : List (List ℕ) → Option Policy
policy_in [] = Some Substitute
policy_in (word ∷ []) = if bytes_eq word (codes "strict") then Some Strict else None
policy_in other = None

-- open TARGET SOURCE, and the policy
unfoldable pub open_in : List (List ℕ) → Option (List ℕ)
open_in (target ∷ source ∷ words) = option_and_then
    (λ to. option_and_then (λ from. option_map (open_body to from) (policy_in words)) (name_in source)) (name_in target)
open_in other = None

-- conv DESCRIPTOR ROOM HEX
unfoldable pub conv_in : List (List ℕ) → Option (List ℕ)
conv_in (descriptor ∷ room ∷ input ∷ []) = option_and_then (λ number. option_and_then
    (λ most. option_map (conv_body number most) (bytes_in input)) (number_in room)) (number_in descriptor)
conv_in other = None

-- reset DESCRIPTOR ROOM
unfoldable pub reset_in : List (List ℕ) → Option (List ℕ)
reset_in (descriptor ∷ room ∷ []) =
    option_and_then (λ number. option_map (reset_body number) (number_in room)) (number_in descriptor)
reset_in other = None

-- close DESCRIPTOR
unfoldable pub close_in : List (List ℕ) → Option (List ℕ)
close_in (descriptor ∷ []) = option_map number_body (number_in descriptor)
close_in other = None

-- bye
unfoldable pub bye_in : List (List ℕ) → Option (List ℕ)
bye_in [] = Some []
bye_in other = None

-- ---- the request of a line

-- the op and the body of a request
abbrev pub Asked : Type 0
Asked = ℕ × List ℕ

abbrev pub with_op : ℕ → Option (List ℕ) → Option Asked
with_op op body = option_map (λ bytes. (op, bytes)) body

-- raw OP HEX, any op with any body
unfoldable pub raw_in : List (List ℕ) → Option Asked
raw_in (op ∷ body ∷ []) = option_and_then (λ code. with_op code (bytes_in body)) (number_in op)
raw_in other = None

-- what a command asks, by its word, the words after it, and the text after it
unfoldable pub asked_by : List ℕ → List (List ℕ) → List ℕ → Option Asked
asked_by command words text =
    if bytes_eq command (codes "put") then with_op op_put (text_in text) else
    if bytes_eq command (codes "part") then with_op op_part (text_in text) else
    if bytes_eq command (codes "drop") then with_op op_drop (drop_in words) else
    if bytes_eq command (codes "open") then with_op op_open (open_in words) else
    if bytes_eq command (codes "conv") then with_op op_conv (conv_in words) else
    if bytes_eq command (codes "reset") then with_op op_reset (reset_in words) else
    if bytes_eq command (codes "close") then with_op op_close (close_in words) else
    if bytes_eq command (codes "bye") then with_op op_bye (bye_in words) else
    if bytes_eq command (codes "raw") then raw_in words else None

-- the request, if it fits a frame: its op is a byte, and its body has at most 1,048,567 bytes
unfoldable pub framed : ℕ → ℕ → Asked → Option Message
framed caller tag (op, body) =
    if nat_lt op 256 && nat_le (length body) most_body
    then Some (record { caller = caller; tag = tag; code = op; body = body })
    else None

-- the request of a caller with a tag
abbrev pub sent_by : ℕ → ℕ → Option Asked → Option Message
sent_by caller tag asked = option_and_then (framed caller tag) asked

-- the request of a line, by its words and by what follows the third of them
unfoldable pub request_by : List (List ℕ) → List ℕ → Option Message
request_by (caller ∷ tag ∷ command ∷ words) text = option_and_then (λ who.
    option_and_then (λ number. sent_by who number (asked_by command words text)) (number_in tag)) (number_in caller)
request_by other text = None

-- The request of a line, which is CALLER TAG and a command. `None` if the line is no command.
unfoldable pub request_in : List ℕ → Option Message
request_in line = request_by (words_of line) (after_word (after_word (after_word line)))
