-- What a frame carries, and its only encoding. The format of frames is this project's own. Numbers of 32 bits are
-- encoded in four bytes, big-endian.
use Rattle.std.specs.Prelude.{ℕ, ◌+◌, ◌<◌, ◌≤◌, ◌^◌, List, ◌∷◌, ◌++◌, length}
use Rattle.std.specs.List.{flat_map}
use Rattle.std.specs.Int.{w32, to_be_bytes}
use Rattle.cv_frame.specs.Sizes.{most_body}

-- A request or a reply. The code is the op of a request, or the number of a reply's status.
pub record Message : Type 0 where
  pub caller : ℕ
  pub tag : ℕ
  pub code : ℕ
  pub body : List ℕ

-- A frame's length is the number of bytes after it: four of the caller, four of the tag, one of the code, and the body.
abbrev pub frame_length : Message → ℕ
frame_length m = 9 + length m.body

-- The frame of a message: the length, the caller, the tag, the code, the body.
abbrev pub spelling : Message → List ℕ
spelling m =
    to_be_bytes w32 (frame_length m) ++ (to_be_bytes w32 m.caller ++ (to_be_bytes w32 m.tag ++ m.code ∷ m.body))

-- the frames of messages, one after another
abbrev pub joined : List Message → List ℕ
joined ms = flat_map spelling ms

-- The message fits a frame: its caller and tag are of 32 bits, its code is a byte, and the frame's length is at most
-- 1,048,576.
pub record FitsFrame (m : Message) : Type 0 where
  pub caller : m.caller < 2 ^ 32
  pub tag : m.tag < 2 ^ 32
  pub code : m.code < 256
  pub body : length m.body ≤ most_body
