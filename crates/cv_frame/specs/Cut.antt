-- The only cut of a byte string: whole frames, and then a rest. The format of frames is this project's own.
use Rattle.std.specs.Prelude.{◌≡◌, ℕ, zero, suc, ◌+◌, ◌-◌, List, [], ◌∷◌, ◌++◌, length, take, drop, nat_lt, ◌||◌}
use Rattle.std.specs.Prelude.{slice_index, if◌then◌else◌, get_or, ◌<◌, ◌≤◌, ◌↔◌}
use Rattle.std.specs.Int.{w32, from_be_bytes}
use Rattle.std.specs.List.{AllByRecursion}
use Rattle.cv_frame.specs.Message.{Message, joined, FitsFrame}
use Rattle.cv_frame.specs.declared.reading.Frame.{Frame}
use Rattle.cv_frame.specs.Sizes.{least_length, most_length}
use Rattle.cv_frame.specs.declared.reading.Frame.TheVariants.{Whole, Partial, Bad}
use Rattle.cv_frame.specs.declared.reading.ReplyFrame.{ReplyFrame}
use Rattle.cv_frame.specs.declared.reading.ReplyFrame.TheVariants as reply

-- the big-endian number of 32 bits at the start
abbrev pub u32_at : List ℕ → ℕ
u32_at bytes = from_be_bytes w32 (take 4 bytes)

-- The message after a length n: four bytes of the caller, four of the tag, one of the code, and a body of n - 9 bytes.
abbrev pub message_at : ℕ → List ℕ → Message
message_at n bytes = record {
  caller = u32_at bytes;
  tag = u32_at (drop 4 bytes);
  code = slice_index bytes 8;
  body = take (n - 9) (drop 9 bytes);
}

-- What the bytes begin with. A length is good from 9 to 1,048,576. Fewer than four bytes are a part of a frame, and so
-- are fewer bytes after a good length than it says.
unfoldable pub front_of : List ℕ → Frame
front_of bytes =
    if nat_lt (length bytes) 4 then Partial else
    if nat_lt (u32_at bytes) least_length || nat_lt most_length (u32_at bytes) then Bad (u32_at bytes) else
    if nat_lt (length bytes) (4 + u32_at bytes) then Partial else
    Whole (message_at (u32_at bytes) (drop 4 bytes)) (4 + u32_at bytes)

-- The frame of a reply, seen as the frame of a request: its status is the code.
abbrev pub front_of_reply : ReplyFrame → Frame
front_of_reply (reply.Whole caller tag status body n) =
    Whole (record { caller = caller; tag = tag; code = status; body = body.now }) n
front_of_reply reply.Partial = Partial
front_of_reply (reply.Bad length) = Bad length

-- whole frames, and the rest after them
pub record Cut : Type 0 where
  pub messages : List Message
  pub rest : List ℕ

-- no frame, and all of the bytes as the rest
abbrev pub no_frames : List ℕ → Cut
no_frames bytes = record { messages = []; rest = bytes }

-- one more frame before others
abbrev pub with_first : Message → Cut → Cut
with_first m cut = record { messages = m ∷ cut.messages; rest = cut.rest }

-- A whole frame is cut off, and the others are cut after its n bytes. If there is none, all of the bytes are the rest.
abbrev pub cut_from : Frame → List ℕ → (ℕ → Cut) → Cut
cut_from (Whole m n) bytes others = with_first m (others n)
cut_from Partial bytes others = no_frames bytes
cut_from (Bad n) bytes others = no_frames bytes

-- the cut of at most k frames
unfoldable pub cut_within : ℕ → List ℕ → Cut
cut_within zero bytes = no_frames bytes
cut_within (suc k) bytes = cut_from (front_of bytes) bytes (λ n. cut_within k (drop n bytes))

-- The cut of all frames: each takes bytes, so there are no more frames than bytes.
unfoldable pub cut_of : List ℕ → Cut
cut_of bytes = cut_within (length bytes) bytes

-- the whole frames
abbrev pub messages_of : List ℕ → List Message
messages_of bytes = (cut_of bytes).messages

-- what follows the whole frames
abbrev pub rest_of : List ℕ → List ℕ
rest_of bytes = (cut_of bytes).rest

-- No whole frame is at the start: there are no bytes, or a part of a frame, or a bad length.
abbrev pub IsRest : List ℕ → Type 0
IsRest bytes = (m : Message) (n : ℕ) → front_of bytes ≡ Whole m n → ⊥

-- The bytes are the frames of these messages and then this rest. Each message fits a frame, and no whole frame is at
-- the start of the rest.
pub record IsCut (bytes : List ℕ) (messages : List Message) (rest : List ℕ) : Type 0 where
  pub whole : bytes ≡ joined messages ++ rest
  pub fits : AllByRecursion FitsFrame messages
  pub ends : IsRest rest

-- Each element is a byte, below 256.
abbrev pub IsBytes : List ℕ → Type 0
IsBytes bytes = (i : ℕ) → get_or bytes i 0 < 256

-- There are bytes that make a whole frame of these, if they follow.
pub record CanBeWhole (bytes : List ℕ) : Type 0 where
  pub more : List ℕ
  pub message : Message
  pub n : ℕ
  pub is_whole : front_of (bytes ++ more) ≡ Whole message n

-- What a rest begins with. Fewer than four bytes are a part of a frame. Four bytes have the length: the rest is a part
-- of a frame if and only if more bytes can make it whole, and the length is bad if and only if none can.
pub record IsFrontOfRest (bytes : List ℕ) : Type 0 where
  pub short : length bytes < 4 → front_of bytes ≡ Partial
  pub part : 4 ≤ length bytes → (front_of bytes ≡ Partial) ↔ CanBeWhole bytes
  pub bad : 4 ≤ length bytes → ((n : ℕ) × (front_of bytes ≡ Bad n)) ↔ ¬ CanBeWhole bytes

-- Every byte string has exactly one cut. What its rest begins with says whether more bytes can make a frame of the
-- rest.
pub record OneCut : Type 0 where
  pub some : (bytes : List ℕ) → IsBytes bytes → IsCut bytes (messages_of bytes) (rest_of bytes)
  pub one : (bytes : List ℕ) (messages : List Message) (rest : List ℕ) → IsCut bytes messages rest
      → (messages_of bytes ≡ messages) × (rest_of bytes ≡ rest)
  pub rest : (bytes : List ℕ) → IsRest bytes → IsFrontOfRest bytes

-- The cut of joined frames is the frames, and then the cut of what follows.
abbrev pub CutOfJoined : Type 0
CutOfJoined = (messages : List Message) (bytes : List ℕ) → AllByRecursion FitsFrame messages → (messages_of
    (joined messages ++ bytes) ≡ messages ++ messages_of bytes) × (rest_of (joined messages ++ bytes) ≡ rest_of bytes)
