-- The bodies of requests, whose forms are this project's own. Descriptors and rooms are numbers of 32 bits, big-endian.
use Rattle.std.specs.Prelude.{◌≡◌, ◌⊎◌, ℕ, ◌<◌, ◌≤◌, ◌^◌, List, [], ◌∷◌, ◌++◌, length, take, drop, nat_lt, ◌==◌}
use Rattle.std.specs.Prelude.{Option, Some, None, if◌then◌else◌}
use Rattle.std.specs.Int.{w32, to_be_bytes}
use Rattle.std.specs.Option.{option_and_then, option_map}
use Rattle.cv_base.specs.declared.policy.Policy.{Policy}
use Rattle.cv_base.specs.declared.policy.Policy.TheVariants.{Substitute, Strict}
use Rattle.cv_frame.specs.Cut.{u32_at, IsBytes}

-- ---- how bodies are encoded

-- A name is encoded as one byte, its length, and then its bytes.
abbrev pub name_body : List ℕ → List ℕ
name_body name = length name ∷ name

-- `Strict` is encoded as a byte 1, and `Substitute` as no byte.
abbrev pub policy_body : Policy → List ℕ
policy_body Substitute = []
policy_body Strict = 1 ∷ []

-- OPEN has the target's name, then the source's, and then the policy.
abbrev pub open_body : List ℕ → List ℕ → Policy → List ℕ
open_body to from policy = name_body to ++ (name_body from ++ policy_body policy)

-- CONV has the descriptor's number, the room, and the input, which is the rest.
abbrev pub conv_body : ℕ → ℕ → List ℕ → List ℕ
conv_body number room input = to_be_bytes w32 number ++ (to_be_bytes w32 room ++ input)

-- RESET has the descriptor's number and the room.
abbrev pub reset_body : ℕ → ℕ → List ℕ
reset_body number room = to_be_bytes w32 number ++ to_be_bytes w32 room

-- CLOSE has the descriptor's number.
abbrev pub number_body : ℕ → List ℕ
number_body number = to_be_bytes w32 number

-- ---- how bodies are read: `None` if a body is not exactly of its form

-- the name at the start, and what follows it
abbrev pub name_at : List ℕ → Option (List ℕ × List ℕ)
name_at [] = None
name_at (n ∷ bytes) = if nat_lt (length bytes) n then None else Some (take n bytes, drop n bytes)

-- a name that nothing follows
abbrev pub name_alone : List ℕ × List ℕ → Option (List ℕ)
name_alone (name, []) = Some name
name_alone (name, b ∷ bytes) = None

-- the name in the body of a DROP
abbrev pub drop_of : List ℕ → Option (List ℕ)
drop_of body = option_and_then name_alone (name_at body)

-- the policy, by what follows the names: a byte 0 means the same as no byte
abbrev pub policy_of : List ℕ → Option Policy
policy_of [] = Some Substitute
policy_of (b ∷ []) = if b == 0 then Some Substitute else if b == 1 then Some Strict else None
policy_of (b ∷ c ∷ bytes) = None

-- What an OPEN asks for.
pub record Opening : Type 0 where
  pub to : List ℕ
  pub from : List ℕ
  pub policy : Policy

-- the target's name, the source's and the policy
unfoldable pub open_of : List ℕ → Option Opening
open_of body = option_and_then (λ to. option_and_then (λ from. option_map
    (λ policy. record { to = to.0; from = from.0; policy = policy }) (policy_of from.1)) (name_at to.1)) (name_at body)

-- the descriptor's number, the room and the input
unfoldable pub conv_of : List ℕ → Option (ℕ × ℕ × List ℕ)
conv_of body = if nat_lt (length body) 8 then None else Some (u32_at body, u32_at (drop 4 body), drop 8 body)

-- the descriptor's number and the room
unfoldable pub reset_of : List ℕ → Option (ℕ × ℕ)
reset_of body = if length body == 8 then Some (u32_at body, u32_at (drop 4 body)) else None

-- the number of 32 bits that the whole body is: a descriptor, in a CLOSE
unfoldable pub u32_of : List ℕ → Option ℕ
u32_of body = if length body == 4 then Some (u32_at body) else None

-- ---- each body that is encoded reads back, and only one other form is read

-- The body is that of this OPEN. If the policy is `Substitute`, a byte 0 may follow the names.
abbrev pub IsOpenBody : Opening → List ℕ → Type 0
IsOpenBody o body = (body ≡ open_body o.to o.from o.policy)
    ⊎ ((o.policy ≡ Substitute) × (body ≡ name_body o.to ++ (name_body o.from ++ 0 ∷ [])))

-- A body that encodes names of at most 255 bytes and numbers of 32 bits is read as these names and numbers. Conversely,
-- a body that is read is the encoding of what is read, or that of an OPEN with a byte 0 after its names.
pub record ReadBack : Type 0 where
  pub drops : (name : List ℕ) → length name ≤ 255 → drop_of (name_body name) ≡ Some name
  pub opens : (o : Opening) → length o.to ≤ 255 → length o.from ≤ 255
      → open_of (open_body o.to o.from o.policy) ≡ Some o
  pub converts : (number room : ℕ) (input : List ℕ) → number < 2 ^ 32 → room < 2 ^ 32
      → conv_of (conv_body number room input) ≡ Some (number, room, input)
  pub resets : (number room : ℕ) → number < 2 ^ 32 → room < 2 ^ 32
      → reset_of (reset_body number room) ≡ Some (number, room)
  pub closes : (number : ℕ) → number < 2 ^ 32 → u32_of (number_body number) ≡ Some number
  pub drops_only : (body name : List ℕ) → drop_of body ≡ Some name → body ≡ name_body name
  pub opens_only : (body : List ℕ) (o : Opening) → open_of body ≡ Some o → IsOpenBody o body
  pub converts_only : (body : List ℕ) (number room : ℕ) (input : List ℕ) → IsBytes body
      → conv_of body ≡ Some (number, room, input) → body ≡ conv_body number room input
  pub resets_only : (body : List ℕ) (number room : ℕ) → IsBytes body → reset_of body ≡ Some (number, room)
      → body ≡ reset_body number room
  pub closes_only : (body : List ℕ) (number : ℕ) → IsBytes body → u32_of body ≡ Some number → body ≡ number_body number
