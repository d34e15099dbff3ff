-- Feeds: the calls of a caller's descriptor along a run, since it was opened or reset. Their law: the result does not
-- depend on how the text and the room were divided among the calls (POSIX iconv()).
use Rattle.std.specs.Prelude.{◌≡◌, ◌==◌, ◌&&◌, ◌⊎◌, ◌≤◌, ℕ, Bool, false, List, [], ◌∷◌, ◌++◌, length, drop, Option}
use Rattle.std.specs.Prelude.{Some, None, if◌then◌else◌}
use Rattle.std.specs.List.{AllByRecursion}
use Rattle.cv_pivot.specs.Conversions.{start}
use Rattle.cv_pivot.specs.Cuts.{Call, IsFeed, IsFed, Total, total, EndsIll, EndsLacking, IsFront}
use Rattle.cv_pivot.specs.Encodings.{Form, form_reads, form_writes}
use Rattle.cv_pivot.specs.declared.outcome.States.{States}
use Rattle.cv_pivot.specs.declared.outcome.Stop.{Stop}
use Rattle.cv_pivot.specs.declared.outcome.Stop.TheVariants as stop
use Rattle.cv_caller.specs.Tables.{Table, Named, Descriptor, descriptor_at, form_in}
use Rattle.cv_machine.specs.Machine.{Outcome, Event, requests, events_of, after_all, IsRun}
use Rattle.cv_frame.specs.Cut.{u32_at, messages_of}
use Rattle.cv_frame.specs.Bodies.{u32_of}
use Rattle.cv_frame.specs.Status.{status_number}
use Rattle.cv_frame.specs.Sizes.{most_body}
use Rattle.cv_frame.specs.declared.status.Status.TheVariants as status
use Rattle.cv_world.specs.Actions.{Action, Open, Conv, Reset, Close, Bye}
use Rattle.cv_world.specs.Answers.{stop_status}
use Rattle.cv_world.specs.Requests.{action_of, turn}
use Rattle.cv_world.specs.Worlds.{no_tables}

-- ---- what replies say

-- whether a reply is OK
abbrev pub is_ok : Outcome Table → Bool
is_ok outcome = outcome.code == status_number status.Ok

-- whether the status of a reply is that of a conversion which stopped so
abbrev pub is_stop : Stop → ℕ → Bool
is_stop why code = code == status_number (stop_status why)

-- why a conversion stopped, by the status of its reply; every other status refuses it
abbrev pub stop_of : ℕ → Option Stop
stop_of code =
    if is_stop stop.Done code then Some stop.Done else
    if is_stop stop.TooBig code then Some stop.TooBig else
    if is_stop stop.Ill code then Some stop.Ill else
    if is_stop stop.Incomplete code then Some stop.Incomplete else
    if is_stop stop.Lacking code then Some stop.Lacking else None

-- whether there is a number, and it is this one
abbrev pub is_number : ℕ → Option ℕ → Bool
is_number number (Some other) = other == number
is_number number None = false

-- the states of a descriptor, or the start if the number is free
abbrev pub states_of : Option Descriptor → States
states_of (Some descriptor) = descriptor.states
states_of None = start

-- A call. It has what was asked, the states of the number after it, and from the body of the reply the number of bytes
-- left, how many characters `?` replaces, and the output.
abbrev pub call_of : ℕ → ℕ → List ℕ → Stop → Outcome Table → Call
call_of number room input why outcome = record {
  input = input;
  room = room;
  came = record {
    left = u32_at outcome.body;
    count = u32_at (drop 4 outcome.body);
    stop = why;
    output = drop 8 outcome.body;
    states = states_of (descriptor_at outcome.next number);
  };
}

-- ---- feeds

-- A conversion that stopped adds one call.
abbrev pub with_stop : ℕ → ℕ → List ℕ → List Call → Outcome Table → Option Stop → List Call
with_stop number room input calls outcome (Some why) = calls ++ call_of number room input why outcome ∷ []
with_stop number room input calls outcome None = calls

-- The calls of a number after one more request of its caller. There are none after an OPEN that returns the number, a
-- RESET or a CLOSE of it, or a BYE, if these are OK. A CONV of it that stopped adds one. Every other request and every
-- other answer leaves them unchanged.
abbrev pub calls_after : ℕ → List Call → Action → Outcome Table → List Call
calls_after number calls (Open to from policy) outcome =
    if is_ok outcome && is_number number (u32_of outcome.body) then [] else calls
calls_after number calls (Conv n room input) outcome =
    if n == number then with_stop number room input calls outcome (stop_of outcome.code) else calls
calls_after number calls (Reset n room) outcome = if is_ok outcome && n == number then [] else calls
calls_after number calls (Close n) outcome = if is_ok outcome && n == number then [] else calls
calls_after number calls Bye outcome = if is_ok outcome then [] else calls
calls_after number calls other outcome = calls

-- the calls of a number along events of its caller, after these calls
abbrev pub calls_along : ℕ → List Call → List (Event Table) → List Call
calls_along number calls [] = calls
calls_along number calls (e ∷ events) =
    calls_along number (calls_after number calls (action_of e.request.code e.request.body) e.outcome) events

-- The body of each request fits a frame.
abbrev pub BodiesFit : List (Event Table) → Type 0
BodiesFit events = AllByRecursion (λ e. length e.request.body ≤ most_body) events

-- A feed: an open descriptor of a caller, after a run from empty tables, of requests that fit frames.
pub record Feed : Type 0 where
  pub events : List (Event Table)
  pub is_run : IsRun turn no_tables events
  pub fits : BodiesFit events
  pub caller : ℕ
  pub number : ℕ
  pub descriptor : Descriptor
  pub is_open : descriptor_at (after_all no_tables events caller) number ≡ Some descriptor

-- the calls of a feed: those of its number along its caller's events, whatever events of others are between these
abbrev pub calls_of : Feed → List Call
calls_of feed = calls_along feed.number [] (events_of feed.caller feed.events)

-- the combined result of a feed's calls
abbrev pub came_of : Feed → Total
came_of feed = total start (calls_of feed)

-- the form of an encoding of a feed's caller after the run
abbrev pub form_after : Feed → Named → Form
form_after feed named = form_in (after_all no_tables feed.events feed.caller).charmaps named

-- the encoding that a feed reads
abbrev pub feed_source : Feed → Form
feed_source feed = form_after feed feed.descriptor.from

-- the encoding that a feed writes
abbrev pub feed_target : Feed → Form
feed_target feed = form_after feed feed.descriptor.to

-- Two feeds have the same encodings and the same policy. Charmaps with the same list are the same encoding.
pub record AreAlike (a b : Feed) : Type 0 where
  pub source : feed_source a ≡ feed_source b
  pub target : feed_target a ≡ feed_target b
  pub policy : a.descriptor.policy ≡ b.descriptor.policy

-- Each call of a feed is a conversion from the states that the call before left, and the last call left those of the
-- descriptor. So a feed of one text converts the first items of the text. Two feeds that are alike and used the same
-- number of bytes of one text have the same result, whatever their callers, numbers and runs are. Two feeds of one text
-- that are alike used the same number of bytes of it, if both ended at ill-formed bytes or both at a character that the
-- target lacks. The requests of a stream's whole frames fit frames.
pub record Feeds : Type 0 where
  pub conversions : (feed : Feed) → IsFeed (form_reads (feed_source feed))
      (form_writes (feed_target feed)) feed.descriptor.policy start (calls_of feed)
  pub states : (feed : Feed) → (came_of feed).states ≡ feed.descriptor.states
  pub front : (feed : Feed) (text : List ℕ) → IsFed text (calls_of feed)
      → IsFront (form_reads (feed_source feed)) (form_writes (feed_target feed)) start text (came_of feed)
  pub same : (a b : Feed) (text : List ℕ) → AreAlike a b → IsFed text (calls_of a) → IsFed text (calls_of b)
      → (came_of a).used ≡ (came_of b).used → came_of a ≡ came_of b
  pub same_end : (a b : Feed) (text : List ℕ) → AreAlike a b → IsFed text (calls_of a) → IsFed text (calls_of b)
      → (EndsIll (calls_of a) × EndsIll (calls_of b)) ⊎ (EndsLacking (calls_of a) × EndsLacking (calls_of b))
      → (came_of a).used ≡ (came_of b).used
  pub frames : (given : List ℕ) (events : List (Event Table)) → requests events ≡ messages_of given → BodiesFit events
