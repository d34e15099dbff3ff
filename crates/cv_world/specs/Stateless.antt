-- Conversions between encodings without marks and shifts: a CONV depends on its own input alone (POSIX iconv() calls
-- other encodings state-dependent).
use Rattle.std.specs.Prelude.{◌≡◌, ℕ, List, Some}
use Rattle.cv_pivot.specs.Conversions.{start}
use Rattle.cv_pivot.specs.Stateless.{IsStateless}
use Rattle.cv_caller.specs.Tables.{Table}
use Rattle.cv_machine.specs.Machine.{Outcome, after_all}
use Rattle.cv_frame.specs.Bodies.{conv_of}
use Rattle.cv_frame.specs.Ops.{op_conv}
use Rattle.cv_world.specs.Feeds.{Feed, feed_source, feed_target}
use Rattle.cv_world.specs.Requests.{turn}
use Rattle.cv_world.specs.Worlds.{no_tables}

-- the table of a feed's caller after the run
abbrev pub feed_table : Feed → Table
feed_table feed = after_all no_tables feed.events feed.caller

-- After every run a descriptor between stateless encodings is at its start, and a CONV of it leaves its caller's table
-- unchanged. So the answer to a CONV depends on its own room and input alone, whatever the descriptor converted before,
-- and for whom.
pub record Stateless : Type 0 where
  pub at_start : (feed : Feed) → IsStateless (feed_source feed) → IsStateless (feed_target feed)
      → feed.descriptor.states ≡ start
  pub leaves : (feed : Feed) → IsStateless (feed_source feed) → IsStateless (feed_target feed) → (body : List ℕ)
      (room : ℕ) (input : List ℕ) → conv_of body ≡ Some (feed.number, room, input) → (outcome : Outcome Table)
      → turn (feed_table feed) op_conv body outcome → outcome.next ≡ feed_table feed
