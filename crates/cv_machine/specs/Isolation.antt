-- Isolation: the replies to a caller depend only on its own table and requests, and on which of these got ENOMEM. These
-- are the statements, with the turn as a parameter.
use Rattle.std.specs.Prelude.{filter, ◌≡◌, ℕ, List, ◌==◌}
use Rattle.cv_frame.specs.Message.{Message}
use Rattle.cv_frame.specs.Cut.{messages_of}
use Rattle.cv_machine.specs.Machine.{Turn, Event, requests, replies_of, after_all, events_of, memory_failures, IsRun}
use Rattle.cv_machine.specs.Machine.{Answers, IsServed}

module _ {Table : Type 0} where
  -- the replies to one caller
  abbrev pub replies_to : ℕ → List (Event Table) → List Message
  replies_to caller events = filter (λ m. m.caller == caller) (replies_of events)

  -- Two answers to one byte string are the same if the same replies in both say that an allocation failed.
  abbrev pub OneWriting : Turn Table → Type 0
  OneWriting turn = (tables : ℕ → Table) (given written others : List ℕ) → Answers turn tables given written
      → Answers turn tables given others
      → memory_failures (messages_of written) ≡ memory_failures (messages_of others) → written ≡ others

  -- A byte string has at most one answer in which no reply says that an allocation failed.
  abbrev pub OneService : Turn Table → Type 0
  OneService turn = (tables : ℕ → Table) (given written others : List ℕ) → IsServed turn tables given written
      → IsServed turn tables given others → written ≡ others

  -- Two runs in which a caller begins with the same table and sends the same requests, and allocations fail for the
  -- same of them. Then the caller gets the same replies, and has the same table in the end, whatever all other callers
  -- do.
  abbrev pub TwoWorlds : Turn Table → Type 0
  TwoWorlds turn = (caller : ℕ) (here there : ℕ → Table) (events others : List (Event Table)) → IsRun turn here events
      → IsRun turn there others
      → here caller ≡ there caller → requests (events_of caller events) ≡ requests (events_of caller others)
      → memory_failures (replies_to caller events) ≡ memory_failures (replies_to caller others) → (replies_to caller
      events ≡ replies_to caller others) × (after_all here events caller ≡ after_all there others caller)

  -- Two runs from the same tables in which each caller sends the same requests, and allocations fail for the same of
  -- them. In whatever order the requests of different callers interleave, each caller gets the same replies, and has
  -- the same table in the end.
  abbrev pub AnySchedule : Turn Table → Type 0
  AnySchedule turn = (tables : ℕ → Table) (events others : List (Event Table)) → IsRun turn tables events
      → IsRun turn tables others
      → ((caller : ℕ) → requests (events_of caller events) ≡ requests (events_of caller others)) → ((caller : ℕ)
      → memory_failures (replies_to caller events) ≡ memory_failures (replies_to caller others)) → ((caller : ℕ)
      → replies_to caller events ≡ replies_to caller others) × (after_all tables events ≡ after_all tables others)

  -- A run in which a caller begins with the same table as in these tables, and has the same events as among these.
  pub record IsPart (turn : Turn Table) (tables : ℕ → Table) (events : List (Event Table)) (caller : ℕ) : Type 0 where
    pub begins : ℕ → Table
    pub ran : List (Event Table)
    pub is_run : IsRun turn begins ran
    pub same_table : begins caller ≡ tables caller
    pub same_events : events_of caller ran ≡ events_of caller events

  -- If each caller's events are those of some run, all events are a run, which leaves each caller the table that its
  -- run left. So runs of parts of the callers are together one run, in whatever order their events interleave.
  abbrev pub AnyMerge : Turn Table → Type 0
  AnyMerge turn = (tables : ℕ → Table) (events : List (Event Table)) → ((caller : ℕ) → IsPart turn tables events caller)
      → IsRun turn tables events × ((caller : ℕ) (p : IsPart turn tables events caller)
      → after_all tables events caller ≡ after_all p.begins p.ran caller)
