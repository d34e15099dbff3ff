-- A machine with one private table for each caller. What one request does is a parameter, the turn, so what is stated
-- here of runs holds for every set of operations. The machine is this project's own: no standard defines it.
use Rattle.std.specs.Prelude.{filter, ◌≡◌, ◌≢◌, ℕ, List, [], ◌∷◌, ◌++◌, ◌==◌, map, Bool, true, false, if◌then◌else◌}
use Rattle.cv_frame.specs.Message.{Message, joined, FitsFrame}
use Rattle.cv_frame.specs.Cut.{messages_of}
use Rattle.std.specs.List.{AllByRecursion}

-- The result of one request: the caller's table after it, and the status and the body of the reply.
pub record Outcome (Table : Type 0) : Type 0 where
  pub next : Table
  pub code : ℕ
  pub body : List ℕ

-- ENOMEM, the status that says that an allocation failed
abbrev pub no_memory : ℕ
no_memory = 6

-- The outcome if an allocation failed: the table is unchanged, and the body is empty.
abbrev pub lacking : {Table : Type 0} → Table → Outcome Table
lacking table = record { next = table; code = no_memory; body = [] }

-- Which outcomes a request may have, given its caller's table, its op and its body. If it takes memory, an allocation
-- failure is one of them.
abbrev pub Turn : Type 0 → Type 1
Turn Table = Table → ℕ → List ℕ → Outcome Table → Type 0

-- If the test is true, the first claim holds, and otherwise the second.
abbrev pub When : Bool → Type 0 → Type 0 → Type 0
When true Then Else = Then
When false Then Else = Else

-- At most one outcome meets a claim, besides an allocation failure, which leaves the table as it was and has no body.
pub record HasOneAnswer {Table : Type 0} (table : Table) (May : Outcome Table → Type 0) : Type 0 where
  pub one : (a b : Outcome Table) → May a → May b → a.code ≢ no_memory → b.code ≢ no_memory → a ≡ b
  pub lacks : (a : Outcome Table) → May a → a.code ≡ no_memory → a ≡ lacking table

-- Each request has one outcome at most, besides an allocation failure.
abbrev pub IsOneAnswer : {Table : Type 0} → Turn Table → Type 0
IsOneAnswer {Table} turn = (table : Table) (op : ℕ) (body : List ℕ) → HasOneAnswer table (turn table op body)

-- Each request has some outcome.
abbrev pub IsSomeAnswer : {Table : Type 0} → Turn Table → Type 0
IsSomeAnswer {Table} turn = (table : Table) (op : ℕ) (body : List ℕ)
    → (outcome : Outcome Table) × turn table op body outcome

-- a request, and the result of it
pub record Event (Table : Type 0) : Type 0 where
  pub request : Message
  pub outcome : Outcome Table

module _ {Table : Type 0} where
  -- the requests, in order
  abbrev pub requests : List (Event Table) → List Message
  requests events = map (λ e. e.request) events

  -- The reply to a request has its caller and its tag, and the status and the body of the outcome.
  abbrev pub reply_to : Event Table → Message
  reply_to e = record { caller = e.request.caller; tag = e.request.tag; code = e.outcome.code; body = e.outcome.body }

  -- the replies, in order
  abbrev pub replies_of : List (Event Table) → List Message
  replies_of events = map reply_to events

  -- the tables, one for each caller, with this one for this caller
  abbrev pub with_table : (ℕ → Table) → ℕ → Table → ℕ → Table
  with_table tables caller table = λ q. if q == caller then table else tables q

  -- An event leaves its caller the table of its outcome, and all others their own.
  abbrev pub tables_after : (ℕ → Table) → Event Table → ℕ → Table
  tables_after tables e = with_table tables e.request.caller e.outcome.next

  -- the tables after all events, in order
  abbrev pub after_all : (ℕ → Table) → List (Event Table) → ℕ → Table
  after_all tables [] = tables
  after_all tables (e ∷ events) = after_all (tables_after tables e) events

  -- Each request ended in an outcome that it may have at its caller's table, as the events before it left that table.
  abbrev pub IsRun : Turn Table → (ℕ → Table) → List (Event Table) → Type 0
  IsRun turn tables [] = Unit {0}
  IsRun turn tables (e ∷ events) = turn (tables e.request.caller) e.request.code e.request.body e.outcome
      × IsRun turn (tables_after tables e) events

  -- the events of one caller
  abbrev pub events_of : ℕ → List (Event Table) → List (Event Table)
  events_of caller events = filter (λ e. e.request.caller == caller) events

  -- One request at tables `old` may be answered by this reply and leave tables `new`. The reply has the request's
  -- caller and tag, and fits a frame. The turn may have this outcome at the caller's table, and no other caller's table
  -- changes.
  pub record Steps (turn : Turn Table) (old : ℕ → Table) (request reply : Message) (new : ℕ → Table) : Type 0 where
    pub caller : reply.caller ≡ request.caller
    pub tag : reply.tag ≡ request.tag
    pub fits : FitsFrame reply
    pub turns : turn (old request.caller) request.code request.body
        (record { next = new request.caller; code = reply.code; body = reply.body })
    pub leaves : new ≡ with_table old request.caller (new request.caller)

  -- From tables `old` these requests may be answered by these replies, in order, and leave tables `new`.
  pub record Runs (turn : Turn Table) (old : ℕ → Table) (asked told : List Message) (new : ℕ → Table) : Type 0 where
    pub events : List (Event Table)
    pub is_run : IsRun turn old events
    pub asks : requests events ≡ asked
    pub tells : told ≡ replies_of events
    pub fits : AllByRecursion FitsFrame told
    pub leaves : new ≡ after_all old events

  -- Of the requests that were asked, all but the later ones ran, from tables `old` to `new`. Their spelled replies are
  -- the written bytes and then the unwritten.
  pub record Progress (turn : Turn Table) (old : ℕ → Table) (asked later : List Message) (written unwritten : List ℕ)
      (new : ℕ → Table) : Type 0 where
    pub events : List (Event Table)
    pub is_run : IsRun turn old events
    pub asks : asked ≡ requests events ++ later
    pub fits : AllByRecursion FitsFrame (replies_of events)
    pub writes : joined (replies_of events) ≡ written ++ unwritten
    pub leaves : new ≡ after_all old events

-- for each of the replies, whether it says that an allocation failed
abbrev pub memory_failures : List Message → List Bool
memory_failures replies = map (λ r. r.code == no_memory) replies

-- none of the replies says that an allocation failed
abbrev pub NoneLacks : List Message → Type 0
NoneLacks replies = AllByRecursion (λ r. r.code ≢ no_memory) replies

-- The written bytes answer the given ones: they are the spelled replies of a run of the whole frames that were given.
pub record Answers {Table : Type 0} (turn : Turn Table) (tables : ℕ → Table) (given written : List ℕ) : Type 0 where
  pub events : List (Event Table)
  pub is_run : IsRun turn tables events
  pub asks : requests events ≡ messages_of given
  pub fits : AllByRecursion FitsFrame (replies_of events)
  pub writes : written ≡ joined (replies_of events)

-- The written bytes answer the given ones, and no reply says that an allocation failed.
abbrev pub IsServed : {Table : Type 0} → Turn Table → (ℕ → Table) → List ℕ → List ℕ → Type 0
IsServed turn tables given written = Answers turn tables given written × NoneLacks (messages_of written)

-- The written bytes begin an answer to the given ones. There is a run of all whole frames that were given. Its spelled
-- replies are the written bytes and then the unwritten ones. Its replies are the whole frames of the written bytes and
-- then the untold ones.
pub record BeginsAnswer {Table : Type 0} (turn : Turn Table) (tables : ℕ → Table)
    (given written : List ℕ) : Type 0 where
  pub events : List (Event Table)
  pub is_run : IsRun turn tables events
  pub asks : requests events ≡ messages_of given
  pub unwritten : List ℕ
  pub writes : joined (replies_of events) ≡ written ++ unwritten
  pub untold : List Message
  pub tells : replies_of events ≡ messages_of written ++ untold

-- the frames of one caller, joined
abbrev pub only : ℕ → List ℕ → List ℕ
only caller bytes = joined (filter (λ m. m.caller == caller) (messages_of bytes))
