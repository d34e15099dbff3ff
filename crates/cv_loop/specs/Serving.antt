-- What serving a stream of frames does: which bytes answer which, when each result is returned, and what is left then.
use Rattle.std.specs.Prelude.{◌≡◌, ◌≢◌, ℕ, ◌-◌, ◌^◌, ◌≤◌, min, true, false, IsTrue, List, [], ◌++◌, length, Option}
use Rattle.std.specs.Prelude.{Some, Bool, Result, Ok, Err}
use Rattle.std.specs.Io.KnownBytes.{Appends, Consumes, IsAtEnd}
use Rattle.std.specs.List.{AllByRecursion}
use Rattle.cv_frame.specs.Message.{Message, FitsFrame}
use Rattle.cv_frame.specs.Cut.{front_of, messages_of, rest_of}
use Rattle.cv_machine.specs.Machine.{Turn, Progress, Answers, IsServed, BeginsAnswer, NoneLacks, only}
use Rattle.cv_frame.specs.declared.reading.Frame.TheVariants as front
use Rattle.cv_loop.specs.declared.fault.ServeFault.{ServeFault}
use Rattle.cv_loop.specs.declared.fault.ServeFault.TheVariants as fault
use Rattle.cv_loop.specs.declared.serving.Served.{Served}

-- ---- what was given, and what was written

-- A source whose bytes are known gave these.
abbrev pub Gave : Option (List ℕ) → Option (List ℕ) → List ℕ → Type 0
Gave left left' given = (rest : List ℕ) × (left ≡ Some (given ++ rest)) × (left' ≡ Some rest)

-- A sink whose bytes are known took these.
abbrev pub Took : Option (List ℕ) → Option (List ℕ) → List ℕ → Type 0
Took held held' written = (before : List ℕ) × (held ≡ Some before) × (held' ≡ Some (before ++ written))

-- The written bytes answer the given ones. For each caller alone, its written frames answer its given frames.
pub record AnswersEach {Table : Type 0} (turn : Turn Table) (tables : ℕ → Table) (given written : List ℕ) : Type 0 where
  pub all : Answers turn tables given written
  pub each : (caller : ℕ) → Answers turn tables (only caller given) (only caller written)

-- The same, and no reply says that an allocation failed.
pub record ServesEach {Table : Type 0} (turn : Turn Table) (tables : ℕ → Table) (given written : List ℕ) : Type 0 where
  pub all : IsServed turn tables given written
  pub each : (caller : ℕ) → IsServed turn tables (only caller given) (only caller written)

-- ---- when each result is returned

-- How serving ended: the stream ended; a read failed; a write failed, or took nothing; an allocation failed; or
-- otherwise, at a bad length or after the greatest number of reads.
pub data Ending : Type 0 where
  StreamEnded : Ending
  ReadFailed : Ending
  WriteFailed : Ending
  MemoryLacked : Ending
  Otherwise : Ending

abbrev pub ending_of : Result Served ServeFault → Ending
ending_of (Ok served) = StreamEnded
ending_of (Err fault.TruncatedFrame) = StreamEnded
ending_of (Err (fault.BadLength n)) = Otherwise
ending_of (Err fault.Read) = ReadFailed
ending_of (Err (fault.Write n)) = WriteFailed
ending_of (Err fault.TooManyReads) = Otherwise
ending_of (Err fault.Memory) = MemoryLacked

abbrev pub met_the_end : Ending → Bool
met_the_end StreamEnded = true
met_the_end other = false

abbrev pub read_failed : Ending → Bool
read_failed ReadFailed = true
read_failed other = false

abbrev pub write_failed : Ending → Bool
write_failed WriteFailed = true
write_failed other = false

-- Serving was not broken off by a write or by an allocation that failed.
abbrev pub IsUnbroken : Ending → Type 0
IsUnbroken WriteFailed = ⊥
IsUnbroken MemoryLacked = ⊥
IsUnbroken other = Unit {0}

-- What the source and the sink say then. The end was reached, a read failed or a write failed, if and only if that
-- ended serving. At the end no byte is left in a source whose bytes are known. At most `max_reads` pulls were made.
pub record EndsSay (ending : Ending) (end reading writing : Bool) (left : Option (List ℕ))
    (pulls max_reads : ℕ) : Type 0 where
  pub met_end : end ≡ met_the_end ending
  pub none_left : IsTrue (met_the_end ending) → IsAtEnd left
  pub read_failed : reading ≡ read_failed ending
  pub write_failed : writing ≡ write_failed ending
  pub reads : pulls ≤ max_reads

-- A count in a u64, which saturates.
abbrev pub saturated : ℕ → ℕ
saturated n = min n (2 ^ 64 - 1)

-- When each result is returned: by the whole frames of what was given, the rest after them, the bytes that were
-- written, and the number of pulls.
abbrev pub EndsWhere : Result Served ServeFault → List Message → List ℕ → List ℕ → ℕ → ℕ → Type 0
EndsWhere (Ok served) frames rest written pulls max_reads = (rest ≡ []) × (served.requests ≡ saturated (length frames))
EndsWhere (Err fault.TruncatedFrame) frames rest written pulls max_reads = (rest ≢ []) × (front_of rest ≡ front.Partial)
EndsWhere (Err (fault.BadLength n)) frames rest written pulls max_reads = front_of rest ≡ front.Bad n
EndsWhere (Err fault.Read) frames rest written pulls max_reads = front_of rest ≡ front.Partial
EndsWhere (Err (fault.Write n)) frames rest written pulls max_reads = n ≡ saturated (length written)
EndsWhere (Err fault.TooManyReads) frames rest written pulls max_reads = (front_of rest ≡ front.Partial)
    × (pulls ≡ max_reads)
EndsWhere (Err fault.Memory) frames rest written pulls max_reads = Unit {0}

-- The headline, of the bytes that were given and those that were written. Unless a write or an allocation that failed
-- broke serving off, the written bytes answer the given ones, and for each caller alone its written frames answer its
-- given frames. If, besides, no reply says that an allocation failed, they are what is served for the given bytes.
-- However serving ended, they begin an answer to all that was given.
pub record IsHeadline {Table : Type 0} (turn : Turn Table) (ending : Ending) (tables : ℕ → Table)
    (given written : List ℕ) : Type 0 where
  pub answered : IsUnbroken ending → AnswersEach turn tables given written
  pub served : IsUnbroken ending → NoneLacks (messages_of written) → ServesEach turn tables given written
  pub begun : BeginsAnswer turn tables given written

-- What serving bytes in memory did, from these tables. Their first bytes were given, and all of them if the end was
-- reached. The headline holds of what was given, and the result is the one that `EndsWhere` says for it.
pub record ServesFront {Table : Type 0} (turn : Turn Table) (result : Result Served ServeFault) (tables : ℕ → Table)
    (frames written : List ℕ) (max_reads : ℕ) : Type 0 where
  pub given : List ℕ
  pub rest : List ℕ
  pub front : frames ≡ given ++ rest
  pub all : IsTrue (met_the_end (ending_of result)) → rest ≡ []
  pub headline : IsHeadline turn (ending_of result) tables given written
  -- the number of pulls
  pub pulls : ℕ
  pub ends : EndsWhere result (messages_of given) (rest_of given) written pulls max_reads

-- All whole frames of what was given ran and fit frames, and all of their replies were written.
pub record IsAll (given : List ℕ) (later : List Message) (unwritten : List ℕ) : Type 0 where
  pub ran : later ≡ []
  pub wrote : unwritten ≡ []
  pub fits : AllByRecursion FitsFrame (messages_of given)

-- What serving a stream did, from the tables `old` to `new`.
pub record Serving {Table : Type 0} (turn : Turn Table) (result : Result Served ServeFault) (old new : ℕ → Table)
    (left left' held held' : Option (List ℕ)) (pulls max_reads : ℕ) : Type 0 where
  -- what the source gave
  pub given : List ℕ
  pub gave : Consumes left left' given
  -- what the sink took
  pub written : List ℕ
  pub took : Appends held held' written
  -- All whole frames but the `later` ones ran, and left the new tables. Their replies were written, except the
  -- `unwritten` end.
  pub later : List Message
  pub unwritten : List ℕ
  pub ran : Progress turn old (messages_of given) later written unwritten new
  -- no frame is `later` and nothing is `unwritten`, unless a write or an allocation that failed broke serving off
  pub all : IsUnbroken (ending_of result) → IsAll given later unwritten
  pub ends : EndsWhere result (messages_of given) (rest_of given) written pulls max_reads
  -- `TooManyReads` is returned only if each of the `max_reads` pulls brought a byte.
  pub enough : result ≡ Err fault.TooManyReads → max_reads ≤ length given
