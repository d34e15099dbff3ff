-- What draining a stream does, one batch after another.
use Rattle.std.specs.Prelude.{◌≡◌, ℕ, ◌+◌, ◌<◌, ◌≤◌, true, false, not, List, [], ◌++◌, length, drop, Option, Bool}
use Rattle.std.specs.Prelude.{Result, Ok, Err}
use Rattle.std.specs.Io.KnownBytes.{Appends}
use Rattle.std.specs.List.{AllByRecursion}
use Rattle.cv_frame.specs.Message.{Message, joined, FitsFrame}
use Rattle.cv_frame.specs.Cut.{front_of}
use Rattle.cv_machine.specs.Machine.{Turn, Progress}
use Rattle.cv_frame.specs.declared.reading.Frame.TheVariants as front
use Rattle.cv_loop.specs.Serving.{saturated}
use Rattle.cv_loop.specs.declared.fault.ServeFault.{ServeFault}
use Rattle.cv_loop.specs.declared.fault.ServeFault.TheVariants as fault
use Rattle.cv_loop.specs.declared.batch.End.{End}
use Rattle.cv_loop.specs.declared.batch.End.TheVariants as ends

-- why a batch ended, by its length and the bytes after it
abbrev pub EndsBatch : End → ℕ → List ℕ → Type 0
EndsBatch ends.More used rest = 0 < used
EndsBatch ends.Partial used rest = front_of rest ≡ front.Partial
EndsBatch (ends.Bad n) used rest = front_of rest ≡ front.Bad n

-- what ran, and how much of its replies a sink took that held these bytes before and after
pub record Wrote {Table : Type 0} (turn : Turn Table) (old : ℕ → Table) (held held' : Option (List ℕ))
    (asked later : List Message) (written unwritten : List ℕ) (new : ℕ → Table) : Type 0 where
  pub took : Appends held held' written
  pub ran : Progress turn old asked later written unwritten new

-- why a batch broke off, after so many bytes were written, and whether the sink has failed
abbrev pub BreaksOff : ServeFault → ℕ → Bool → Type 0
BreaksOff (fault.Write n) written failed = (n ≡ saturated written) × (failed ≡ true)
BreaksOff fault.Memory written failed = failed ≡ false
BreaksOff fault.TruncatedFrame written failed = ⊥
BreaksOff (fault.BadLength n) written failed = ⊥
BreaksOff fault.Read written failed = ⊥
BreaksOff fault.TooManyReads written failed = ⊥

-- a batch broke off; `before` is how many bytes were written before it
pub record Broken {Table : Type 0} (turn : Turn Table) (old : ℕ → Table) (held held' : Option (List ℕ))
    (asked : List Message) (new : ℕ → Table) (before : ℕ) (f : ServeFault) (failed : Bool) : Type 0 where
  pub later : List Message
  pub written : List ℕ
  pub unwritten : List ℕ
  pub wrote : Wrote turn old held held' asked later written unwritten new
  pub why : BreaksOff f (before + length written) failed

-- all was answered and written; the count of written bytes went from `before` to `after`
pub record Answered {Table : Type 0} (turn : Turn Table) (old : ℕ → Table) (held held' : Option (List ℕ))
    (asked : List Message) (new : ℕ → Table) (before after : ℕ) : Type 0 where
  pub written : List ℕ
  pub wrote : Wrote turn old held held' asked [] written [] new
  pub counts : after ≡ saturated (before + length written)

-- the whole frames in the first `used` of these bytes were answered and written
pub record Drained {Table : Type 0} (turn : Turn Table) (old : ℕ → Table) (held held' : Option (List ℕ))
    (bytes : List ℕ) (used : ℕ) (new : ℕ → Table) (written written' served served' : ℕ) : Type 0 where
  pub asked : List Message
  pub within : used ≤ length bytes
  pub fits : AllByRecursion FitsFrame asked
  pub front : bytes ≡ joined asked ++ drop used bytes
  pub answered : Answered turn old held held' asked new written written'
  pub counts : served' ≡ saturated (served + length asked)

-- serving broke off at these requests, which `rest` follows
abbrev pub Stops : {Table : Type 0} → Turn Table → ServeFault → (ℕ → Table) → Option (List ℕ) → Option (List ℕ)
    → List Message → List ℕ → (ℕ → Table) → ℕ → Bool → Type 0
Stops turn (fault.BadLength n) old held held' asked rest new written failed =
    (after : ℕ) × Answered turn old held held' asked new written after × (front_of rest ≡ front.Bad n)
    × (failed ≡ false)
Stops turn (fault.Write n) old held held' asked rest new written failed =
    Broken turn old held held' asked new written (fault.Write n) failed
Stops turn fault.Memory old held held' asked rest new written failed =
    Broken turn old held held' asked new written fault.Memory failed
Stops turn fault.TruncatedFrame old held held' asked rest new written failed = ⊥
Stops turn fault.Read old held held' asked rest new written failed = ⊥
Stops turn fault.TooManyReads old held held' asked rest new written failed = ⊥

-- draining these bytes stopped at a fault
pub record Stopped {Table : Type 0} (turn : Turn Table) (f : ServeFault) (old : ℕ → Table)
    (held held' : Option (List ℕ)) (bytes : List ℕ) (new : ℕ → Table) (written : ℕ) (failed : Bool) : Type 0 where
  pub asked : List Message
  pub rest : List ℕ
  pub fits : AllByRecursion FitsFrame asked
  pub front : bytes ≡ joined asked ++ rest
  pub stops : Stops turn f old held held' asked rest new written failed

-- what one read brought, and what the source says after it: whether its end was reached, and whether it has failed
abbrev pub ReadsMore : Result Bool ServeFault → List ℕ → List ℕ → List ℕ → Bool → Bool → Type 0
ReadsMore (Ok more) old new bytes end failed =
    (new ≡ old ++ bytes) × (more ≡ false → bytes ≡ []) × (more ≡ true → 0 < length bytes) × (end ≡ not more)
    × (failed ≡ false)
ReadsMore (Err fault.Read) old new bytes end failed = (bytes ≡ []) × (end ≡ false) × (failed ≡ true)
ReadsMore (Err fault.Memory) old new bytes end failed = (end ≡ false) × (failed ≡ false)
ReadsMore (Err fault.TruncatedFrame) old new bytes end failed = ⊥
ReadsMore (Err (fault.BadLength n)) old new bytes end failed = ⊥
ReadsMore (Err (fault.Write n)) old new bytes end failed = ⊥
ReadsMore (Err fault.TooManyReads) old new bytes end failed = ⊥
