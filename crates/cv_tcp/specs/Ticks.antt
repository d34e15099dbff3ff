-- What a read that a drain may end does.
use Rattle.std.specs.Prelude.{◌≡◌, ◌<◌, ℕ, List, length, take, Option, Result, MatchResult}
use Rattle.std.specs.Io.KnownBytes.{Consumes, Keeps, IsAtEnd}
use Rattle.cv_tcp.specs.declared.ticking.EndedBy.{EndedBy}
use Rattle.cv_tcp.specs.declared.ticking.EndedBy.TheVariants.{Client}

-- If no drain ended the stream, a read of 0 bytes into a buffer with room means the end of its bytes.
abbrev pub EndsReading : Option (List ℕ) → ℕ → List ℕ → EndedBy → Type 0
EndsReading new n buf by = n ≡ 0 → 0 < length buf → by ≡ Client → IsAtEnd new

-- No byte is lost, and an end that no drain made is the client's.
abbrev pub ReadsOn : {E : Type 0} → Option (List ℕ) → Option (List ℕ) → Result ℕ E → List ℕ → EndedBy → Type 0
ReadsOn old new r buf by =
    MatchResult r (λ n. Consumes old new (take n buf) × EndsReading new n buf by) (λ _. Keeps old new)
