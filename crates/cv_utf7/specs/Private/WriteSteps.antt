-- What the steps of writing a block do.
use Rattle.std.specs.Prelude.{◌≡◌, ℕ, ◌+◌, ◌-◌, ◌*◌, ◌<◌, ◌≤◌, Option, Some, None, List, ◌++◌, take, drop, length}
use Rattle.cv_base.specs.Chains.{output_for}
use Rattle.cv_base.specs.declared.state.WriteState.{WriteState}
use Rattle.cv_utf7.specs.Utf7.{utf7_writes}
use Rattle.cv_utf7.specs.declared.write.sequences.WriteProgress.{WriteProgress}

-- a place of writing: the state, how many characters were written, and where their bytes end
abbrev pub written_to : WriteState → ℕ → ℕ → WriteProgress
written_to state n end = record { n = n; end = end; next = state }

-- The characters from one place to another were written. After their bytes, as many bytes may have been overwritten as
-- there are characters left.
pub record WritesOn (characters : List ℕ) (from : WriteProgress) (before : List ℕ) (to : WriteProgress)
    (after : List ℕ) : Type 0 where
  pub run : List ℕ
  pub are : drop from.n characters ≡ run ++ drop to.n characters
  pub counts : to.n ≡ from.n + length run
  pub within : to.n ≤ length characters
  pub count : (output_for utf7_writes from.next run).count ≡ 0
  pub next : to.next ≡ (output_for utf7_writes from.next run).next
  pub ends : to.end ≡ from.end + length (output_for utf7_writes from.next run).bytes
  pub some : from.end + length run ≤ to.end
  pub few : to.end ≤ from.end + 6 * length run
  pub fits : to.end ≤ length before
  pub stand : take to.end after ≡ take from.end before ++ (output_for utf7_writes from.next run).bytes
  pub behind : drop (to.end + (length characters - to.n)) after ≡ drop (to.end + (length characters - to.n)) before
  pub size : length after ≡ length before

-- Characters were written from a place on, or none, and the place stayed.
abbrev pub MayWriteOn : List ℕ → WriteProgress → List ℕ → Option WriteProgress → List ℕ → Type 0
MayWriteOn characters from before (Some to) after = WritesOn characters from before to after × (from.n < to.n)
MayWriteOn characters from before None after = WritesOn characters from before from after
