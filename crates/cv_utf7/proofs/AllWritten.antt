-- UTF-7 has every character, and so every policy allows what it writes.
use Rattle.std.specs.Prelude.{IsSome}
use Rattle.std.proofs.Common.{ℕ, List, refl}
use Rattle.cv_base.specs.Chains.{output_for}
use Rattle.cv_base.specs.Policies.{Allows}
use Rattle.cv_base.specs.declared.policy.Policy.{Policy}
use Rattle.cv_base.specs.declared.state.WriteState.{WriteState}
use Rattle.cv_base.specs.declared.state.WriteState.TheVariants as write
use Rattle.cv_base.proofs.AllWritten.{every_allowed}
use Rattle.cv_utf7.specs.Utf7.{utf7_writes}

is_written : (t : WriteState) (c : ℕ) → IsSome (utf7_writes t c)
is_written write.Start c = refl
is_written write.Marked c = refl
is_written (write.Shifted pending) c = refl

-- what UTF-7 writes is allowed
pub utf7_allowed : (policy : Policy) (t : WriteState) (characters : List ℕ)
    → Allows policy (output_for utf7_writes t characters)
utf7_allowed policy t characters = every_allowed utf7_writes is_written policy t characters
