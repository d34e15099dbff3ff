-- UTF-8 has every character. So every policy allows what it writes.
use Rattle.std.proofs.Common.{ℕ, List, refl}
use Rattle.cv_base.specs.Chains.{output_for}
use Rattle.cv_base.specs.Policies.{Allows}
use Rattle.cv_base.specs.declared.policy.Policy.{Policy}
use Rattle.cv_base.specs.declared.state.WriteState.{WriteState}
use Rattle.cv_base.proofs.AllWritten.{every_allowed}
use Rattle.cv_utf8.specs.Utf8.{utf8_writes}

-- what UTF-8 writes is allowed
pub utf8_allowed : (policy : Policy) (t : WriteState) (characters : List ℕ)
    → Allows policy (output_for utf8_writes t characters)
utf8_allowed policy t characters = every_allowed utf8_writes (λ t c. refl) policy t characters
