-- What a policy allows, part by part.
use Rattle.std.proofs.Common.{arith}
use Rattle.cv_base.specs.declared.policy.Policy.{Policy}
use Rattle.cv_base.specs.declared.policy.Policy.TheVariants.{Substitute, Strict}
use Rattle.cv_base.specs.Chains.{Output, followed}
use Rattle.cv_base.specs.Policies.{Allows}

-- if two outputs are allowed, one after the other is allowed
pub followed_allowed : (policy : Policy) (a b : Output) → Allows policy a → Allows policy b
    → Allows policy (followed a b)
followed_allowed Substitute a b p q = tt
followed_allowed Strict a b p q = omega (arith, p, q)

-- if an output is allowed, its middle part is allowed
pub middle_allowed : (policy : Policy) (a b c : Output) → Allows policy (followed a (followed b c)) → Allows policy b
middle_allowed Substitute a b c p = tt
middle_allowed Strict a b c p = omega (arith, p)
