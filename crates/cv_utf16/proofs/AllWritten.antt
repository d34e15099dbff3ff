-- UTF-16 and UTF-32 have every character, and so every policy allows what they write.
use Rattle.std.specs.Prelude.{IsSome}
use Rattle.std.proofs.Common.{ℕ, List, refl}
use Rattle.cv_base.specs.Chains.{output_for}
use Rattle.cv_base.specs.Policies.{Allows}
use Rattle.cv_base.specs.declared.policy.Policy.{Policy}
use Rattle.cv_base.specs.declared.state.WriteState.{WriteState}
use Rattle.cv_base.specs.declared.state.WriteState.TheVariants as write
use Rattle.cv_base.proofs.AllWritten.{every_allowed}
use Rattle.cv_utf16.specs.declared.order.Order.{Order}
use Rattle.cv_utf16.specs.declared.order.Order.TheVariants.{Be, Le, Marked}
use Rattle.cv_utf16.specs.Orders.{OrderedForm, writes_in}

in_written : (form : OrderedForm) (order : Order) (t : WriteState) (c : ℕ) → IsSome (writes_in form order t c)
in_written form Be t c = refl
in_written form Le t c = refl
in_written form Marked write.Start c = refl
in_written form Marked write.Marked c = refl
in_written form Marked (write.Shifted bits) c = refl

-- what a form writes is allowed, in each order
pub in_allowed : (form : OrderedForm) (order : Order) (policy : Policy) (t : WriteState) (characters : List ℕ)
    → Allows policy (output_for (writes_in form order) t characters)
in_allowed form order policy t characters =
    every_allowed (writes_in form order) (in_written form order) policy t characters
