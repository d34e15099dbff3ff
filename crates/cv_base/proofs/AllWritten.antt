-- Characters that an encoding has: `?` replaces none of them, and every policy allows what is written for them.
use Rattle.std.specs.Prelude.{IsSome}
use Rattle.std.proofs.Common.{◌≡◌, ℕ, ◌+◌, ◌<◌, ◌≤◌, List, [], ◌∷◌, length, get_or, bit_or, refl, arith, Option, Some}
use Rattle.std.proofs.Common.{None, inl, inr}
use Rattle.std.proofs.lemmas.Bool.{cases_lt, lt-ltb, false≢true}
use Rattle.std.proofs.lemmas.List.{get_or_read}
use Rattle.std.proofs.lemmas.Nat.{le_or_l, le_or_r}
use Rattle.cv_base.specs.Scalars.{question}
use Rattle.cv_base.specs.Codecs.{Writing}
use Rattle.cv_base.specs.Chains.{Output, output, put_or, substituted, written, output_for}
use Rattle.cv_base.specs.Policies.{Allows}
use Rattle.cv_base.specs.SingleBytes.{byte_writes}
use Rattle.cv_base.specs.declared.policy.Policy.{Policy}
use Rattle.cv_base.specs.declared.policy.Policy.TheVariants.{Substitute, Strict}
use Rattle.cv_base.specs.declared.state.WriteState.{WriteState}
use Rattle.cv_base.specs.declared.state.WriteState.TheVariants as write

-- Each of these characters is written in every state.
abbrev pub AreWritten : Writing → List ℕ → Type 0
AreWritten writes [] = Unit {0}
AreWritten writes (c ∷ characters) = ((t : WriteState) → IsSome (writes t c)) × AreWritten writes characters

none_for : (t : WriteState) (a b : Option (List ℕ × WriteState)) → IsSome b → (put_or (substituted t a) b).count ≡ 0
none_for t a (Some (bytes, next)) s = refl
none_for t a None s = absurd (false≢true s)

-- an output in which `?` replaces no character is allowed
pub none_allowed : (policy : Policy) (o : Output) → o.count ≡ 0 → Allows policy o
none_allowed Substitute o e = tt
none_allowed Strict o e = e

none_in : (writes : Writing) → ((t : WriteState) (c : ℕ) → IsSome (writes t c)) → (characters : List ℕ) (t : WriteState)
    → (output_for writes t characters).count ≡ 0
none_in writes p [] t = refl
none_in writes p (c ∷ characters) t =
    let first = written writes t (Some c) in
    omega (arith, none_for t (writes t question) (writes t c) (p t c), none_in writes p characters first.next)

-- what an encoding with every character writes is allowed
pub every_allowed : (writes : Writing) → ((t : WriteState) (c : ℕ) → IsSome (writes t c))
    → (policy : Policy) (t : WriteState) (characters : List ℕ) → Allows policy (output_for writes t characters)
every_allowed writes p policy t characters =
    none_allowed policy (output_for writes t characters) (none_in writes p characters t)

-- a character below the limit is one byte
pub below_written : (limit c : ℕ) → c < limit
    → written (byte_writes limit) write.Start (Some c) ≡ output (c ∷ []) 0 write.Start
below_written limit c h = rw (lt-ltb c limit h) refl

-- no character before, nor one more, is greater than the bitwise OR of all
pub any_bits_more : (characters : List ℕ) (k bits c : ℕ) → ((j : ℕ) → j < k → get_or characters j 0 ≤ bits)
    → c ≡ get_or characters k c → k < length characters → (j : ℕ) → j < k + 1 → get_or characters j 0 ≤ bit_or bits c
any_bits_more characters k bits c p e l j h = elim (cases_lt j k) [
  | inl m ↦ omega (arith, p j m, le_or_l bits c)
  | inr m ↦ (
      let is : j ≡ k = omega arith in
      let there : c ≡ get_or characters k 0 = get_or_read characters k c l e 0 in
      rw is (omega (arith, there, le_or_r bits c)))
]
