-- Bodies that were encoded are read back; one other form of OPEN is read too, and nothing else.
use Rattle.std.proofs.Common.{◌≡◌, ℕ, ◌^◌, ◌<◌, ◌≤◌, false, eqb, ltb, List, [], ◌∷◌, ◌++◌, length, take, drop, refl}
use Rattle.std.proofs.Common.{sym, ap, ◌∙◌, arith, ◌⊎◌, inl, inr, subst, length-append, Option, Some, None}
use Rattle.std.specs.Int.{w32, to_be_bytes}
use Rattle.std.specs.Option.{option_and_then, option_map}
use Rattle.std.proofs.lemmas.Bool.{ltb-false, le-ltb, eqb-true}
use Rattle.std.proofs.lemmas.List.{take_at, drop_at, take_all, append-nil, take-append-drop, length-take, length-drop}
use Rattle.std.proofs.lemmas.List.{drop-drop}
use Rattle.std.proofs.lemmas.Nat.{from_be_bytes-to_be_bytes_4}
use Rattle.cv_frame.specs.Cut.{u32_at, IsBytes}
use Rattle.cv_frame.specs.Bodies.{name_body, name_at, name_alone, drop_of, policy_body, policy_of, Opening, IsOpenBody}
use Rattle.cv_frame.specs.Bodies.{open_body, conv_body, number_body, reset_body, open_of, conv_of, u32_of, reset_of}
use Rattle.cv_frame.specs.Bodies.{ReadBack}
use Rattle.cv_base.specs.declared.policy.Policy.{Policy}
use Rattle.cv_base.specs.declared.policy.Policy.TheVariants.{Substitute, Strict}
use Rattle.cv_frame.proofs.Cuts.{chosen, IsBytes-drop, number_spelled}

name_back : (name rest : List ℕ) → name_at (name_body name ++ rest) ≡ Some (name, rest)
name_back name rest =
    let long : ltb (length (name ++ rest)) (length name) ≡ false =
    le-ltb _ _ (omega (arith, length-append name rest)) in
    rw (long, take_at name rest (length name) refl, drop_at name rest (length name) refl) refl

drop_back : (name : List ℕ) → length name ≤ 255 → drop_of (name_body name) ≡ Some name
drop_back name _ =
    let front : name_at (name_body name) ≡ Some (name, []) =
    ap (λ (x : List ℕ). name_at (length name ∷ x)) (sym (append-nil name)) ∙ name_back name [] in
    ap (option_and_then name_alone) front

policy_back : (policy : Policy) → policy_of (policy_body policy) ≡ Some policy
policy_back Substitute = refl
policy_back Strict = refl

open_back : (o : Opening) → length o.to ≤ 255 → length o.from ≤ 255 → open_of (open_body o.to o.from o.policy) ≡ Some o
unfolding open_of
open_back o _ _ = rw (
  name_back o.to (name_body o.from ++ policy_body o.policy),
  name_back o.from (policy_body o.policy),
  policy_back o.policy,
) refl

conv_back : (number room : ℕ) (input : List ℕ) → number < 2 ^ 32 → room < 2 ^ 32
    → conv_of (conv_body number room input) ≡ Some (number, room, input)
unfolding conv_of
conv_back number room input n r =
    let long : ltb (length (conv_body number room input)) 8 ≡ false = le-ltb _ _ (omega arith) in
    rw (long, from_be_bytes-to_be_bytes_4 number n, from_be_bytes-to_be_bytes_4 room r) refl

reset_back : (number room : ℕ) → number < 2 ^ 32 → room < 2 ^ 32
    → reset_of (reset_body number room) ≡ Some (number, room)
unfolding reset_of
reset_back number room n r = rw (from_be_bytes-to_be_bytes_4 number n, from_be_bytes-to_be_bytes_4 room r) refl

number_back : (number : ℕ) → number < 2 ^ 32 → u32_of (number_body number) ≡ Some number
unfolding u32_of
number_back number n = ap Some (from_be_bytes-to_be_bytes_4 number n)

-- ---- a body that is read is the encoding of what is read

-- what is read as a name and a rest is that name, encoded, and that rest
name_only : (bytes name rest : List ℕ) → name_at bytes ≡ Some (name, rest) → bytes ≡ name_body name ++ rest
name_only [] name rest e = absurd cc
name_only (n ∷ bytes) name rest e =
    elim (chosen (ltb (length bytes) n) _ _ _ e) [
      | inl p ↦ absurd (let h = p.1 in cc)
      | inr p ↦
          let pair : Some (take n bytes, drop n bytes) ≡ Some (name, rest) = p.1 in
          let both : ◌≡◌ {A = List ℕ × List ℕ} (take n bytes, drop n bytes) (name, rest) = cc in
          let is : take n bytes ≡ name = ap (λ (x : List ℕ × List ℕ). x.0) both in
          let over : drop n bytes ≡ rest = ap (λ (x : List ℕ × List ℕ). x.1) both in
          let size : length name ≡ n = sym (ap length is)
          ∙ (let h : n ≤ length bytes = ltb-false _ _ p.0 in omega (arith, length-take n bytes)) in
          rw (size, ← is, ← over) (ap (λ (x : List ℕ). n ∷ x) (sym (take-append-drop n bytes)))
    ]

policy_only : (bytes : List ℕ) (policy : Policy) → policy_of bytes ≡ Some policy
    → (bytes ≡ policy_body policy) ⊎ ((policy ≡ Substitute) × (bytes ≡ 0 ∷ []))
policy_only [] policy e =
    let is : Substitute ≡ policy = cc in inl (ap policy_body is)
policy_only (b ∷ []) policy e =
    elim (chosen (eqb b 0) _ _ _ e) [
      | inl p ↦
          let is : Substitute ≡ policy = (let h = p.1 in cc) in
          inr (sym is, ap (λ (x : ℕ). x ∷ []) (eqb-true _ _ p.0))
      | inr p ↦ elim (chosen (eqb b 1) _ _ _ p.1) [
        | inl q ↦
            let is : Strict ≡ policy = (let h = q.1 in cc) in
            inl (ap (λ (x : ℕ). x ∷ []) (eqb-true _ _ q.0) ∙ ap policy_body is)
        | inr q ↦ absurd (let h = q.1 in cc)
      ]
    ]
policy_only (b ∷ c ∷ bytes) policy e = absurd cc

mapped : {A B : Type 0} (f : A → B) (o : Option A) (y : B) → option_map f o ≡ Some y
    → (x : A) × (o ≡ Some x) × (f x ≡ y)
mapped f (Some x) y e = (x, refl, cc)
mapped f None y e = absurd cc

bound : {A B : Type 0} (f : A → Option B) (o : Option A) (y : B) → option_and_then f o ≡ Some y
    → (x : A) × (o ≡ Some x) × (f x ≡ Some y)
bound f (Some x) y e = (x, refl, e)
bound f None y e = absurd cc

alone_only : (taken : List ℕ × List ℕ) (name : List ℕ) → name_alone taken ≡ Some name → taken ≡ (name, [])
alone_only (taken, []) name e =
    let is : taken ≡ name = cc in
    ap (λ (x : List ℕ). (x, [])) is
alone_only (taken, b ∷ bytes) name e = absurd cc

-- what is read as a name alone is that name, encoded
pub drop_only : (body name : List ℕ) → drop_of body ≡ Some name → body ≡ name_body name
drop_only body name e =
    let taken = bound name_alone (name_at body) name e in
    let front : name_at body ≡ Some (name, []) = taken.1 ∙ ap Some (alone_only taken.0 name taken.2) in
    name_only body name [] front ∙ append-nil (name_body name)

open_only : (body : List ℕ) (o : Opening) → open_of body ≡ Some o → IsOpenBody o body
unfolding open_of
open_only body o e =
    let first = bound _ (name_at body) o e in
    let second = bound _ (name_at first.0.1) o first.2 in
    let third = mapped _ (policy_of second.0.1) o second.2 in
    let from : first.0.1 ≡ name_body second.0.0 ++ second.0.1 = name_only first.0.1 second.0.0 second.0.1 second.1 in
    let names : body ≡ name_body first.0.0 ++ (name_body second.0.0 ++ second.0.1) =
    name_only body first.0.0 first.0.1 first.1 ∙ ap (λ (x : List ℕ). name_body first.0.0 ++ x) from in
    let behind : List ℕ → List ℕ = λ x. name_body first.0.0 ++ (name_body second.0.0 ++ x) in
    subst (λ (x : Opening). IsOpenBody x body) third.2 (elim (policy_only second.0.1 third.0 third.1) [
      | inl p ↦ inl (names ∙ ap behind p)
      | inr p ↦ inr (p.0, names ∙ ap behind p.1)
    ])

-- the first eight bytes as two numbers, and the rest
two_parts : (body : List ℕ) → body ≡ take 4 body ++ (take 4 (drop 4 body) ++ drop 8 body)
two_parts body =
    let rest : drop 4 body ≡ take 4 (drop 4 body) ++ drop 8 body = sym (take-append-drop 4 (drop 4 body))
    ∙ ap (λ (x : List ℕ). take 4 (drop 4 body) ++ x) (drop-drop 4 4 body) in
    sym (take-append-drop 4 body) ∙ ap (λ (x : List ℕ). take 4 body ++ x) rest

conv_only : (body : List ℕ) (number room : ℕ) (input : List ℕ) → IsBytes body
    → conv_of body ≡ Some (number, room, input) → body ≡ conv_body number room input
unfolding conv_of
conv_only body number room input fits e =
    elim (chosen (ltb (length body) 8) _ _ _ e) [
      | inl p ↦ absurd (let h = p.1 in cc)
      | inr p ↦
          let long : 8 ≤ length body = ltb-false _ _ p.0 in
          let fields : Some (u32_at body, u32_at (drop 4 body), drop 8 body) ≡ Some (number, room, input) = p.1 in
          let all : ◌≡◌ {A = ℕ × ℕ × List ℕ} (u32_at body, u32_at (drop 4 body), drop 8 body) (number, room, input) =
          cc in
          let n : u32_at body ≡ number = ap (λ (x : ℕ × ℕ × List ℕ). x.0) all in
          let r : u32_at (drop 4 body) ≡ room = ap (λ (x : ℕ × ℕ × List ℕ). x.1) all in
          let i : drop 8 body ≡ input = ap (λ (x : ℕ × ℕ × List ℕ). x.2) all in
          let first : take 4 body ≡ to_be_bytes w32 number = sym (number_spelled body (omega arith) fits)
          ∙ ap (to_be_bytes w32) n in
          let second : take 4 (drop 4 body) ≡ to_be_bytes w32 room = sym (number_spelled (drop 4 body)
          (omega (arith, length-drop 4 body)) (IsBytes-drop 4 body fits)) ∙ ap (to_be_bytes w32) r in
          two_parts body
          ∙ ap (λ (x : List ℕ). x ++ (take 4 (drop 4 body) ++ drop 8 body)) first
          ∙ ap (λ (x : List ℕ). to_be_bytes w32 number ++ (x ++ drop 8 body)) second
          ∙ ap (λ (x : List ℕ). conv_body number room x) i
    ]

reset_only : (body : List ℕ) (number room : ℕ) → IsBytes body → reset_of body ≡ Some (number, room)
    → body ≡ reset_body number room
unfolding reset_of
reset_only body number room fits e =
    elim (chosen (eqb (length body) 8) _ _ _ e) [
      | inl p ↦
          let long : length body ≡ 8 = eqb-true _ _ p.0 in
          let fields : Some (u32_at body, u32_at (drop 4 body)) ≡ Some (number, room) = p.1 in
          let both : ◌≡◌ {A = ℕ × ℕ} (u32_at body, u32_at (drop 4 body)) (number, room) = cc in
          let n : u32_at body ≡ number = ap (λ (x : ℕ × ℕ). x.0) both in
          let r : u32_at (drop 4 body) ≡ room = ap (λ (x : ℕ × ℕ). x.1) both in
          let last : take 4 (drop 4 body) ≡ drop 4 body =
          take_all 4 (drop 4 body) (omega (arith, length-drop 4 body)) in
          let first : take 4 body ≡ to_be_bytes w32 number = sym (number_spelled body (omega arith) fits)
          ∙ ap (to_be_bytes w32) n in
          let second : drop 4 body ≡ to_be_bytes w32 room = sym last ∙ sym (number_spelled (drop 4 body)
          (omega (arith, length-drop 4 body)) (IsBytes-drop 4 body fits)) ∙ ap (to_be_bytes w32) r in
          sym (take-append-drop 4 body) ∙ ap (λ (x : List ℕ). x ++ drop 4 body) first
          ∙ ap (λ (x : List ℕ). to_be_bytes w32 number ++ x) second
      | inr p ↦ absurd (let h = p.1 in cc)
    ]

number_only : (body : List ℕ) (number : ℕ) → IsBytes body → u32_of body ≡ Some number → body ≡ number_body number
unfolding u32_of
number_only body number fits e =
    elim (chosen (eqb (length body) 4) _ _ _ e) [
      | inl p ↦
          let long : length body ≡ 4 = eqb-true _ _ p.0 in
          let field : Some (u32_at body) ≡ Some number = p.1 in
          let n : u32_at body ≡ number = cc in
          sym (take_all 4 body (omega arith)) ∙ sym (number_spelled body (omega arith) fits) ∙ ap (to_be_bytes w32) n
      | inr p ↦ absurd (let h = p.1 in cc)
    ]

-- the law of bodies: those that were encoded are read back, and no others but an OPEN with a byte 0
pub read_back : ReadBack
read_back = record {
  drops = drop_back;
  opens = open_back;
  converts = conv_back;
  resets = reset_back;
  closes = number_back;
  drops_only = drop_only;
  opens_only = open_only;
  converts_only = conv_only;
  resets_only = reset_only;
  closes_only = number_only;
}
