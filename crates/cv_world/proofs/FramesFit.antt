-- The body of each frame that was cut off has at most 1,048,567 bytes.
use Rattle.std.proofs.Common.{◌≡◌, ◌≤◌, ℕ, zero, suc, ◌+◌, ◌-◌, ltb, List, [], ◌∷◌, length, drop, refl, sym, subst}
use Rattle.std.proofs.Common.{arith, inl, inr, length-take, ◌||◌}
use Rattle.std.specs.List.{AllByRecursion}
use Rattle.std.proofs.lemmas.Bool.{ltb-false, or_parts}
use Rattle.cv_caller.specs.Tables.{Table}
use Rattle.cv_machine.specs.Machine.{Event, requests}
use Rattle.cv_frame.specs.Message.{Message}
use Rattle.cv_frame.specs.Cut.{Cut, u32_at, message_at, front_of, cut_from, cut_within, cut_of, messages_of}
use Rattle.cv_frame.specs.declared.reading.Frame.{Frame}
use Rattle.cv_frame.specs.declared.reading.Frame.TheVariants.{Whole, Partial, Bad}
use Rattle.cv_frame.specs.Sizes.{most_body}
use Rattle.cv_frame.proofs.Cuts.{chosen}
use Rattle.cv_world.specs.Feeds.{BodiesFit}

-- The bodies of the messages have at most 1,048,567 bytes.
abbrev AreShort : List Message → Type 0
AreShort ms = AllByRecursion (λ m. length m.body ≤ most_body) ms

front_short : (bytes : List ℕ) (m : Message) (n : ℕ) → front_of bytes ≡ Whole m n → length m.body ≤ most_body
unfolding front_of
front_short bytes m n e =
    let k : ℕ = u32_at bytes in
    elim (chosen (ltb (length bytes) 4) _ _ _ e) [
      | inl a ↦ absurd (let h = a.1 in cc)
      | inr a ↦ elim (chosen (ltb k 9 || ltb 1048576 k) _ _ _ a.1) [
        | inl b ↦ absurd (let h = b.1 in cc)
        | inr b ↦ elim (chosen (ltb (length bytes) (4 + k)) _ _ _ b.1) [
          | inl d ↦ absurd (let h = d.1 in cc)
          | inr d ↦
              let low : k ≤ 1048576 = ltb-false _ _ ((or_parts (ltb k 9) (ltb 1048576 k) b.0).1) in
              let whole : Message = message_at k (drop 4 bytes) in
              let few : length whole.body ≤ most_body =
              omega (arith, low, length-take (k - 9) (drop 9 (drop 4 bytes))) in
              let h : Whole whole (4 + k) ≡ Whole m n = d.1 in
              let is : whole ≡ m = cc in
              subst (λ (x : Message). length x.body ≤ most_body) is few
        ]
      ]
    ]

by_front : (front : Frame) (bytes : List ℕ) (others : ℕ → Cut) → ((m : Message) (n : ℕ) → front ≡ Whole m n → length
    m.body ≤ most_body) → ((n : ℕ) → AreShort (others n).messages) → AreShort (cut_from front bytes others).messages
by_front (Whole m n) bytes others short rest = (short m n refl, rest n)
by_front Partial bytes others short rest = tt
by_front (Bad n) bytes others short rest = tt

within_short : (k : ℕ) (bytes : List ℕ) → AreShort (cut_within k bytes).messages
unfolding cut_within
within_short zero bytes = tt
within_short (suc k) bytes = by_front (front_of bytes) bytes (λ n. cut_within k (drop n bytes)) (front_short bytes)
    (λ n. within_short k (drop n bytes))

cut_short : (bytes : List ℕ) → AreShort (messages_of bytes)
unfolding cut_of
cut_short bytes = within_short (length bytes) bytes

asked_short : (events : List (Event Table)) → AreShort (requests events) → BodiesFit events
asked_short [] p = tt
asked_short (e ∷ events) p = (p.0, asked_short events p.1)

-- The requests of a stream's whole frames fit frames.
pub frames_fit : (given : List ℕ) (events : List (Event Table)) → requests events ≡ messages_of given → BodiesFit events
frames_fit given events e = asked_short events (subst AreShort (sym e) (cut_short given))
