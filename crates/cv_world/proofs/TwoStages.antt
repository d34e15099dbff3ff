-- A conversion in stages, each of which appends to what those before it wrote.
use Rattle.std.proofs.Common.{◌≡◌, ◌≢◌, ℕ, ◌+◌, ◌≤◌, List, ◌++◌, length, take, drop, ap, subst, ◌∙◌, append_assoc}
use Rattle.std.proofs.Common.{arith, length-append}
use Rattle.std.proofs.lemmas.List.{length-take, take-append-le, take-take}
use Rattle.std.proofs.Math.Seq.{take-append-add, take-append_seam}
use Rattle.cv_base.specs.Codecs.{IsReadable}
use Rattle.cv_base.proofs.Front.{Begins-refl}
use Rattle.cv_pivot.specs.Conversions.{Converts, Converted, IsConverted}
use Rattle.cv_pivot.specs.Encodings.{form_of, form_reads, form_writes}
use Rattle.cv_pivot.specs.declared.conversion.Conversion.{Conversion}
use Rattle.cv_pivot.specs.declared.outcome.Outcome.{Outcome}
use Rattle.cv_pivot.specs.declared.outcome.Stop.TheVariants.{TooBig}
use Rattle.cv_pivot.proofs.Stages.{join_stages, more_room}
use Rattle.cv_world.specs.Private.Stages.{Appends, sum_of}
use Rattle.cv_world.specs.declared.stages.ConvOutcome.{ConvOutcome}
use Rattle.cv_world.proofs.WrittenFrames.{before_bytes}

-- a prefix of a vector whose bytes after an offset were borrowed, written and given back
front_lent : (b more rest over : List ℕ) (len e n : ℕ) → e ≤ length b → n ≤ length more → e + n ≤ len
    → take (e + n) (take len ((take e b ++ (more ++ rest)) ++ over)) ≡ take e b ++ take n more
front_lent b more rest over len e n within few room =
    let size : e + n ≡ length (take e b) + n = omega (arith, length-take e b) in
    let parts : (take e b ++ (more ++ rest)) ++ over ≡ take e b ++ (more ++ (rest ++ over)) =
    append_assoc (take e b) (more ++ rest) over ∙ ap (λ (x : List ℕ). take e b ++ x) (append_assoc more rest over) in
    take-take (e + n) len ((take e b ++ (more ++ rest)) ++ over) room
    ∙ ap (λ (m : ℕ). take m ((take e b ++ (more ++ rest)) ++ over)) size
    ∙ ap (take (length (take e b) + n)) parts
    ∙ take-append-add (take e b) (more ++ (rest ++ over)) n
    ∙ ap (λ (x : List ℕ). take e b ++ x) (take-append-le n more (rest ++ over) few)

-- the room of a conversion, written otherwise
same_room : (v : Conversion) (text : List ℕ) (a b : ℕ) (c : Converted) → a ≡ b
    → IsConverted (form_reads (form_of v.from)) (form_writes (form_of v.to)) v.policy v.states text a c
    → IsConverted (form_reads (form_of v.from)) (form_writes (form_of v.to)) v.policy v.states text b c
same_room v text a b c same p = subst (λ (k : ℕ).
    IsConverted (form_reads (form_of v.from)) (form_writes (form_of v.to)) v.policy v.states text k c) same p

-- what a conversion wrote into memory that was borrowed after bytes that stay, and given back
pub one_stage : (v w : Conversion) (text room before out held rest over : List ℕ) (len at size used : ℕ) (o : Outcome)
    → Converts (form_reads (form_of v.from)) (form_writes (form_of v.to)) v.policy v.states text room o w.states out
    → w ≡ record v { states = w.states } → length room ≡ size → length out ≡ length room → at ≤ length held
    → at + size ≤ len → take at held ≡ before
    → used + o.room_left ≡ at + size → Appends v w text size (record { stop = o.stop; left = o.left; count = o.count })
    before (take used (take len ((take at held ++ (out ++ rest)) ++ over)))
one_stage v w text room before out held rest over len at size used o p kept long same there within front is =
    let n : ℕ = length p.output in
    let taken : take n out ≡ p.output = ap (take n) p.buffer ∙ take-append_seam p.output (drop n room) in
    record {
      output = p.output;
      converted = same_room v text _ _ _ long p.converted;
      kept = kept;
      appended = ap (λ (k : ℕ). take k (take len ((take at held ++ (out ++ rest)) ++ over)))
          (omega (arith, is, long, p.room_left)) ∙ front_lent held out rest over len at n there
          (omega (arith, p.room_left, same)) (omega (arith, p.room_left, long, within))
          ∙ ap (λ (x : List ℕ). x ++ take n out) front ∙ ap (λ (x : List ℕ). before ++ x) taken;
    }

-- a stage that stops for another reason than the room, in more room
pub wider_stage : (v w : Conversion) → IsReadable (form_reads (form_of v.from)) → (text before after : List ℕ)
    (part room : ℕ) (o : ConvOutcome) → o.stop ≢ TooBig → part ≤ room → Appends v w text part o before after
    → Appends v w text room o before after
wider_stage v w r text before after part room o roomy within p = record {
  output = p.output;
  converted = more_room _ _ v.policy r v.states text part room _ within roomy p.converted;
  kept = p.kept;
  appended = p.appended;
}

-- a stage, and a second one of what is left
pub two_stages : (v mid w : Conversion) → IsReadable (form_reads (form_of v.from))
    → (text before between after : List ℕ) (part left room used : ℕ) (a b : ConvOutcome) → used + a.left ≡ length text
    → left + length between ≡ room + length before → Appends v mid text part a before between
    → Appends mid w (drop used text) left b between after → Appends v w text room (sum_of a b) before after
two_stages v mid w r text before between after part left room used a b uses is p q =
    let second : Appends (record v { states = mid.states }) w (drop used text) left b between after =
    subst (λ (x : Conversion). Appends x w (drop used text) left b between after) p.kept q in
    let whole : length p.output + left ≡ room =
    omega (arith, is, ap length p.appended, length-append before p.output) in
    record {
      output = p.output ++ second.output;
      converted = same_room v text _ _ _ whole (join_stages _ _ v.policy r v.states text text part left used _ _
          (Begins-refl text) uses p.converted second.converted);
      kept = second.kept;
      appended = second.appended ∙ ap (λ (x : List ℕ). x ++ second.output) p.appended
          ∙ append_assoc before p.output second.output;
    }

-- what was there before a stage stays
pub before_stays : (x y z more : List ℕ) → take (length x) y ≡ x → z ≡ y ++ more → take (length x) z ≡ x
before_stays x y z more before is =
    before_bytes y more z (length x) (omega (arith, ap length before, length-take (length x) y)) is ∙ before

-- what a stage appends fits in its room
pub output_fits : (v w : Conversion) (text before after : List ℕ) (room : ℕ) (o : ConvOutcome)
    (p : Appends v w text room o before after) → length p.output ≤ room
output_fits v w text before after room o p = omega (arith, ap length p.converted.output, p.converted.longest.fits)

pub stage_fits : (v w : Conversion) (text before after : List ℕ) (room : ℕ) (o : ConvOutcome)
    → Appends v w text room o before after → (length before ≤ length after) × (length after ≤ length before + room)
stage_fits v w text before after room o p =
    let size : length after ≡ length before + length p.output = ap length p.appended ∙ length-append before p.output in
    (omega (arith, size), omega (arith, size, output_fits v w text before after room o p))
