-- What is next in the single-byte encodings.
use Rattle.std.proofs.Common.{◌≡◌, ℕ, ◌<◌, ◌≤◌, Bool, true, false, cond, nat_lt, List, [], ◌∷◌, length, get_or, refl}
use Rattle.std.proofs.Common.{ap, arith, Option, Some, None}
use Rattle.std.specs.Prelude.{IfSome}
use Rattle.cv_base.specs.Items.{Taken, taken, Begins, Stands, IsNext}
use Rattle.cv_base.specs.SingleBytes.{byte_reads, byte_writes}
use Rattle.cv_base.specs.declared.state.ReadState.{ReadState}
use Rattle.cv_base.specs.declared.state.ReadState.TheVariants as read
use Rattle.cv_base.specs.declared.state.WriteState.{WriteState}
use Rattle.cv_base.specs.declared.state.WriteState.TheVariants as write
use Rattle.cv_base.specs.Codecs.{WritesAtMost}
use Rattle.cv_base.specs.declared.item.Item.TheVariants.{Ill}

-- a byte below the limit is the next item
pub byte_stands : (limit : ℕ) (s : ReadState) (text : List ℕ) (c : ℕ) → c ≡ get_or text 0 0 → get_or text 0 0 < limit
    → 0 < length text → Stands (byte_reads limit) s text (taken 1 (Some c) read.Start)
byte_stands limit s [] c e l h = absurd (omega arith)
byte_stands limit s (t ∷ text) c e l h =
    record { bytes = t ∷ []; is_item = (l, ap (λ b. taken 1 (Some b) read.Start) e); front = (refl, tt) }

none_from : (limit : ℕ) (s : ReadState) (text bytes : List ℕ) (i : Taken) → limit ≤ get_or text 0 0
    → byte_reads limit s bytes i → Begins bytes text → ⊥
none_from limit s text [] i h p f = p
none_from limit s text (x ∷ y ∷ a) i h p f = p
none_from limit s [] (x ∷ []) i h p f = f
none_from limit s (t ∷ text) (x ∷ []) i h p f = omega (arith, f.0, p.0)

none_to : (limit : ℕ) (s : ReadState) (text bytes : List ℕ) (i : Taken) → limit ≤ get_or text 0 0 → 0 < length text
    → byte_reads limit s bytes i → Begins text bytes → ⊥
none_to limit s text [] i h n p f = p
none_to limit s text (x ∷ y ∷ a) i h n p f = p
none_to limit s [] (x ∷ []) i h n p f = absurd (omega arith)
none_to limit s (t ∷ text) (x ∷ []) i h n p f = omega (arith, f.0, p.0)

-- a byte from the limit on is ill-formed
pub byte_ill : (limit : ℕ) (s : ReadState) (text : List ℕ) → limit ≤ get_or text 0 0 → 0 < length text
    → IsNext (byte_reads limit) s text Ill
byte_ill limit s text h n = (
  n,
  λ i p. none_from limit s text p.bytes i h p.is_item p.front,
  λ p. none_to limit s text p.bytes p.item h n p.is_item p.front,
)

-- a character is written as one byte at most
pub byte_writes_one : (limit : ℕ) → WritesAtMost 1 (byte_writes limit)
byte_writes_one limit t c = elim (nat_lt c limit) as (λ (b : Bool). IfSome (let o : Option (List ℕ × WriteState) =
    cond b (Some (c ∷ [], write.Start)) None in o) (λ p. length p.0 ≤ 1)) [ true ↦ omega arith | false ↦ tt ]
