-- The single-byte encodings keep what every codec keeps.
use Rattle.std.proofs.Common.{◌≡◌, ℕ, ◌<◌, ◌≤◌, List, [], ◌∷◌, length, refl, sym, ◌∙◌, ap, arith, Some, inl, inr}
use Rattle.std.proofs.lemmas.Bool.{cases_lt, lt-ltb, le-ltb}
use Rattle.cv_base.specs.Items.{Taken, taken, Begins}
use Rattle.cv_base.specs.Codecs.{IsReadable}
use Rattle.cv_base.specs.SingleBytes.{byte_reads, byte_writes}
use Rattle.cv_base.specs.ReadBack.{ReadsBack}
use Rattle.cv_base.specs.declared.state.ReadState.{ReadState}
use Rattle.cv_base.specs.declared.state.ReadState.TheVariants as read
use Rattle.cv_base.specs.declared.state.WriteState.{WriteState}
use Rattle.cv_base.specs.declared.state.WriteState.TheVariants as write
use Rattle.cv_base.proofs.ReadBacks.{IsReadFrom, EachReadsBack, one_item, same_written, no_closing, texts_back}

one_byte : (limit : ℕ) (s : ReadState) (text a b : List ℕ) (i j : Taken) → byte_reads limit s a i
    → byte_reads limit s b j → Begins a text → Begins b text → i ≡ j
one_byte limit s text [] b i j p q f g = absurd p
one_byte limit s text (x ∷ y ∷ a) b i j p q f g = absurd p
one_byte limit s text (x ∷ []) [] i j p q f g = absurd q
one_byte limit s text (x ∷ []) (y ∷ z ∷ b) i j p q f g = absurd q
one_byte limit s [] (x ∷ []) (y ∷ []) i j p q f g = absurd f
one_byte limit s (t ∷ text) (x ∷ []) (y ∷ []) i j p q f g = p.1 ∙ ap (λ b. taken 1 (Some b) read.Start) (f.0 ∙ sym g.0)
    ∙ sym q.1

uses_byte : (limit : ℕ) (s : ReadState) (a : List ℕ) (i : Taken) → byte_reads limit s a i
    → (0 < i.used) × (i.used ≤ length a)
uses_byte limit s [] i p = absurd p
uses_byte limit s (x ∷ y ∷ a) i p = absurd p
uses_byte limit s (x ∷ []) i p = let e : i.used ≡ 1 = ap (λ t. t.used) p.1 in (omega arith, omega arith)

-- the encodings of one byte are readable
pub byte_readable : (limit : ℕ) → IsReadable (byte_reads limit)
byte_readable limit = record { one_item = one_byte limit; uses = uses_byte limit }

-- a character below the limit is written as its byte
pub byte_written : (limit c : ℕ) (t : WriteState) → c < limit → byte_writes limit t c ≡ Some (c ∷ [], write.Start)
byte_written limit c t l = rw (lt-ltb c limit l) refl

byte_back : (limit : ℕ) → EachReadsBack (byte_reads limit) (byte_writes limit) (λ t s. Unit {0})
byte_back limit t s c bytes next m scalar e = elim (cases_lt c limit) [
  | inl l ↦
      same_written (λ w u. IsReadFrom (byte_reads limit) s w (c ∷ []) (λ s. Unit {0})) (c ∷ []) bytes write.Start next
      (one_item (byte_reads limit) s read.Start (c ∷ []) c (λ s. Unit {0}) (l, refl) tt) (rw (lt-ltb c limit l) at e)
  | inr l ↦ (let none = rw (le-ltb c limit l) at e in cc)
]

-- they read back the texts that they write
pub bytes_back : (limit : ℕ) → ReadsBack (byte_reads limit) (byte_writes limit) (λ t. [])
bytes_back limit = texts_back (byte_reads limit) (byte_writes limit) (λ t. []) (λ t s. Unit {0}) (byte_back limit)
    (no_closing (byte_reads limit) (λ t s. Unit {0})) tt
