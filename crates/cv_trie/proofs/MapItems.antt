-- The next item of a text, by the pairs of a charmap.
use Rattle.std.specs.Prelude.{IsTrue, IfSome}
use Rattle.std.specs.Bool.{then_some}
use Rattle.std.proofs.lemmas.Bool.Decides.{nat_tests}
use Rattle.std.proofs.Common.{Bool, true, false, ◌==◌, ◌≡◌, ℕ, ◌<◌, ◌≤◌, List, length, refl, ap, arith, Some}
use Rattle.cv_base.specs.Items.{Taken, taken, Begins, Stands, IsNext}
use Rattle.cv_base.specs.declared.ascii_form.AsciiForm.{AsciiForm}
use Rattle.cv_base.specs.declared.ascii_form.AsciiForm.TheVariants.{Byte}
use Rattle.cv_base.specs.declared.item.Item.TheVariants as item
use Rattle.cv_base.specs.declared.state.ReadState.{ReadState}
use Rattle.cv_base.specs.declared.state.ReadState.TheVariants as read
use Rattle.cv_base.proofs.Front.{Begins-trans, Begins-length}
use Rattle.cv_byte_trie.specs.Entries.{bytes_at, character_at, AreApart}
use Rattle.cv_byte_trie.specs.Results.{GoesOnBehind, MeetsNone}
use Rattle.cv_charmap.specs.Entries.{Pair}
use Rattle.cv_trie.specs.Charmaps.{map_reads}
use Rattle.cv_trie.proofs.MapLaws.{index_in, holds_index}

-- a pair is the next item of a text that begins with its bytes
pub pair_stands : (pairs : List Pair) (s : ReadState) (text : List ℕ) (k : ℕ) → k < length pairs
    → Begins (bytes_at pairs k) text
    → Stands (map_reads pairs) s text (taken (length (bytes_at pairs k)) (Some (character_at pairs k)) read.Start)
pair_stands pairs s text k low front = record {
  bytes = bytes_at pairs k;
  is_item = (character_at pairs k, holds_index pairs k low, refl);
  front = front;
}

-- the next item is a pair with whose bytes the text begins
pub stands_pair : (pairs : List Pair) (s : ReadState) (text : List ℕ) (i : Taken)
    → (p : Stands (map_reads pairs) s text i)
    → (p.is_item.1.0 < length pairs) × Begins (bytes_at pairs p.is_item.1.0) text
stands_pair pairs s text i p = let x = index_in pairs p.bytes p.is_item.0 p.is_item.1 in
    (x.low, rw x.bytes_there p.front)

-- a text that is a proper prefix of a pair's bytes is incomplete
pub inside_incomplete : (pairs : List Pair) → AreApart pairs → (s : ReadState) (text : List ℕ) (k : ℕ) → 0 < length text
    → GoesOnBehind pairs text k → IsNext (map_reads pairs) s text item.Incomplete
inside_incomplete pairs apart s text k some on = (
  some,
  λ i p. (
      let x = stands_pair pairs s text i p in
      let j = p.is_item.1.0 in
      let same : j ≡ k = apart j k x.0 on.low (Begins-trans (bytes_at pairs j) text (bytes_at pairs k) x.1 on.front) in
      let size : length (bytes_at pairs j) ≡ length (bytes_at pairs k) =
      ap (λ (n : ℕ). length (bytes_at pairs n)) same in
      let fits : length (bytes_at pairs j) ≤ length text = Begins-length (bytes_at pairs j) text x.1 in
      let longer = on.longer in
      omega arith),
  record {
    bytes = bytes_at pairs k;
    item = taken (length (bytes_at pairs k)) (Some (character_at pairs k)) read.Start;
    is_item = (character_at pairs k, holds_index pairs k on.low, refl);
    front = on.front;
  },
)

-- a text that meets no pair is ill-formed
pub none_ill : (pairs : List Pair) (s : ReadState) (text : List ℕ) → 0 < length text → MeetsNone pairs text
    → IsNext (map_reads pairs) s text item.Ill
none_ill pairs s text some none = (
  some,
  λ i p. (let x = stands_pair pairs s text i p in (none p.is_item.1.0 x.0).0 x.1),
  λ g. (let x = index_in pairs g.bytes g.is_item.0 g.is_item.1 in
      (none g.is_item.1.0 x.low).1 (rw x.bytes_there g.front)),
)

-- a text that is not empty has a byte
pub some_bytes : (text : List ℕ) (empty : Bool) → empty ≡ (length text == 0) → empty ≡ false → 0 < length text
some_bytes text empty e f = grind (arith, nat_tests)

-- a form that is returned only if a test holds
pub form_given : (b : Bool) (P : AsciiForm → Type 0) → (IsTrue b → P Byte) → IfSome (then_some b Byte) P
form_given true P h = h refl
form_given false P h = tt
