-- Words that are written one after the other.
use Rattle.std.proofs.Common.{◌≡◌, ℕ, ◌+◌, ◌<◌, ◌≤◌, List, ◌++◌, length, take, get_or, sym, ◌∙◌, ap, arith}
use Rattle.std.proofs.Common.{length-append, append_assoc}
use Rattle.std.specs.List.{flat_map}
use borrow.Rule.Slice.PartMut.{put_mid}
use Rattle.cv_base.specs.Items.{Begins}
use Rattle.cv_block.specs.StatelessForms.{BytesOf}
use Rattle.std.proofs.lemmas.List.{take_more}
use Rattle.cv_block.proofs.UnitRuns.{flat_map-more}
use Rattle.cv_block.proofs.FrontOfAWord.{front_stands}

-- the bytes of characters and of one more
pub bytes_more : (bytes_of : BytesOf) (values : List ℕ) (k : ℕ) → k < length values
    → flat_map bytes_of (take (k + 1) values) ≡ flat_map bytes_of (take k values) ++ bytes_of (get_or values k 0)
bytes_more bytes_of values k h = ap (flat_map bytes_of) (take_more values k 0 h)
    ∙ flat_map-more bytes_of (take k values) (get_or values k 0)

-- one character more adds as many bytes as it has
pub length_more : (bytes_of : BytesOf) (values : List ℕ) (used k n : ℕ)
    → k < length values → used ≡ length (flat_map bytes_of (take k values)) → n ≡ length (bytes_of (get_or values k 0))
    → used + n ≡ length (flat_map bytes_of (take (k + 1) values))
length_more bytes_of values used k n h e f = omega (
  arith,
  ap length (bytes_more bytes_of values k h),
  length-append (flat_map bytes_of (take k values)) (bytes_of (get_or values k 0)),
  e,
  f,
)

-- one word more is written
pub word_more : (bytes_of : BytesOf) (values before : List ℕ) (at used k n j : ℕ) (now word : List ℕ)
    → take (at + used) now ≡ take at before ++ flat_map bytes_of (take k values) → k < length values → n
    ≡ length (bytes_of (get_or values k 0)) → Begins (bytes_of (get_or values k 0)) word → at + used ≤ length now → take
    (at + (used + n)) (put_mid (at + used) j now word) ≡ take at before ++ flat_map bytes_of (take (k + 1) values)
word_more bytes_of values before at used k n j now word p h e front room =
    let c : List ℕ = bytes_of (get_or values k 0) in
    let there : at + (used + n) ≡ at + used + n = omega arith in
    let stand : take (at + used + n) (put_mid (at + used) j now word) ≡ take (at + used) now ++ c =
    front_stands now word c (at + used) n j room front e in
    rw there (stand ∙ ap (λ (x : List ℕ). x ++ c) p ∙ append_assoc (take at before) (flat_map bytes_of (take k values))
    c ∙ ap (λ (x : List ℕ). take at before ++ x) (sym (bytes_more bytes_of values k h)))
