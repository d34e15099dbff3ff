-- The last characters of a text, which are converted from a copy that has other bytes after them.
use Rattle.std.proofs.Common.{◌≡◌, ◌≤◌, ◌+◌, ◌*◌, ◌/◌, ℕ, List, ◌++◌, length, take, drop, subst, ap, arith, length-take}
use Rattle.std.proofs.Math.Nat.{div-mul-le_self, mul-le-mul_right}
use Rattle.cv_base.proofs.Front.{Begins-append, Begins-meet, Begins-take, Begins-trans}
use Rattle.cv_base.specs.Items.{Begins}
use Rattle.cv_block.specs.Slack.{IsPutWithSlack}
use Rattle.cv_block.specs.StatelessForms.{BytesOf}
use Rattle.std.specs.List.{flat_map}
use Rattle.cv_transcode.specs.Private.Windows.{AreFirst}
use Rattle.cv_transcode.specs.Runs.{IsTranscoded}
use Rattle.cv_transcode.specs.declared.run.Run.{Run}
use Rattle.cv_transcode.proofs.Parts.{copied, first_converted}
use Rattle.cv_base.specs.Places.{IsPut}
use Rattle.cv_block.proofs.Slack.{put_exactly}
use Rattle.cv_utf8.specs.Utf16Lanes.{lane_characters, AreRead}
use Rattle.cv_utf8.specs.Utf8.{utf8_bytes}
use Rattle.cv_utf8.specs.declared.read.utf16_lanes.Utf16Lanes.{Utf16Lanes}

-- what was converted of a copy was converted of the text that begins it, if it is no longer than that
pub converted_copy : (from to : BytesOf) (text copy before : List ℕ) (at : ℕ) (run : Run) (after : List ℕ)
    → Begins text copy → run.used ≤ length text → IsTranscoded from to copy before at run after
    → IsTranscoded from to text before at run after
converted_copy from to text copy before at run after h few p = record {
  characters = p.characters;
  scalars = p.scalars;
  begins = Begins-meet (flat_map from p.characters) text copy p.begins h (omega (arith, p.uses, few));
  uses = p.uses;
  put = p.put;
}

-- so are the first characters of a copy the text's
pub first_of_copy : (from : BytesOf) (text copy : List ℕ) (used : ℕ) (units : List ℕ) → Begins text copy
    → used ≤ length text → AreFirst from used copy units → AreFirst from used text units
first_of_copy from text copy used units h few p = record {
  scalars = p.scalars;
  begins = Begins-meet (flat_map from units) text copy p.begins h (omega (arith, p.uses, few));
  uses = p.uses;
}

-- n characters of a size are within a text that has as many
pub last_within : (n size m : ℕ) → n ≤ m / size → n * size ≤ m
last_within n size m few = omega (arith, mul-le-mul_right size few, div-mul-le_self m size)

-- the first n characters of a window, of which all are the text's, are converted
pub last_converted : (from to : BytesOf) (text pad none last before : List ℕ) (at n unit size wrote : ℕ)
    (units after : List ℕ) → unit ≡ size → n ≤ length text / size
    → AreFirst from (n * unit) (text ++ pad) (take n units)
    → IsPutWithSlack (flat_map to (take n units)) none 0 wrote 48 last → at + wrote ≤ length before
    → after ≡ take at before ++ take wrote last ++ drop (at + wrote) before
    → IsTranscoded from to text before at (record { used = n * size; wrote = wrote }) after
last_converted from to text pad none last before at n unit size wrote units after same few first put fits out =
    let within : n * size ≤ length text = last_within n size (length text) few in
    let used : AreFirst from (n * size) (text ++ pad) (take n units) =
    subst (λ (k : ℕ). AreFirst from (n * k) (text ++ pad) (take n units)) same first in
    converted_copy from to text (text ++ pad) before at _ after (Begins-append text pad) within
    (copied from to (text ++ pad) none last before at (n * size) wrote 48 after
    (first_converted from to (text ++ pad) none 0 (n * size) wrote 48 last (take n units) used put) fits out)

-- the characters of a window are converted that were written into a buffer and copied from it
pub lanes_copied : (to : BytesOf) (text none buffer before : List ℕ) (at : ℕ) (units : Utf16Lanes) (wrote : ℕ)
    (after : List ℕ) → AreRead text 0 units → IsPut (flat_map to (lane_characters units)) none 0 wrote buffer
    → at + wrote ≤ length before → after ≡ take at before ++ take wrote buffer ++ drop (at + wrote) before
    → IsTranscoded utf8_bytes to text before at (record { used = units.used; wrote = wrote }) after
lanes_copied to text none buffer before at units wrote after read put fits out =
    copied utf8_bytes to text none buffer before at units.used wrote 0 after (record {
      characters = lane_characters units;
      scalars = read.scalars;
      begins = read.begins;
      uses = read.uses;
      put = put_exactly (flat_map to (lane_characters units)) none 0 wrote buffer put.wrote put.fits put.out;
    }) fits out

-- the characters of a window are read of a text if they were read of a copy of its first bytes, and are within these
pub lanes_of_copy : (text front pad : List ℕ) (n : ℕ) (units : Utf16Lanes) → front ≡ take n text → n ≤ length text
    → units.used ≤ n → AreRead (front ++ pad) 0 units → AreRead text 0 units
lanes_of_copy text front pad n units same within few read =
    let bytes : List ℕ = flat_map utf8_bytes (lane_characters units) in
    let size : length front ≡ n = omega (arith, ap length same, length-take n text, within) in
    let first : Begins bytes front = Begins-meet bytes front (front ++ pad) read.begins (Begins-append front pad)
    (omega (arith, read.uses, few, size)) in
    record {
      few = read.few;
      others = read.others;
      scalars = read.scalars;
      begins = Begins-trans bytes (take n text) text (rw same at first) (Begins-take n text);
      uses = read.uses;
    }
