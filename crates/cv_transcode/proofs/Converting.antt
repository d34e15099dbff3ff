-- Text that is converted window by window.
use Rattle.std.proofs.Common.{◌≡◌, ℕ, ◌+◌, ◌-◌, ◌≤◌, List, ◌++◌, length, drop, ap, arith, length-append}
use Rattle.std.specs.List.{flat_map}
use Rattle.std.proofs.lemmas.Grind.{flat_map-append}
use Rattle.cv_base.proofs.Front.{Begins-join}
use Rattle.cv_base.specs.Items.{Begins}
use Rattle.cv_base.specs.Scalars.{AreScalars}
use Rattle.cv_block.specs.StatelessForms.{BytesOf}
use Rattle.cv_block.proofs.FormRuns.{AreScalars-append}
use Rattle.cv_transcode.specs.Runs.{IsTranscoded}
use Rattle.cv_block.specs.Slack.{IsPutWithSlack}
use Rattle.cv_transcode.specs.Private.Slack.{IsConvertedWithSlack}
use Rattle.cv_transcode.specs.Private.Windows.{IsWindow}
use Rattle.cv_block.proofs.Slack.{put_more, put_whole}

-- more characters are converted
pub part_more : (from to : BytesOf) (text before : List ℕ) (at used size n m first slack place : ℕ)
    (mid after units : List ℕ) → IsConvertedWithSlack from to text before at used n first mid → place ≡ at + n
    → AreScalars units → Begins (flat_map from units) (drop used text) → size ≡ length (flat_map from units)
    → IsPutWithSlack (flat_map to units) mid place m slack after → first ≤ m + slack
    → IsConvertedWithSlack from to text before at (used + size) (n + m) slack after
part_more from to text before at used size n m first slack place mid after units p place_is scalars begins uses put
    enough =
    let c = p.characters in
    let both : flat_map from (c ++ units) ≡ flat_map from c ++ flat_map from units = flat_map-append from c units in
    let out : flat_map to (c ++ units) ≡ flat_map to c ++ flat_map to units = flat_map-append to c units in
    let there : drop used text ≡ drop (length (flat_map from c)) text = ap (λ i. drop i text) p.uses in
    record {
      characters = c ++ units;
      scalars = AreScalars-append c units p.scalars scalars;
      begins = rw both (Begins-join (flat_map from c) (flat_map from units) text p.begins (rw there at begins));
      uses = omega (arith, ap length both, length-append (flat_map from c) (flat_map from units), p.uses, uses);
      put = rw out (put_more (flat_map to c) (flat_map to units) before at n first m slack place mid after p.put
          place_is put enough);
    }

-- one window more is converted
pub window_more : (from to : BytesOf) (text before : List ℕ) (at used size n m slack place : ℕ)
    (mid after units : List ℕ) → IsConvertedWithSlack from to text before at used n 16 mid → place ≡ at + n
    → IsWindow from size (drop used text) units
    → IsPutWithSlack (flat_map to units) mid place m slack after → 16 ≤ m
    → IsConvertedWithSlack from to text before at (used + size) (n + m) slack after
window_more from to text before at used size n m slack place mid after units p place_is w put enough =
    part_more from to text before at used size n m 16 slack place mid after units p place_is w.scalars w.begins w.uses
    put (omega (arith, enough))

-- one window more is converted, if the bytes from index `at` on are those up to an index
pub window_on : (from to : BytesOf) (text before : List ℕ) (at used size end m slack : ℕ)
    (mid after units : List ℕ) → at ≤ end → IsConvertedWithSlack from to text before at used (end - at) 16 mid
    → IsWindow from size (drop used text) units
    → IsPutWithSlack (flat_map to units) mid end m slack after → 16 ≤ m
    → IsConvertedWithSlack from to text before at (used + size) (end + m - at) slack after
window_on from to text before at used size end m slack mid after units since p w put enough =
    let place : end ≡ at + (end - at) = omega (arith, since) in
    let n : end - at + m ≡ end + m - at = omega (arith, since) in
    rw n at (window_more from to text before at used size (end - at) m slack end mid after units p place w put enough)

-- the text is converted if no bytes after the result may be anything
pub all_converted : (from to : BytesOf) (text before : List ℕ) (at used n : ℕ) (after : List ℕ)
    → IsConvertedWithSlack from to text before at used n 0 after
    → IsTranscoded from to text before at (record { used = used; wrote = n }) after
all_converted from to text before at used n after p = record {
  characters = p.characters;
  scalars = p.scalars;
  begins = p.begins;
  uses = p.uses;
  put = put_whole (flat_map to p.characters) before at n after p.put;
}
