-- Text with characters from U+10000 on, which is converted part by part.
use Rattle.std.proofs.Common.{◌≡◌, ℕ, ◌+◌, ◌-◌, ◌*◌, ◌≤◌, List, [], ◌∷◌, ◌++◌, length, take, drop, refl, sym, ◌∙◌, ap}
use Rattle.std.proofs.Common.{arith, zero, suc, append-nil, append_assoc, length-append, length-take}
use Rattle.std.specs.Prelude.{replicate}
use Rattle.std.specs.List.{flat_map}
use Rattle.std.proofs.Math.Nat.{mul-le-mul_left}
use Rattle.std.proofs.lemmas.Grind.{flat_map-append}
use Rattle.std.proofs.lemmas.List.{take-take, take_at}
use Rattle.cv_base.proofs.Front.{Begins-length}
use Rattle.cv_base.specs.Places.{IsPut}
use Rattle.cv_block.specs.StatelessForms.{BytesOf}
use Rattle.cv_transcode.specs.Runs.{IsTranscoded}
use Rattle.cv_transcode.specs.declared.run.Run.{Run}
use Rattle.cv_block.specs.Slack.{IsPutWithSlack}
use Rattle.cv_transcode.specs.Private.Slack.{IsConvertedWithSlack}
use Rattle.cv_transcode.specs.Private.Windows.{AreFirst, IsSupplementary, IsWindow}
use Rattle.cv_transcode.proofs.Converting.{all_converted, part_more}
use Rattle.cv_block.proofs.Slack.{further, put_copied, put_exactly}

-- if some bytes after the result may be anything, so may more of them
pub more_slack : (bytes before : List ℕ) (at n slack more : ℕ) (after : List ℕ)
    → IsPutWithSlack bytes before at n slack after → slack ≤ more → IsPutWithSlack bytes before at n more after
more_slack bytes before at n slack more after p h = record {
  wrote = p.wrote;
  fits = p.fits;
  stand = p.stand;
  behind = further before after (at + n + slack) (at + n + more) (omega arith) p.behind;
  size = p.size;
}

zeros_long : (to : BytesOf) (k z : ℕ) → z ≡ length (to 0) → length (flat_map to (replicate k 0)) ≡ k * z
zeros_long to zero z e = omega arith
zeros_long to (suc k) z e = omega (arith, length-append (to 0) (flat_map to (replicate k 0)), zeros_long to k z e)

-- What was written for some units and for zeros after them, without the zeros.
pub record IsCut (to : BytesOf) (units before : List ℕ) (at n cut : ℕ) (after : List ℕ) : Type 0 where
  pub enough : cut ≤ n
  pub put : IsPutWithSlack (flat_map to units) before at (n - cut) 48 after

-- the zeros are cut off
pub zeros_cut : (to : BytesOf) (units before : List ℕ) (k z at n : ℕ) (after : List ℕ) → z ≡ length (to 0) → z ≤ 2
    → k ≤ 16 → IsPutWithSlack (flat_map to (units ++ replicate k 0)) before at n 16 after
    → IsCut to units before at n (k * z) after
zeros_cut to units before k z at n after e few h p =
    let bytes : List ℕ = flat_map to units in
    let zeros : List ℕ = flat_map to (replicate k 0) in
    let both : flat_map to (units ++ replicate k 0) ≡ bytes ++ zeros = flat_map-append to units (replicate k 0) in
    let long : length zeros ≡ k * z = zeros_long to k z e in
    let twice : k * z ≤ k * 2 = mul-le-mul_left k few in
    let most : k * z ≤ 32 = omega arith in
    let size : n ≡ length bytes + k * z = omega (arith, p.wrote, ap length both, length-append bytes zeros, long) in
    let m : n - k * z ≡ length bytes = omega (arith, size) in
    let prefix : length (take at before ++ bytes) ≡ at + (n - k * z) =
    omega (arith, length-append (take at before) bytes, length-take at before, m, p.fits) in
    let whole : take (at + n) after ≡ (take at before ++ bytes) ++ zeros = p.stand
    ∙ ap (λ (x : List ℕ). take at before ++ x) both ∙ sym (append_assoc (take at before) bytes zeros) in
    record {
      enough = omega (arith, size);
      put = record {
        wrote = m;
        fits = omega (arith, p.fits);
        stand = sym (take-take (at + (n - k * z)) (at + n) after (omega arith)) ∙ ap (take (at + (n - k * z))) whole
            ∙ take_at (take at before ++ bytes) zeros (at + (n - k * z)) prefix;
        behind = further before after (at + n + 16) (at + (n - k * z) + 48) (omega (arith, most, size)) p.behind;
        size = p.size;
      };
    }

-- one character from U+10000 on more is converted
pub supplementary_more : (from to : BytesOf) (text before : List ℕ) (at used c : ℕ) (mid after : List ℕ)
    → IsConvertedWithSlack from to text before at used used 0 mid → IsSupplementary from (drop used text) c
    → IsPut (to c) mid (at + used) 4 after → IsConvertedWithSlack from to text before at (used + 4) (used + 4) 0 after
supplementary_more from to text before at used c mid after p supplementary put =
    let read : flat_map from (c ∷ []) ≡ from c = append-nil (from c) in
    let written : flat_map to (c ∷ []) ≡ to c = append-nil (to c) in
    part_more from to text before at used 4 used 4 0 0 (at + used) mid after (c ∷ []) p refl (supplementary.scalar, tt)
    (rw read supplementary.begins) (rw read (sym supplementary.size))
    (rw written (put_exactly (to c) mid (at + used) 4 after put.wrote put.fits put.out)) (omega arith)

-- the first characters of a window are converted
pub first_converted : (from to : BytesOf) (text before : List ℕ) (at used n slack : ℕ) (after units : List ℕ)
    → AreFirst from used text units → IsPutWithSlack (flat_map to units) before at n slack after
    → IsConvertedWithSlack from to text before at used n slack after
first_converted from to text before at used n slack after units first put = record {
  characters = units;
  scalars = first.scalars;
  begins = first.begins;
  uses = first.uses;
  put = put;
}

-- the characters of a whole window are converted
pub whole_converted : (from to : BytesOf) (text before : List ℕ) (at size n : ℕ) (after units : List ℕ)
    → IsWindow from size text units → IsPutWithSlack (flat_map to units) before at n 16 after
    → IsConvertedWithSlack from to text before at size n 48 after
whole_converted from to text before at size n after units window put = record {
  characters = units;
  scalars = window.scalars;
  begins = window.begins;
  uses = window.uses;
  put = more_slack (flat_map to units) before at n 16 48 after put (omega arith);
}

-- text is converted, and then more of it
pub converted_more : (from to : BytesOf) (text before : List ℕ) (at used n first size m slack more place : ℕ)
    (mid after : List ℕ) → IsConvertedWithSlack from to text before at used n first mid → place ≡ at + n
    → IsConvertedWithSlack from to (drop used text) mid place size m slack after → slack ≤ more → first ≤ m + more
    → IsConvertedWithSlack from to text before at (used + size) (n + m) more after
converted_more from to text before at used n first size m slack more place mid after p e q wider enough =
    part_more from to text before at used size n m first more place mid after q.characters p e q.scalars q.begins q.uses
    (more_slack (flat_map to q.characters) mid place m slack more after q.put wider) enough

-- what was converted is within the text
pub slack_within : (from to : BytesOf) (text before : List ℕ) (at used n slack : ℕ) (after : List ℕ)
    → IsConvertedWithSlack from to text before at used n slack after → used ≤ length text
slack_within from to text before at used n slack after p = omega
    (arith, p.uses, Begins-length (flat_map from p.characters) text p.begins)

-- what a run converted is within the text
pub converted_within : (from to : BytesOf) (text before : List ℕ) (at : ℕ) (run : Run) (after : List ℕ)
    → IsTranscoded from to text before at run after → run.used ≤ length text
converted_within from to text before at run after p =
    omega (arith, p.uses, Begins-length (flat_map from p.characters) text p.begins)

-- what the first bytes of a text were converted to, copied from a buffer
pub copied : (from to : BytesOf) (text none front before : List ℕ) (at used n slack : ℕ) (after : List ℕ)
    → IsConvertedWithSlack from to text none 0 used n slack front → at + n ≤ length before
    → after ≡ take at before ++ take n front ++ drop (at + n) before
    → IsTranscoded from to text before at (record { used = used; wrote = n }) after
copied from to text none front before at used n slack after p fits out =
    all_converted from to text before at used n after (record {
      characters = p.characters;
      scalars = p.scalars;
      begins = p.begins;
      uses = p.uses;
      put = put_copied (flat_map to p.characters) none front before at n slack after p.put fits out;
    })
