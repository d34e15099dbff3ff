-- Windows of UTF-8 that are written as UTF-16.
use Rattle.std.proofs.Common.{◌≡◌, ℕ, ◌+◌, ◌*◌, ◌≤◌, List, ◌++◌, length, length-append, length-take, length-drop, take}
use Rattle.std.proofs.Common.{drop, take-append-drop, refl, sym, ◌∙◌, ap, ap₂, subst, arith}
use Rattle.std.specs.Simd.Lanes.{put_chunk}
use Rattle.std.proofs.lemmas.List.{drop-drop}
use Rattle.std.proofs.lemmas.Simd.{put_chunk_is}
use Rattle.cv_base.specs.Places.{IsPut}
use Rattle.std.specs.List.{flat_map}
use Rattle.std.proofs.lemmas.Grind.{flat_map-append}
use Rattle.cv_base.proofs.Front.{Begins-length}
use Rattle.cv_block.specs.StatelessForms.{BytesOf}
use Rattle.cv_block.specs.Slack.{IsPutWithSlack}
use Rattle.cv_block.proofs.Slack.{put_more}
use Rattle.cv_utf8.specs.Utf16Lanes.{lane_characters, AreRead}
use Rattle.cv_utf8.specs.Utf8.{utf8_bytes}
use Rattle.cv_utf8.specs.declared.read.utf16_lanes.Utf16Lanes.{Utf16Lanes}

-- the characters of both parts are put
pub parts_put : (to : BytesOf) (units : Utf16Lanes) (before : List ℕ) (at : ℕ) (mid after : List ℕ)
    → IsPutWithSlack (flat_map to (take units.firsts units.first)) before at (2 * units.firsts) 16 mid
    → IsPutWithSlack (flat_map to (take units.seconds units.second)) mid (at + 2 * units.firsts) (2 * units.seconds) 16
    after → IsPutWithSlack (flat_map to (lane_characters units)) before at (2 * (units.firsts + units.seconds)) 16
    after
parts_put to units before at mid after p q =
    let first : List ℕ = take units.firsts units.first in
    let second : List ℕ = take units.seconds units.second in
    let size : 2 * units.firsts + 2 * units.seconds ≡ 2 * (units.firsts + units.seconds) = omega arith in
    let both = put_more (flat_map to first) (flat_map to second) before at (2 * units.firsts) 16 (2 * units.seconds) 16
    (at + 2 * units.firsts) mid after p refl q (omega arith) in
    rw (flat_map-append to first second) (subst (λ n. IsPutWithSlack (flat_map to first ++ flat_map to second) before at
    n 16 after) size both)

-- bytes are put, and the sixteen bytes after them are restored
pub put_back : (bytes before lanes : List ℕ) (at n : ℕ) (mid after : List ℕ) → IsPutWithSlack bytes before at n 16 mid
    → at + n + 16 ≤ length before → lanes ≡ take 16 (drop (at + n) before) → after ≡ put_chunk (at + n) mid lanes
    → IsPut bytes before at n after
put_back bytes before lanes at n mid after p room same back =
    let rest : List ℕ = drop (at + n) before in
    let long : length lanes ≡ 16 = ap length same ∙ (let l : length (take 16 rest) ≡ 16 =
    omega (arith, length-take 16 rest, length-drop (at + n) before) in l) in
    let whole : put_chunk (at + n) mid lanes ≡ take (at + n) mid ++ (lanes ++ drop (length lanes) (drop (at + n) mid)) =
    put_chunk_is (at + n) mid lanes (omega (arith, long, p.size)) in
    let behind : drop (length lanes) (drop (at + n) mid) ≡ drop 16 rest =
    ap (λ (i : ℕ). drop i (drop (at + n) mid)) long ∙ drop-drop 16 (at + n) mid ∙ p.behind
    ∙ sym (drop-drop 16 (at + n) before) in
    record {
      wrote = p.wrote;
      fits = p.fits;
      out = back ∙ whole ∙ ap₂ (λ (x y : List ℕ). x ++ y) p.stand (ap₂ (λ (x y : List ℕ). x ++ y) same behind
          ∙ take-append-drop 16 rest);
    }

-- the characters are within the text
pub read_within : (text : List ℕ) (at : ℕ) (units : Utf16Lanes) → at ≤ length text → AreRead text at units
    → at + units.used ≤ length text
read_within text at units h p = omega (
  arith,
  p.uses,
  Begins-length (flat_map utf8_bytes (lane_characters units)) (drop at text) p.begins,
  length-drop at text,
)

-- what was put is within the slice
pub put_within : (bytes before : List ℕ) (at n : ℕ) (after : List ℕ) → IsPut bytes before at n after
    → at + n ≤ length after
put_within bytes before at n after p =
    let front : List ℕ = take at before ++ bytes in
    omega (
      arith,
      ap length p.out,
      length-append front (drop (at + n) before),
      length-append (take at before) bytes,
      length-take at before,
      length-drop (at + n) before,
      p.fits,
      p.wrote,
    )
