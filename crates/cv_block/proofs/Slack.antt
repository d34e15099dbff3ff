-- Writes that may also change some bytes after those that are wanted, piece by piece.
use Rattle.std.proofs.Common.{◌≡◌, ℕ, ◌+◌, ◌-◌, ◌≤◌, List, ◌++◌, length, take, drop, refl, sym, ◌∙◌, ap, ap₂, subst}
use Rattle.std.proofs.Common.{arith, length-append, length-take, length-drop, append_assoc, take-append-drop}
use Rattle.std.specs.List.{flat_map}
use Rattle.std.specs.Simd.Lanes.{put_chunk}
use Rattle.std.proofs.lemmas.Grind.{flat_map-append}
use Rattle.std.proofs.lemmas.List.{drop-drop, take_at, drop_at}
use Rattle.std.proofs.lemmas.Simd.{put_chunk_is, length-put_chunk}
use Rattle.cv_base.specs.Places.{IsPut}
use Rattle.cv_block.specs.Slack.{IsPutWithSlack}

-- bytes that stay from an index on stay from a later one on
pub further : (before after : List ℕ) (i j : ℕ) → i ≤ j → drop i after ≡ drop i before → drop j after ≡ drop j before
further before after i j h e =
    let there : i + (j - i) ≡ j = omega arith in
    ap (λ n. drop n after) (sym there) ∙ sym (drop-drop (j - i) i after) ∙ ap (drop (j - i)) e
    ∙ drop-drop (j - i) i before ∙ ap (λ n. drop n before) there

-- bytes are put, and then others after them
pub put_more : (xs ys before : List ℕ) (at n first m slack place : ℕ) (mid after : List ℕ)
    → IsPutWithSlack xs before at n first mid → place ≡ at + n → IsPutWithSlack ys mid place m slack after
    → first ≤ m + slack → IsPutWithSlack (xs ++ ys) before at (n + m) slack after
put_more xs ys before at n first m slack place mid after p e q enough =
    let there : at + (n + m) ≡ place + m = omega (arith, e) in
    let end : at + (n + m) + slack ≡ place + m + slack = omega (arith, e) in
    record {
      wrote = omega (arith, length-append xs ys, p.wrote, q.wrote);
      fits = omega (arith, q.fits, p.size, e);
      stand = ap (λ i. take i after) there ∙ q.stand ∙ ap (λ (x : List ℕ). x ++ ys) (ap (λ i. take i mid) e ∙ p.stand)
          ∙ append_assoc (take at before) xs ys;
      behind = ap (λ i. drop i after) end ∙ q.behind ∙ further before mid (at + n + first) (place + m + slack)
          (omega (arith, e, enough)) p.behind ∙ ap (λ i. drop i before) (sym end);
      size = q.size ∙ p.size;
    }

-- the first bytes of a vector are put, and the others may be anything
pub put_part : (bytes lanes out : List ℕ) (at n wide slack : ℕ) → length lanes ≡ wide → at + wide ≤ length out
    → n ≤ wide → wide ≤ n + slack → take n lanes ≡ bytes → IsPutWithSlack bytes out at n slack (put_chunk at out lanes)
put_part bytes lanes out at n wide slack long room few most front =
    let rest : List ℕ = drop (length lanes) (drop at out) in
    let is : put_chunk at out lanes ≡ take at out ++ (lanes ++ rest) =
    put_chunk_is at out lanes (omega (arith, long)) in
    let parts : put_chunk at out lanes ≡ (take at out ++ bytes) ++ (drop n lanes ++ rest) =
    is ∙ ap (λ (x : List ℕ). take at out ++ (x ++ rest)) (sym (take-append-drop n lanes)
    ∙ ap (λ (x : List ℕ). x ++ drop n lanes) front) ∙ simp append_assoc refl in
    let size : length bytes ≡ n = ap length (sym front) ∙ (let l : length (take n lanes) ≡ n =
    omega (arith, length-take n lanes) in l) in
    let prefix : length (take at out ++ bytes) ≡ at + n = omega (
      arith,
      length-append (take at out) bytes,
      length-take at out,
      size,
    ) in
    let end : length (take at out ++ lanes) ≡ at + wide = omega (
      arith,
      length-append (take at out) lanes,
      length-take at out,
      long,
    ) in
    let whole : put_chunk at out lanes ≡ (take at out ++ lanes) ++ rest = is
    ∙ sym (append_assoc (take at out) lanes rest) in
    let behind : drop (at + wide) (put_chunk at out lanes) ≡ drop (at + wide) out = ap (drop (at + wide)) whole
    ∙ drop_at (take at out ++ lanes) rest (at + wide) end ∙ ap (λ i. drop i (drop at out)) long
    ∙ drop-drop wide at out in
    record {
      wrote = sym size;
      fits = omega arith;
      stand = ap (take (at + n)) parts ∙ take_at (take at out ++ bytes) (drop n lanes ++ rest) (at + n) prefix;
      behind = further out (put_chunk at out lanes) (at + wide) (at + n + slack) (omega arith) behind;
      size = length-put_chunk at out lanes;
    }

-- the first bytes of a vector are put, and at most sixteen others may be anything
pub put_front : (bytes lanes out : List ℕ) (at n wide : ℕ) → length lanes ≡ wide → at + wide ≤ length out → n ≤ wide
    → wide ≤ n + 16 → take n lanes ≡ bytes → IsPutWithSlack bytes out at n 16 (put_chunk at out lanes)
put_front bytes lanes out at n wide long room few most front =
    put_part bytes lanes out at n wide 16 long room few most front

-- bytes were put, and nothing else changed
pub put_exactly : (bytes before : List ℕ) (at n : ℕ) (after : List ℕ) → n ≡ length bytes → at + n ≤ length before
    → after ≡ take at before ++ bytes ++ drop (at + n) before → IsPutWithSlack bytes before at n 0 after
put_exactly bytes before at n after wrote fits out =
    let front : List ℕ = take at before ++ bytes in
    let long : length front ≡ at + n = omega (
      arith,
      length-append (take at before) bytes,
      length-take at before,
      wrote,
    ) in
    let end : at + n + 0 ≡ at + n = omega arith in
    record {
      wrote = wrote;
      fits = fits;
      stand = ap (take (at + n)) out ∙ take_at front (drop (at + n) before) (at + n) long;
      behind = ap (λ i. drop i after) end ∙ ap (drop (at + n)) out ∙ drop_at front (drop (at + n) before) (at + n) long
          ∙ ap (λ i. drop i before) (sym end);
      size = ap length out ∙ (let l : length (front ++ drop (at + n) before) ≡ length before =
          omega (arith, length-append front (drop (at + n) before), long, length-drop (at + n) before) in l);
    }

-- the first bytes of a buffer, copied
pub put_copied : (bytes none front before : List ℕ) (at n slack : ℕ) (after : List ℕ)
    → IsPutWithSlack bytes none 0 n slack front → at + n ≤ length before
    → after ≡ take at before ++ take n front ++ drop (at + n) before → IsPutWithSlack bytes before at n 0 after
put_copied bytes none front before at n slack after p fits out =
    let start : 0 + n ≡ n = omega arith in
    let is : take n front ≡ bytes = ap (λ i. take i front) (sym start) ∙ p.stand in
    put_exactly bytes before at n after p.wrote fits (out ∙ ap (λ (x : List ℕ).
    take at before ++ x ++ drop (at + n) before) is)

-- bytes were put if no bytes after them may be anything
pub put_whole : (bytes before : List ℕ) (at n : ℕ) (after : List ℕ) → IsPutWithSlack bytes before at n 0 after
    → IsPut bytes before at n after
put_whole bytes before at n after p =
    let end : at + n + 0 ≡ at + n = omega arith in
    record {
      wrote = p.wrote;
      fits = p.fits;
      out = sym (take-append-drop (at + n) after) ∙ ap (λ (x : List ℕ). x ++ drop (at + n) after) p.stand
          ∙ ap (λ (x : List ℕ). (take at before ++ bytes) ++ x) (ap (λ i. drop i after) (sym end) ∙ p.behind
          ∙ ap (λ i. drop i before) end);
    }

-- the bytes of the first units are put, and then those of the others
pub put_both : (bytes_of : ℕ → List ℕ) (units first second before : List ℕ) (k at n m : ℕ) (mid after : List ℕ)
    → first ≡ take k units → second ≡ drop k units → IsPutWithSlack (flat_map bytes_of first) before at n 16 mid
    → IsPutWithSlack (flat_map bytes_of second) mid (at + n) m 16 after
    → IsPutWithSlack (flat_map bytes_of units) before at (n + m) 16 after
put_both bytes_of units first second before k at n m mid after e f p q =
    let bytes : flat_map bytes_of first ++ flat_map bytes_of second ≡ flat_map bytes_of units =
    sym (flat_map-append bytes_of first second) ∙ ap (flat_map bytes_of) (ap₂ (λ (x y : List ℕ). x ++ y) e f
    ∙ take-append-drop k units) in
    subst (λ (x : List ℕ). IsPutWithSlack x before at (n + m) 16 after) bytes
    (put_more (flat_map bytes_of first) (flat_map bytes_of second) before at n 16 m 16 (at + n) mid after p refl q
    (omega arith))
