-- Runs that are converted one after the other.
use Rattle.std.proofs.Common.{◌≡◌, ℕ, ◌+◌, ◌-◌, ◌<◌, ◌≤◌, List, [], ◌∷◌, ◌++◌, length, length-append, length-take}
use Rattle.std.proofs.Common.{length-drop, take, drop, refl, sym, ◌∙◌, ap, ap₂, subst, arith, append-nil}
use Rattle.std.proofs.Common.{take-append-drop}
use Rattle.std.specs.List.{flat_map}
use Rattle.std.proofs.lemmas.Grind.{flat_map-append}
use Rattle.cv_base.proofs.Front.{Begins-join, rest_is}
use Rattle.cv_base.specs.Places.{IsPut}
use Rattle.cv_block.specs.StatelessForms.{BytesOf}
use Rattle.cv_block.proofs.FormRuns.{AreScalars-append}
use Rattle.cv_utf16.proofs.PutTwice.{put_both}
use Rattle.cv_transcode.specs.Runs.{IsTranscoded}
use Rattle.cv_transcode.specs.Private.Windows.{IsSupplementary}
use Rattle.cv_transcode.specs.declared.run.Run.{Run}
use Rattle.cv_utf8.specs.Utf16Lanes.{lane_characters, AreRead}
use Rattle.cv_utf8.specs.Utf8.{utf8_bytes}
use Rattle.cv_utf8.specs.declared.read.utf16_lanes.Utf16Lanes.{Utf16Lanes}

some_bytes : (c : ℕ) → 0 < length (utf8_bytes c)
some_bytes c = grind arith

-- a run without characters: nothing is used, and nothing is written
pub none_converted_exactly : (from to : BytesOf) (text before : List ℕ) (at : ℕ) → at ≤ length before
    → IsTranscoded from to text before at (record { used = 0; wrote = 0 }) before
none_converted_exactly from to text before at h =
    let end : at + 0 ≡ at = omega arith in
    record {
      characters = [];
      scalars = tt;
      begins = tt;
      uses = refl;
      put = record {
        wrote = refl;
        fits = omega arith;
        out = sym (take-append-drop at before) ∙ ap₂ (λ (x y : List ℕ). x ++ y) (sym (append-nil (take at before)))
            (ap (λ (i : ℕ). drop i before) (sym end));
      };
    }

-- a run is converted, and then another that begins at its end
pub joined : (from to : BytesOf) (text before : List ℕ) (at : ℕ) (r1 r2 : Run) (mid after : List ℕ)
    → IsTranscoded from to text before at r1 mid → IsTranscoded from to (drop r1.used text) mid (at + r1.wrote) r2 after
    → IsTranscoded from to text before at (record { used = r1.used + r2.used; wrote = r1.wrote + r2.wrote }) after
joined from to text before at r1 r2 mid after p q =
    let a = p.characters in
    let b = q.characters in
    let both : flat_map from (a ++ b) ≡ flat_map from a ++ flat_map from b = flat_map-append from a b in
    let out : flat_map to (a ++ b) ≡ flat_map to a ++ flat_map to b = flat_map-append to a b in
    let there : drop r1.used text ≡ drop (length (flat_map from a)) text = ap (λ (i : ℕ). drop i text) p.uses in
    record {
      characters = a ++ b;
      scalars = AreScalars-append a b p.scalars q.scalars;
      begins = rw both (Begins-join (flat_map from a) (flat_map from b) text p.begins (rw there at q.begins));
      uses = omega (arith, ap length both, length-append (flat_map from a) (flat_map from b), p.uses, q.uses);
      put = rw out (put_both (flat_map to a) (flat_map to b) before mid after at r1.wrote r2.wrote (at + r1.wrote) refl
          p.put q.put);
    }

-- a slice keeps its length when bytes are put into it
pub put_size : (bytes before : List ℕ) (at n : ℕ) (after : List ℕ) → IsPut bytes before at n after
    → length after ≡ length before
put_size bytes before at n after p =
    let front : List ℕ = take at before ++ bytes in
    omega (
      arith,
      ap length p.out,
      length-append front (drop (at + n) before),
      length-append (take at before) bytes,
      length-take at before,
      length-drop (at + n) before,
      p.fits,
      p.wrote,
    )

-- one character of four bytes more is converted
pub supplementary_more : (to : BytesOf) (text before : List ℕ) (at used c : ℕ) (mid after : List ℕ)
    → IsTranscoded utf8_bytes to text before at (record { used = used; wrote = used }) mid
    → IsSupplementary utf8_bytes (drop used text) c
    → IsPut (to c) mid (at + used) 4 after → IsTranscoded utf8_bytes to text before at
    (record { used = used + 4; wrote = used + 4 }) after
supplementary_more to text before at used c mid after p is put =
    let from : utf8_bytes c ++ [] ≡ utf8_bytes c = append-nil (utf8_bytes c) in
    let out : to c ++ [] ≡ to c = append-nil (to c) in
    let one : IsTranscoded utf8_bytes to (drop used text) mid (at + used) (record { used = 4; wrote = 4 }) after =
    record {
      characters = c ∷ [];
      scalars = (is.scalar, tt);
      begins = rw from (is.begins);
      uses =
          sym (ap length from ∙ is.size);
      put = rw out put;
    } in
    joined utf8_bytes to text before at (record { used = used; wrote = used }) (record { used = 4; wrote = 4 }) mid
    after p one

-- a window more is converted, if the bytes from index `at` on are those up to an index
pub units_on : (to : BytesOf) (text before : List ℕ) (at used end m : ℕ) (mid after : List ℕ) (units : Utf16Lanes)
    → at ≤ end → IsTranscoded utf8_bytes to text before at (record { used = used; wrote = end - at }) mid
    → AreRead text used units → IsPut (flat_map to (lane_characters units)) mid end m after
    → IsTranscoded utf8_bytes to text before at (record { used = used + units.used; wrote = end + m - at }) after
units_on to text before at used end m mid after units since p read put =
    let place : end ≡ at + (end - at) = omega (arith, since) in
    let total : end - at + m ≡ end + m - at = omega (arith, since) in
    let window : IsTranscoded utf8_bytes to (drop used text) mid (at + (end - at))
    (record { used = units.used; wrote = m }) after = record {
      characters = lane_characters units;
      scalars = read.scalars;
      begins = read.begins;
      uses = read.uses;
      put = subst (λ (i : ℕ). IsPut (flat_map to (lane_characters units)) mid i m after) place put;
    } in
    subst (λ (i : ℕ). IsTranscoded utf8_bytes to text before at (record { used = used + units.used; wrote = i }) after)
    total (joined utf8_bytes to text before at (record { used = used; wrote = end - at })
    (record { used = units.used; wrote = m }) mid after p window)

-- so are more bytes, which have as many in both encodings
pub run_on : (to : BytesOf) (text before : List ℕ) (at used end m : ℕ) (mid after : List ℕ)
    → at ≤ end → IsTranscoded utf8_bytes to text before at (record { used = used; wrote = end - at }) mid
    → IsTranscoded utf8_bytes to (take (length text - used) (drop used text)) mid end
    (record { used = m; wrote = m }) after
    → IsTranscoded utf8_bytes to text before at (record { used = used + m; wrote = end + m - at }) after
run_on to text before at used end m mid after since p q =
    let place : end ≡ at + (end - at) = omega (arith, since) in
    let total : end - at + m ≡ end + m - at = omega (arith, since) in
    let slice : IsTranscoded utf8_bytes to (drop used text) mid end (record { used = m; wrote = m }) after =
    subst (λ (x : List ℕ). IsTranscoded utf8_bytes to x mid end (record { used = m; wrote = m }) after)
    (rest_is used text) q in
    let there : IsTranscoded utf8_bytes to (drop used text) mid (at + (end - at)) (record { used = m; wrote = m })
    after = subst (λ (i : ℕ). IsTranscoded utf8_bytes to (drop used text) mid i (record { used = m; wrote = m }) after)
    place slice in
    subst (λ (i : ℕ). IsTranscoded utf8_bytes to text before at (record { used = used + m; wrote = i }) after) total
    (joined utf8_bytes to text before at (record { used = used; wrote = end - at })
    (record { used = m; wrote = m }) mid after p there)

no_characters : (characters : List ℕ) → length (flat_map utf8_bytes characters) ≡ 0 → characters ≡ []
no_characters [] h = refl
no_characters (c ∷ characters) h =
    absurd (omega (arith, h, some_bytes c, length-append (utf8_bytes c) (flat_map utf8_bytes characters)))

-- if no bytes are used, none are written
pub nothing_used : (to : BytesOf) (text before : List ℕ) (at used n : ℕ) (after : List ℕ) → used ≡ 0
    → IsTranscoded utf8_bytes to text before at (record { used = used; wrote = n }) after → after ≡ before
nothing_used to text before at used n after e p =
    let none : p.characters ≡ [] = no_characters p.characters (sym p.uses ∙ e) in
    let put : IsPut [] before at n after = subst (λ (x : List ℕ). IsPut (flat_map to x) before at n after) none p.put in
    let end : at + n ≡ at = omega (arith, put.wrote) in
    put.out ∙ ap₂ (λ (x y : List ℕ). x ++ y) (append-nil (take at before)) (ap (λ (i : ℕ). drop i before) end)
    ∙ take-append-drop at before
