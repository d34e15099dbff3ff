-- Characters of a stateless form: more of them, one after the other.
use Rattle.std.proofs.Common.{◌≡◌, ℕ, ◌+◌, ◌*◌, ◌<◌, ◌≤◌, List, [], ◌∷◌, ◌++◌, length, take, drop, refl, sym, ◌∙◌, ap}
use Rattle.std.proofs.Common.{arith, length-append, length-drop, length-take, append_assoc, append-nil, slice_set}
use Rattle.std.proofs.Common.{get_or}
use Rattle.std.proofs.Math.Seq.{take-add, drop-cons}
use Rattle.std.specs.List.{flat_map}
use Rattle.std.proofs.lemmas.List.{drop-drop, take_more_set, length-set, nil_from_length}
use Rattle.std.proofs.lemmas.Grind.{flat_map-append}
use Rattle.cv_base.specs.Scalars.{AreScalars}
use Rattle.cv_block.specs.StatelessForms.{BytesOf, HasFourAtMost, IsFormAt, IsReadForm, IsWrittenForm}
use Rattle.cv_block.specs.declared.stateless_form.Converted.{Converted}
use Rattle.cv_base.proofs.Front.{Begins-length, Begins-join}

-- n characters that have used bytes
abbrev pub spelled : ℕ → ℕ → Converted
spelled n used = record { n = n; used = used }

-- characters, and characters after them
pub AreScalars-append : (a b : List ℕ) → AreScalars a → AreScalars b → AreScalars (a ++ b)
AreScalars-append [] b p q = q
AreScalars-append (c ∷ a) b p q = (p.0, AreScalars-append a b p.1 q)

-- the bytes that are read are within the text
pub read_within : (bytes_of : BytesOf) (text : List ℕ) (at : ℕ) (before : List ℕ) (n : ℕ) (run : Converted)
    (after : List ℕ) → IsReadForm bytes_of text at before n run after → at ≤ length text → at + run.used ≤ length text
read_within bytes_of text at before n run after p h =
    omega (arith, p.uses, Begins-length _ _ p.begins, length-drop at text)

-- more characters are read after others
pub read_more : (bytes_of : BytesOf) (text : List ℕ) (at : ℕ) (before : List ℕ) (n m u : ℕ) (mid : List ℕ)
    (k v place behind : ℕ) (after : List ℕ) → IsReadForm bytes_of text at before n (spelled m u) mid
    → place ≡ at + u → behind ≡ n + m → IsReadForm bytes_of text place mid behind (spelled k v) after
    → IsReadForm bytes_of text at before n (spelled (m + k) (u + v)) after
read_more bytes_of text at before n m u mid k v place behind after p e f q =
    let c = p.characters in
    let d = q.characters in
    let long : length (flat_map bytes_of (c ++ d)) ≡ length (flat_map bytes_of c) + length (flat_map bytes_of d) =
    ap length (flat_map-append bytes_of c d) ∙ length-append (flat_map bytes_of c) (flat_map bytes_of d) in
    let there : drop place text ≡ drop (length (flat_map bytes_of c)) (drop at text) =
    ap (λ i. drop i text) (e ∙ (let o : at + u ≡ at + length (flat_map bytes_of c) = omega (arith, p.uses) in o))
    ∙ sym (drop-drop (length (flat_map bytes_of c)) at text) in
    let count : length (c ++ d) ≡ length c + length d = length-append c d in
    record {
      characters = c ++ d;
      scalars = AreScalars-append c d p.scalars q.scalars;
      begins = rw (flat_map-append bytes_of c d)
          (Begins-join (flat_map bytes_of c) (flat_map bytes_of d) (drop at text) p.begins (rw there at q.begins));
      uses = omega (arith, long, p.uses, q.uses);
      counts = omega (arith, count, p.counts, q.counts);
      stand = ap (λ i. take i after) (let o : n + (m + k) ≡ behind + k = omega (arith, f) in o) ∙ q.stand
          ∙ ap (λ (x : List ℕ). x ++ d) (ap (λ i. take i mid) f ∙ p.stand) ∙ append_assoc (take n before) c d;
      fits = omega (arith, q.fits, p.size, f);
      size = q.size ∙ p.size;
    }

-- characters are read if none was read before them
pub read_after_none : (bytes_of : BytesOf) (text : List ℕ) (at : ℕ) (before : List ℕ) (n : ℕ) (none : Converted)
    (mid : List ℕ) (run : Converted) (after : List ℕ) → none.n ≡ 0 → IsReadForm bytes_of text at before n none mid
    → IsReadForm bytes_of text at mid n run after → IsReadForm bytes_of text at before n run after
read_after_none bytes_of text at before n none mid run after z p q =
    let stayed : take n mid ≡ take n before = ap (λ i. take i mid) (let o : n ≡ n + none.n = omega arith in o) ∙ p.stand
    ∙ ap (λ (x : List ℕ). take n before ++ x) (nil_from_length p.characters (sym p.counts ∙ z))
    ∙ append-nil (take n before) in
    record {
      characters = q.characters;
      scalars = q.scalars;
      begins = q.begins;
      uses = q.uses;
      counts = q.counts;
      stand = q.stand ∙ ap (λ (x : List ℕ). x ++ q.characters) stayed;
      fits = omega (arith, q.fits, p.size);
      size = q.size ∙ p.size;
    }

-- one more character is read after others
pub read_one_more : (bytes_of : BytesOf) (text : List ℕ) (at : ℕ) (before : List ℕ) (n m u : ℕ) (mid : List ℕ) (c k : ℕ)
    → IsReadForm bytes_of text at before n (spelled m u) mid → n + m < length before → IsFormAt bytes_of text
    (at + u) c k → IsReadForm bytes_of text at before n (spelled (m + 1) (u + k)) (slice_set mid (n + m) c)
read_one_more bytes_of text at before n m u mid c k p h q =
    read_more bytes_of text at before n m u mid 1 k (at + u) (n + m) (slice_set mid (n + m) c) p refl refl (record {
      characters = c ∷ [];
      scalars = (q.0, tt);
      begins = rw append-nil q.1;
      uses = rw append-nil q.2;
      counts = refl;
      stand = take_more_set mid (n + m) c (omega (arith, p.size));
      fits = omega (arith, p.size);
      size = length-set mid (n + m) c;
    })

-- the bytes of characters that each have at most four
pub short_all : (bytes_of : BytesOf) → HasFourAtMost bytes_of → (characters : List ℕ)
    → length (flat_map bytes_of characters) ≤ 4 * length characters
short_all bytes_of short [] = omega arith
short_all bytes_of short (c ∷ characters) = omega
    (arith, length-append (bytes_of c) (flat_map bytes_of characters), short c, short_all bytes_of short characters)

-- what is written has at most four bytes for each character
pub written_few : (bytes_of : BytesOf) → HasFourAtMost bytes_of
    → (characters : List ℕ) (n : ℕ) (before : List ℕ) (at : ℕ) (run : Converted) (after : List ℕ)
    → IsWrittenForm bytes_of characters n before at run after → run.used ≤ 4 * run.n
written_few bytes_of short characters n before at run after p =
    let front : List ℕ = take run.n (drop n characters) in
    omega (
      arith,
      p.uses,
      p.within,
      short_all bytes_of short front,
      length-take run.n (drop n characters),
      length-drop n characters,
    )

-- more characters are written after others
pub written_more : (bytes_of : BytesOf) (characters : List ℕ) (n : ℕ) (before : List ℕ) (at m u : ℕ) (mid : List ℕ)
    (k v place behind : ℕ) (after : List ℕ) → IsWrittenForm bytes_of characters n before at (spelled m u) mid
    → place ≡ at + u → behind ≡ n + m → IsWrittenForm bytes_of characters behind mid place (spelled k v) after
    → IsWrittenForm bytes_of characters n before at (spelled (m + k) (u + v)) after
written_more bytes_of characters n before at m u mid k v place behind after p e f q =
    let c : List ℕ = take m (drop n characters) in
    let d : List ℕ = take k (drop behind characters) in
    let there : drop m (drop n characters) ≡ drop behind characters = drop-drop m n characters
    ∙ ap (λ i. drop i characters) (sym f) in
    let both : take (m + k) (drop n characters) ≡ c ++ d = take-add m k (drop n characters)
    ∙ ap (λ (x : List ℕ). c ++ take k x) there in
    let bytes : flat_map bytes_of (take (m + k) (drop n characters)) ≡ flat_map bytes_of c ++ flat_map bytes_of d =
    ap (flat_map bytes_of) both ∙ flat_map-append bytes_of c d in
    record {
      within = omega (arith, q.within, f);
      uses = omega (arith, ap length bytes, length-append (flat_map bytes_of c) (flat_map bytes_of d), p.uses, q.uses);
      fits = omega (arith, q.fits, p.size, e);
      stand = ap (λ i. take i after) (let o : at + (u + v) ≡ place + v = omega (arith, e) in o) ∙ q.stand ∙ ap
          (λ (x : List ℕ). x ++ flat_map bytes_of d) (ap (λ i. take i mid) e ∙ p.stand) ∙ append_assoc (take at before)
          (flat_map bytes_of c) (flat_map bytes_of d) ∙ ap (λ (x : List ℕ). take at before ++ x) (sym bytes);
      size = q.size ∙ p.size;
    }

-- one more character is written after others
pub written_one_more : (bytes_of : BytesOf) (characters : List ℕ) (n : ℕ) (before : List ℕ) (at m u : ℕ) (mid : List ℕ)
    (c k : ℕ) (after : List ℕ) → IsWrittenForm bytes_of characters n before at (spelled m u) mid
    → n + m < length characters → c ≡ get_or characters (n + m) 0 → k ≡ length (bytes_of c)
    → take (at + u + k) after ≡ take (at + u) mid ++ bytes_of c → length after ≡ length mid
    → IsWrittenForm bytes_of characters n before at (spelled (m + 1) (u + k)) after
written_one_more bytes_of characters n before at m u mid c k after p h is size stand long =
    let one : take 1 (drop (n + m) characters) ≡ c ∷ [] =
    rw is (ap (λ (x : List ℕ). take 1 x) (drop-cons characters (n + m) 0 h)) in
    let bytes : flat_map bytes_of (take 1 (drop (n + m) characters)) ≡ bytes_of c = rw (one, append-nil) refl in
    written_more bytes_of characters n before at m u mid 1 k (at + u) (n + m) after p refl refl (record {
      within = omega arith;
      uses = rw bytes size;
      fits = omega (
        arith,
        ap length stand,
        length-append (take (at + u) mid) (bytes_of c),
        length-take (at + u + k) after,
        length-take (at + u) mid,
        p.fits,
        p.size,
      );
      stand = rw bytes stand;
      size = long;
    })

-- characters are written if none was written before them
pub written_after_none : (bytes_of : BytesOf) (characters : List ℕ) (n : ℕ) (before : List ℕ) (at : ℕ)
    (none : Converted) (mid : List ℕ) (run : Converted) (after : List ℕ) → none.n ≡ 0
    → IsWrittenForm bytes_of characters n before at none mid → IsWrittenForm bytes_of characters n mid at run after
    → IsWrittenForm bytes_of characters n before at run after
written_after_none bytes_of characters n before at none mid run after z p q =
    let used : none.used ≡ 0 = p.uses ∙ ap (λ k. length (flat_map bytes_of (take k (drop n characters)))) z in
    let stayed : take at mid ≡ take at before = ap (λ i. take i mid) (let o : at ≡ at + none.used = omega arith in o)
    ∙ p.stand ∙ ap (λ k. take at before ++ flat_map bytes_of (take k (drop n characters))) z
    ∙ append-nil (take at before) in
    record {
      within = q.within;
      uses = q.uses;
      fits = omega (arith, q.fits, p.size);
      stand = q.stand ∙ ap (λ (x : List ℕ). x ++ flat_map bytes_of (take run.n (drop n characters))) stayed;
      size = q.size ∙ p.size;
    }
