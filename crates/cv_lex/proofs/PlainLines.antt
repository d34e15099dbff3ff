-- Mapping lines of the commonest form.
use Rattle.std.proofs.Common.{◌≡◌, ◌≢◌, ℕ, suc, ◌+◌, ◌*◌, ◌<◌, ◌≤◌, Bool, true, false, List, [], ◌∷◌, ◌++◌, length}
use Rattle.std.proofs.Common.{take, drop, get_or, set, Option, None, Some, refl, sym, ◌∙◌, ap, arith}
use Rattle.std.specs.Prelude.{◌==◌, nat_le, Ok}
use Rattle.std.specs.Char.{digit_value, is_digit}
use Rattle.std.specs.List.{before_first, prefix_len, list_any}
use Rattle.std.proofs.lemmas.Bool.{eq-eqb, ne_eqb, lt-ltb, ltb-true, le-leb, and_parts}
use Rattle.std.proofs.lemmas.List.{drop_more, length-take, take-append-drop, take_more_set}
use Rattle.cv_lex.proofs.Gathering.{IsGathered, prepend, one_more, all_gathered}
use Rattle.cv_lex.specs.Words.{is_blank, begins, after_blanks, are_digits, numeral}
use Rattle.cv_lex.specs.Names.{digits_of, scalar_of, character_of}
use Rattle.cv_lex.specs.Constants.{constant_at, numbers_within, bytes_by, bytes_of}
use Rattle.cv_lex.specs.Mappings.{One, with_byte, name_from, plain, encoding_at, single_by, mapping_of}
use Rattle.cv_lex.specs.Readings.{Maps, reading_of}
use Rattle.cv_lex.specs.Private.Plain.{HasNumber, IsApart}
use Rattle.cv_lex.specs.declared.encoding.Kind.TheVariants.{Hexadecimal}
use Rattle.cv_lex.specs.declared.line.Marks.{Marks}
use Rattle.cv_lex.proofs.MappingLaws.{mapping_fit}
use Rattle.cv_lex.proofs.PlainNames.{no_escape}

-- ---- digits

-- a digit is not a byte that is none
not_digit : (b x : ℕ) → 36 ≤ digit_value x → digit_value b < 16 → (b == x) ≡ false
not_digit b x e h = ne_eqb b x (λ same. let v : digit_value b ≡ digit_value x = ap digit_value same in omega arith)

-- a digit is no blank
pub digit_visible : (b : ℕ) → digit_value b < 16 → is_blank b ≡ false
digit_visible b h = rw (not_digit b 32 (omega arith) h, not_digit b 9 (omega arith) h) refl

-- ---- a word

-- the bytes up to the first blank
abbrev pub word : List ℕ → List ℕ
word text = before_first is_blank text

take_first : (n b : ℕ) (rest : List ℕ) → take (1 + n) (b ∷ rest) ≡ b ∷ take n rest
take_first n b rest = let e : 1 + n ≡ suc n = omega arith in rw e refl

pub word_more : (b : ℕ) (rest : List ℕ) → is_blank b ≡ false → word (b ∷ rest) ≡ b ∷ word rest
word_more b rest e = rw e (take_first _ b rest)

pub word_ends : (b : ℕ) (rest : List ℕ) → is_blank b ≡ true → word (b ∷ rest) ≡ []
word_ends b rest e = rw e refl

-- ---- constants

-- `x` and two digits after the escape character
pub constant_is : (escape h l : ℕ) (more : List ℕ) → digit_value h < 16 → digit_value l < 16
    → constant_at escape Hexadecimal (escape ∷ 120 ∷ h ∷ l ∷ more) ≡ Some (16 * digit_value h + digit_value l, more)
unfolding constant_at
constant_is escape h l more p q =
    let same : (escape == escape) ≡ true = eq-eqb escape escape refl in
    let first : is_digit h 16 ≡ true = lt-ltb _ _ p in
    let second : is_digit l 16 ≡ true = lt-ltb _ _ q in
    let small : nat_le (16 * digit_value h + digit_value l) 255 ≡ true = le-leb _ _ (omega arith) in
    let none : 0 + digit_value h ≡ digit_value h = omega arith in
    rw (same, first, second, none, small) refl

-- a text of at least this many bytes, by its first bytes
pub one_of : (text : List ℕ) → 1 ≤ length text → text ≡ get_or text 0 0 ∷ drop 1 text
one_of [] h = absurd (omega arith)
one_of (a ∷ text) h = refl

pub two_of : (text : List ℕ) → 2 ≤ length text → text ≡ get_or text 0 0 ∷ get_or text 1 0 ∷ drop 2 text
two_of [] h = absurd (omega arith)
two_of (a ∷ []) h = absurd (omega arith)
two_of (a ∷ b ∷ text) h = refl

pub four_of : (text : List ℕ) → 4 ≤ length text
    → text ≡ get_or text 0 0 ∷ get_or text 1 0 ∷ get_or text 2 0 ∷ get_or text 3 0 ∷ drop 4 text
four_of [] h = absurd (omega arith)
four_of (a ∷ []) h = absurd (omega arith)
four_of (a ∷ b ∷ []) h = absurd (omega arith)
four_of (a ∷ b ∷ c ∷ []) h = absurd (omega arith)
four_of (a ∷ b ∷ c ∷ d ∷ text) h = refl

none_before : (o : Option (List ℕ)) → o ≡ prepend [] o
none_before None = refl
none_before (Some bytes) = refl

-- at first nothing is gathered
pub gathers_none : (escape : ℕ) (text : List ℕ) → IsGathered escape Hexadecimal text text [] 0
gathers_none escape text = record {
  numbers = [];
  so_far = none_before (numbers_within (length text) escape Hexadecimal text);
  few = λ _. (refl, refl);
  many = λ h. absurd (omega arith);
  below = omega arith;
}

-- one more constant is gathered
pub gathers_more : (escape : ℕ) (text rest bytes : List ℕ) (n x : ℕ) → is_blank escape ≡ false → IsGathered escape
    Hexadecimal (word text) (word rest) (take n bytes) n → 4 ≤ length rest → get_or rest 0 0 ≡ escape → get_or rest 1 0
    ≡ 120 → digit_value (get_or rest 2 0) < 16 → digit_value (get_or rest 3 0) < 16 → n < 8 → n < length bytes
    → x ≡ 16 * digit_value (get_or rest 2 0) + digit_value (get_or rest 3 0)
    → IsGathered escape Hexadecimal (word text) (word (drop 4 rest)) (take (n + 1) (set bytes n x)) (n + 1)
gathers_more escape text rest bytes n x visible own long mark letter high low room within is =
    let h = get_or rest 2 0 in
    let l = get_or rest 3 0 in
    let more = drop 4 rest in
    let cut : rest ≡ escape ∷ 120 ∷ h ∷ l ∷ more = four_of rest long
    ∙ ap (λ (b : ℕ). b ∷ get_or rest 1 0 ∷ h ∷ l ∷ more) mark ∙ ap (λ (b : ℕ). escape ∷ b ∷ h ∷ l ∷ more) letter in
    let wording : word rest ≡ escape ∷ 120 ∷ h ∷ l ∷ word more = ap word cut ∙ word_more escape
    (120 ∷ h ∷ l ∷ more) visible ∙ ap (λ (x : List ℕ). escape ∷ x) (word_more 120 (h ∷ l ∷ more) refl)
    ∙ ap (λ (x : List ℕ). escape ∷ 120 ∷ x) (word_more h (l ∷ more) (digit_visible h high))
    ∙ ap (λ (x : List ℕ). escape ∷ 120 ∷ h ∷ x) (word_more l more (digit_visible l low)) in
    let found : constant_at escape Hexadecimal (word rest) ≡ Some (x, word more) = ap (constant_at escape Hexadecimal)
    wording ∙ constant_is escape h l (word more) high low ∙ ap (λ (b : ℕ). Some (b, word more)) (sym is) in
    one_more escape Hexadecimal (word text) (word rest)
    (take n bytes) n own (word more) x found (omega (arith, ap length wording)) (take (n + 1) (set bytes n x)) (n + 1)
    (λ _. (take_more_set bytes n x within, refl)) (λ m. absurd (omega arith))

-- constants whose bytes were gathered are the encoding
pub bytes_are : (escape : ℕ) (tail bytes : List ℕ) → is_blank escape ≡ false
    → bytes_by (numbers_within (length (word (escape ∷ 120 ∷ tail))) escape Hexadecimal (word (escape ∷ 120 ∷ tail)))
    ≡ Ok bytes → bytes_of escape (word (escape ∷ 120 ∷ tail)) ≡ Ok bytes
unfolding bytes_of
bytes_are escape tail bytes visible e =
    let begun : word (escape ∷ 120 ∷ tail) ≡ escape ∷ 120 ∷ word tail = word_more escape (120 ∷ tail) visible
    ∙ ap (λ x. escape ∷ x) (word_more 120 tail refl) in
    let some : (length (escape ∷ 120 ∷ word tail) == 0) ≡ false =
    ne_eqb _ 0 (let h : length (escape ∷ 120 ∷ word tail) ≢ 0 = omega arith in h) in
    rw (begun, some) (rw begun at e)

-- the bytes that were gathered are those of the encoding, if a blank or nothing follows
pub all_bytes : (escape : ℕ) (text rest bytes : List ℕ) (n : ℕ) → is_blank escape ≡ false → IsGathered escape
    Hexadecimal (word text) (word rest) bytes n → 2 ≤ length text → get_or text 0 0 ≡ escape → get_or text 1 0 ≡ 120
    → word rest ≡ [] → n ≤ 8 → bytes_of escape (word text) ≡ Ok bytes
all_bytes escape text rest bytes n visible own long mark letter ended few =
    let cut : text ≡ escape ∷ 120 ∷ drop 2 text = two_of text long
    ∙ ap (λ (b : ℕ). b ∷ get_or text 1 0 ∷ drop 2 text) mark ∙ ap (λ (b : ℕ). escape ∷ b ∷ drop 2 text) letter in
    let all = all_gathered escape Hexadecimal (word text) (word rest) bytes n own ended few in
    rw cut (bytes_are escape (drop 2 text) bytes visible (rw cut at all))

-- the word at a blank is empty
pub word_at : (rest : List ℕ) → 1 ≤ length rest → is_blank (get_or rest 0 0) ≡ true → word rest ≡ []
word_at [] h e = absurd (omega arith)
word_at (b ∷ rest) h e = word_ends b rest e

pub word_none : (rest : List ℕ) → length rest < 1 → word rest ≡ []
word_none [] h = refl
word_none (b ∷ rest) h = absurd (omega arith)

-- ---- names

-- the name of a number up to an index
pub number_is : (text ds : List ℕ) (number n : ℕ) → text ≡ 85 ∷ ds → n < length ds → get_or ds n 0 ≡ 62 → 4 ≤ n → n ≤ 8
    → are_digits 16 (take n ds) ≡ true → number ≡ numeral 16 (take n ds) → HasNumber text number (drop (n + 1) ds)
number_is text ds number n whole lt close four eight all value =
    let cut : ds ≡ take n ds ++ 62 ∷ drop (n + 1) ds = sym (take-append-drop n ds)
    ∙ ap (λ (x : List ℕ). take n ds ++ x) (drop_more ds n 0 lt ∙ ap (λ (b : ℕ). b ∷ drop (n + 1) ds) close) in
    record {
      digits = take n ds;
      is = whole ∙ ap (λ (x : List ℕ). 85 ∷ x) cut;
      four = omega (arith, length-take n ds);
      eight = omega (arith, length-take n ds);
      all = all;
      value = value;
    }

module _ (escape : ℕ) (apart : IsApart escape) where
  open_is : (62 == escape) ≡ false
  open_is = ne_eqb 62 escape (λ e. apart.no_close (sym e))

  name_runs : (digits rest : List ℕ) → are_digits 16 digits ≡ true
      → name_from escape false (digits ++ 62 ∷ rest) ≡ Some (digits, rest)
  name_runs [] rest all = rw open_is refl
  name_runs (d ∷ digits) rest all =
      let parts = and_parts (is_digit d 16) (are_digits 16 digits) all in
      let low = ltb-true _ _ parts.0 in
      rw (not_digit d escape apart.high low, not_digit d 62 (omega arith) low)
      (ap (with_byte d) (name_runs digits rest parts.1))

  none_escapes : (digits : List ℕ) → are_digits 16 digits ≡ true → list_any (λ b. b == escape) digits ≡ false
  none_escapes [] all = refl
  none_escapes (d ∷ digits) all =
      let parts = and_parts (is_digit d 16) (are_digits 16 digits) all in
      rw (not_digit d escape apart.high (ltb-true _ _ parts.0)) (none_escapes digits parts.1)

  -- the letter is not the escape character
  letter_is : (85 == escape) ≡ false
  letter_is = ne_eqb 85 escape
      (λ e. let v : digit_value escape ≡ 30 = ap digit_value (sym e) in let h = apart.high in omega arith)

  name_is : (digits rest : List ℕ) → are_digits 16 digits ≡ true
      → name_from escape false (85 ∷ digits ++ 62 ∷ rest) ≡ Some (85 ∷ digits, rest)
  name_is digits rest all = rw letter_is (ap (with_byte 85) (name_runs digits rest all))

  plain_is : (digits : List ℕ) → are_digits 16 digits ≡ true → plain escape (85 ∷ digits) ≡ 85 ∷ digits
  plain_is digits all = no_escape escape (85 ∷ digits) (rw letter_is (none_escapes digits all))

character_is : (digits : List ℕ) (c : ℕ) → 4 ≤ length digits → length digits ≤ 8 → are_digits 16 digits ≡ true
    → scalar_of (numeral 16 digits) ≡ Ok c → character_of (85 ∷ digits) ≡ Ok c
unfolding character_of digits_of
character_is digits c four eight all e = rw (le-leb _ _ four, le-leb _ _ eight, all) e

-- ---- what follows a name

some_bytes : (escape : ℕ) (text bytes : List ℕ) → bytes_of escape text ≡ Ok bytes → 0 < length text
unfolding bytes_of
some_bytes escape [] bytes e = absurd (cc)
some_bytes escape (b ∷ text) bytes e = omega arith

encoding_is : (escape : ℕ) (rest bytes : List ℕ) → 0 < prefix_len is_blank rest
    → bytes_of escape (word (after_blanks rest)) ≡ Ok bytes → encoding_at rest ≡ Some (word (after_blanks rest))
encoding_is escape rest bytes blanks e =
    rw (lt-ltb _ _ blanks, lt-ltb _ _ (some_bytes escape (word (after_blanks rest)) bytes e)) refl

no_dots : (rest more : List ℕ) → 0 < prefix_len is_blank rest → begins rest (46 ∷ 46 ∷ more) ≡ false
no_dots [] more blanks = absurd (omega arith)
no_dots (b ∷ rest) more blanks = go (is_blank b) refl
  where
    go : (t : Bool) → is_blank b ≡ t → begins (b ∷ rest) (46 ∷ 46 ∷ more) ≡ false
    go true e = rw (ne_eqb 46 b (λ same. absurd (let off : is_blank b ≡ false = ap is_blank (sym same) in cc))) refl
    go false e = (let none = rw e at blanks in absurd (omega (arith, none)))

-- ---- lines

-- a mapping line of this form
pub mapping_is : (escape : ℕ) (apart : IsApart escape) (name rest bytes : List ℕ) (number c : ℕ)
    → HasNumber name number rest → Ok c ≡ scalar_of number → 0 < prefix_len is_blank rest
    → bytes_of escape (word (after_blanks rest)) ≡ Ok bytes → mapping_of escape (60 ∷ name) ≡ Ok (One c bytes)
unfolding mapping_of single_by
mapping_is escape apart name rest bytes number c has scalar blanks e =
    let digits = has.digits in
    let named : name_from escape false name ≡ Some (85 ∷ digits, rest) = ap (name_from escape false) has.is
    ∙ name_is escape apart digits rest has.all in
    let character : character_of (plain escape (85 ∷ digits)) ≡ Ok c =
    ap character_of (plain_is escape apart digits has.all)
    ∙ character_is digits c has.four has.eight has.all (ap scalar_of (sym has.value) ∙ sym scalar) in
    rw
    (named, no_dots rest (46 ∷ []) blanks, no_dots rest [] blanks, encoding_is escape rest bytes blanks e, character, e)
    refl

-- such a line has at least one byte
pub mapping_some : (escape : ℕ) (name bytes : List ℕ) (c : ℕ) → mapping_of escape (60 ∷ name) ≡ Ok (One c bytes)
    → 0 < length bytes
mapping_some escape name bytes c e = (mapping_fit escape (60 ∷ name) (One c bytes) e).1

-- such a line is neither skipped nor ends the mappings
pub reading_is : (marks : Marks) (name bytes : List ℕ) (c : ℕ) → marks.inside ≡ true
    → mapping_of marks.escape (60 ∷ name) ≡ Ok (One c bytes) → reading_of marks (60 ∷ name) ≡ Ok (Maps (One c bytes))
unfolding reading_of
reading_is marks name bytes c inside e = rw (inside, e) refl
