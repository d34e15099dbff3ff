-- The words of a text, one after another.
use Rattle.std.proofs.Common.{◌≡◌, ℕ, suc, ◌+◌, ◌<◌, Bool, true, false, not, get_or, List, [], ◌∷◌, length, take, drop}
use Rattle.std.proofs.Common.{refl, sym, ap, subst, ◌∙◌, arith, length-take}
use Rattle.std.specs.Prelude.{filter, nat_lt}
use Rattle.std.specs.List.{slice_split, prefix_len}
use Rattle.std.proofs.lemmas.Bool.{lt-ltb}
use Rattle.std.proofs.lemmas.List.{nil_from_length}
use Rattle.cv_commands.specs.Words.{is_space, words_of, after_spaces, after_word}

-- whether bytes are a word: they are not empty
abbrev pub is_word : List ℕ → Bool
is_word word = nat_lt 0 (length word)

-- how many bytes precede the first space
abbrev pub word_len : List ℕ → ℕ
word_len text = prefix_len (λ byte. not (is_space byte)) text

-- A text is split into its first word and the words of what follows that.
pub record Parts (text : List ℕ) : Type 0 where
  pub others : List (List ℕ)
  pub split : slice_split is_space text ≡ take (word_len text) text ∷ others
  pub words : filter is_word others ≡ words_of (drop (word_len text) text)

one_more : (n : ℕ) → 1 + n ≡ suc n
one_more n = omega arith

take_one_more : (n : ℕ) (byte : ℕ) (text : List ℕ) → take (1 + n) (byte ∷ text) ≡ byte ∷ take n text
take_one_more n byte text = ap (λ (k : ℕ). take k (byte ∷ text)) (one_more n)

drop_one_more : (n : ℕ) (byte : ℕ) (text : List ℕ) → drop (1 + n) (byte ∷ text) ≡ drop n text
drop_one_more n byte text = ap (λ (k : ℕ). drop k (byte ∷ text)) (one_more n)

parts_by : (b : Bool) (byte : ℕ) (text : List ℕ) → is_space byte ≡ b → Parts text → Parts (byte ∷ text)
unfolding words_of
parts_by true byte text e p = record {
  others = slice_split is_space text;
  split = rw e refl;
  words = rw (e, e) refl;
}
parts_by false byte text e p = record {
  others = p.others;
  split = rw (e, p.split) (ap (λ (word : List ℕ). word ∷ p.others) (sym (take_one_more (word_len text) byte text)));
  words = rw (e, drop_one_more (word_len text) byte text) p.words;
}

pub parts_of : (text : List ℕ) → Parts text
unfolding words_of
parts_of [] = record { others = []; split = refl; words = refl }
parts_of (byte ∷ text) = parts_by (is_space byte) byte text refl (parts_of text)

-- spaces at the start are no words
spaces_by : (b : Bool) (byte : ℕ) (text : List ℕ) → is_space byte ≡ b → words_of text ≡ words_of (after_spaces text)
    → words_of (byte ∷ text) ≡ words_of (after_spaces (byte ∷ text))
unfolding words_of
spaces_by true byte text e h = rw (e, drop_one_more (prefix_len is_space text) byte text) h
spaces_by false byte text e h = rw (e, e) refl

pub spaces_are_none : (text : List ℕ) → words_of text ≡ words_of (after_spaces text)
spaces_are_none [] = refl
spaces_are_none (byte ∷ text) = spaces_by (is_space byte) byte text refl (spaces_are_none text)

kept : (word : List ℕ) (words : List (List ℕ)) → is_word word ≡ true
    → filter is_word (word ∷ words) ≡ word ∷ filter is_word words
kept word words e = rw e refl

some_long : (word : List ℕ) → 0 < length word → is_word word ≡ true
some_long word some = lt-ltb 0 (length word) some

-- a text that begins with no space has a first word
pub first_word : (text : List ℕ) → 0 < length text → is_space (get_or text 0 0) ≡ false
    → words_of text ≡ take (word_len text) text ∷ words_of (drop (word_len text) text)
unfolding words_of
first_word [] some e = absurd (omega arith)
first_word (byte ∷ text) some e =
    let p : Parts (byte ∷ text) = parts_of (byte ∷ text) in
    let size : word_len (byte ∷ text) ≡ 1 + word_len text = rw e refl in
    let long : 0 < length (take (word_len (byte ∷ text)) (byte ∷ text)) =
    omega (arith, size, some, length-take (word_len (byte ∷ text)) (byte ∷ text)) in
    ap (filter is_word) p.split ∙ kept (take (word_len (byte ∷ text)) (byte ∷ text)) p.others (some_long _ long)
    ∙ ap (λ (words : List (List ℕ)). take (word_len (byte ∷ text)) (byte ∷ text) ∷ words) p.words

-- what follows the spaces at the start begins with none
stops_by : (b : Bool) (byte : ℕ) (text : List ℕ) → is_space byte ≡ b
    → (0 < length (after_spaces text) → is_space (get_or (after_spaces text) 0 0) ≡ false)
    → 0 < length (after_spaces (byte ∷ text)) → is_space (get_or (after_spaces (byte ∷ text)) 0 0) ≡ false
stops_by true byte text e h some =
    let same : after_spaces (byte ∷ text) ≡ after_spaces text =
    rw (e, drop_one_more (prefix_len is_space text) byte text) refl in
    subst (λ (x : List ℕ). is_space (get_or x 0 0) ≡ false) (sym same)
    (h (subst (λ (x : List ℕ). 0 < length x) same some))
stops_by false byte text e h some =
    let same : after_spaces (byte ∷ text) ≡ byte ∷ text = rw e refl in
    subst (λ (x : List ℕ). is_space (get_or x 0 0) ≡ false) (sym same) e

stops : (text : List ℕ) → 0 < length (after_spaces text) → is_space (get_or (after_spaces text) 0 0) ≡ false
stops [] some = absurd (omega (arith, some))
stops (byte ∷ text) some = stops_by (is_space byte) byte text refl (stops text) some

none_of_none : words_of [] ≡ []
unfolding words_of
none_of_none = refl

-- a text that has only spaces
pub no_words : (text rest : List ℕ) → rest ≡ after_spaces text → length rest ≡ 0 → words_of text ≡ []
no_words text rest r none = spaces_are_none text ∙ ap words_of (sym r ∙ nil_from_length rest none) ∙ none_of_none

-- the first word of any other, and what follows it
pub next_words : (text rest front back : List ℕ) (n : ℕ) → rest ≡ after_spaces text → 0 < length rest → n ≡ word_len
    rest → front ≡ take n rest → back ≡ drop n rest → (words_of text ≡ front ∷ words_of back) × (after_word text ≡ back)
unfolding after_word
next_words text rest front back n r some size f b =
    let starts : is_space (get_or rest 0 0) ≡ false = subst (λ (x : List ℕ). is_space (get_or x 0 0) ≡ false) (sym r)
    (stops text (subst (λ (x : List ℕ). 0 < length x) r some)) in
    let first : words_of rest ≡ take (word_len rest) rest ∷ words_of (drop (word_len rest) rest) =
    first_word rest some starts in
    let front' : front ≡ take (word_len rest) rest = f ∙ ap (λ (k : ℕ). take k rest) size in
    let back' : back ≡ drop (word_len rest) rest = b ∙ ap (λ (k : ℕ). drop k rest) size in (
      spaces_are_none text ∙ ap words_of (sym r) ∙ first ∙ ap (λ (w : List ℕ). w ∷ words_of (drop (word_len rest) rest))
          (sym front') ∙ ap (λ (x : List ℕ). front ∷ words_of x) (sym back'),
      ap (λ (x : List ℕ). drop (word_len x) x) (sym r) ∙ sym back',
    )
