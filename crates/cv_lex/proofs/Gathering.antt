-- The constants of an encoding, one after another.
use Rattle.std.proofs.Common.{◌≡◌, ℕ, zero, suc, ◌+◌, ◌<◌, ◌≤◌, true, false, cond, List, [], ◌∷◌, ◌++◌, length, drop}
use Rattle.std.proofs.Common.{Option, Some, None, refl, sym, ◌∙◌, ap, arith, inl, inr, length-append, append_assoc}
use Rattle.std.proofs.Common.{append-nil, ltb}
use Rattle.std.specs.Prelude.{option_map, option_and_then, nat_le, ◌&&◌, IfSome, Ok, Err}
use Rattle.std.proofs.lemmas.Bool.{cases_lt, lt-ltb, le-ltb}
use Rattle.std.proofs.lemmas.List.{length-drop}
use Rattle.cv_lex.specs.Words.{begins, numeral}
use Rattle.cv_lex.specs.Constants.{letter_of, base_of_kind, digits_at, numeral_at, constant_at, numbers_within}
use Rattle.cv_lex.specs.Constants.{bytes_by}
use Rattle.cv_lex.specs.declared.encoding.Kind.{Kind}
use Rattle.cv_lex.specs.declared.cause.Cause.TheVariants.{Constant, Length}

abbrev Found : Type 0
Found = Option (ℕ × List ℕ)

-- what follows has at most this length
abbrev Within : ℕ → Found → Type 0
Within n o = IfSome o (λ c. length c.1 ≤ n)

number_within : (kind : Kind) (text : List ℕ) → Within (length text) (numeral_at kind text)
number_within kind text = elim (nat_le 2 (length (digits_at kind text))
    && nat_le (numeral (base_of_kind kind) (digits_at kind text)) 255) as (λ b. Within (length text) (cond b
    (Some (numeral (base_of_kind kind) (digits_at kind text), drop (length (digits_at kind text)) text)) None)) [
      | true ↦ omega (arith, length-drop (length (digits_at kind text)) text)
      | false ↦ tt
    ]

within_more : (m n : ℕ) (o : Found) → m ≤ n → Within m o → Within n o
within_more m n None le h = tt
within_more m n (Some c) le h = omega arith

-- what follows a constant is shorter than the text
pub constant_shorter : (escape : ℕ) (kind : Kind) (b : ℕ) (text : List ℕ)
    → Within (length text) (constant_at escape kind (b ∷ text))
unfolding constant_at
constant_shorter escape kind b text = elim (begins (b ∷ text) (escape ∷ letter_of kind)) as (λ t. Within (length text)
    (option_and_then (numeral_at kind) (cond t (Some (drop (length (letter_of kind)) text)) None))) [
      | true ↦ within_more (length (drop (length (letter_of kind)) text)) (length text) (numeral_at kind
          (drop (length (letter_of kind)) text)) (omega (arith, length-drop (length (letter_of kind)) text))
          (number_within kind (drop (length (letter_of kind)) text))
      | false ↦ tt
    ]

each_same : (f g : List ℕ → Option (List ℕ)) (n : ℕ) → ((rest : List ℕ) → length rest ≤ n → f rest ≡ g rest)
    → (o : Found) → Within n o → option_and_then (λ c. option_map (λ numbers. c.0 ∷ numbers) (f c.1)) o
    ≡ option_and_then (λ c. option_map (λ numbers. c.0 ∷ numbers) (g c.1)) o
each_same f g n same None h = refl
each_same f g n same (Some c) h = ap (option_map (λ numbers. c.0 ∷ numbers)) (same c.1 h)

-- a limit that is at least the text's length changes nothing
pub enough : (escape : ℕ) (kind : Kind) (k j : ℕ) (text : List ℕ) → length text ≤ k → length text ≤ j
    → numbers_within k escape kind text ≡ numbers_within j escape kind text
enough escape kind k j [] p q = refl
enough escape kind zero j (b ∷ text) p q = absurd (omega arith)
enough escape kind (suc k) zero (b ∷ text) p q = absurd (omega arith)
enough escape kind (suc k) (suc j) (b ∷ text) p q = each_same (numbers_within k escape kind)
    (numbers_within j escape kind) (length text) (λ rest short. enough escape kind k j rest (omega arith) (omega arith))
    (constant_at escape kind (b ∷ text)) (constant_shorter escape kind b text)

-- numbers before others
abbrev pub prepend : List ℕ → Option (List ℕ) → Option (List ℕ)
prepend numbers o = option_map (λ more. numbers ++ more) o

-- what was gathered so far
pub record IsGathered (escape : ℕ) (kind : Kind) (text rest piece : List ℕ) (count : ℕ) : Type 0 where
  pub numbers : List ℕ
  pub so_far : numbers_within (length text) escape kind text
      ≡ prepend numbers (numbers_within (length rest) escape kind rest)
  pub few : count ≤ 8 → (piece ≡ numbers) × (length numbers ≡ count)
  pub many : 8 < count → 8 < length numbers
  pub below : count ≤ 9

prepend_more : (numbers : List ℕ) (n : ℕ) (o : Option (List ℕ))
    → prepend numbers (option_map (λ more. n ∷ more) o) ≡ prepend (numbers ++ n ∷ []) o
prepend_more numbers n None = refl
prepend_more numbers n (Some more) = ap Some (sym (append_assoc numbers (n ∷ []) more))

step : (escape : ℕ) (kind : Kind) (rest more : List ℕ) (n : ℕ) → constant_at escape kind rest ≡ Some (n, more)
    → 0 < length rest → numbers_within (length rest) escape kind rest
    ≡ option_map (λ numbers. n ∷ numbers) (numbers_within (length more) escape kind more)
step escape kind [] more n e h = absurd (omega arith)
step escape kind (b ∷ rest) more n e h =
    let short : length more ≤ length rest = subst_within (constant_shorter escape kind b rest) in
    ap (option_and_then (λ c. option_map (λ numbers. c.0 ∷ numbers) (numbers_within (length rest) escape kind c.1))) e
    ∙ ap (option_map (λ numbers. n ∷ numbers)) (enough escape kind (length rest) (length more) more short (omega arith))
  where
    subst_within : Within (length rest) (constant_at escape kind (b ∷ rest)) → length more ≤ length rest
    subst_within w = rw e at w

stops : (escape : ℕ) (kind : Kind) (rest : List ℕ) → constant_at escape kind rest ≡ None → 0 < length rest
    → numbers_within (length rest) escape kind rest ≡ None
stops escape kind [] e h = absurd (omega arith)
stops escape kind (b ∷ rest) e h =
    ap (option_and_then (λ c. option_map (λ numbers. c.0 ∷ numbers) (numbers_within (length rest) escape kind c.1))) e

module _ (escape : ℕ) (kind : Kind) (text rest piece : List ℕ) (count : ℕ)
    (own : IsGathered escape kind text rest piece count) where
  -- one more constant
  pub one_more : (more : List ℕ) (n : ℕ) → constant_at escape kind rest ≡ Some (n, more) → 0 < length rest
      → (piece' : List ℕ) (count' : ℕ) → (count < 8 → (piece' ≡ piece ++ n ∷ []) × (count' ≡ count + 1))
      → (8 ≤ count → (count' ≡ 9)) → IsGathered escape kind text more piece' count'
  one_more more n e h piece' count' low high = record {
    numbers = own.numbers ++ n ∷ [];
    so_far = own.so_far ∙ ap (prepend own.numbers) (step escape kind rest more n e h)
        ∙ prepend_more own.numbers n (numbers_within (length more) escape kind more);
    few = λ le. elim (cases_lt count 8) [
      | inl lt ↦ let l = low lt in let f = own.few (omega arith) in
          (l.0 ∙ ap (λ p. p ++ n ∷ []) f.0, omega (arith, length-append own.numbers (n ∷ []), f.1, l.1))
      | inr ge ↦ absurd (let x = high ge in omega arith)
    ];
    many = λ big. elim (cases_lt count 8) [
      | inl lt ↦ absurd (let l = low lt in omega (arith, l.1))
      | inr ge ↦ elim (cases_lt 8 count) [
        | inl above ↦ (let m = own.many above in omega (arith, length-append own.numbers (n ∷ [])))
        | inr same ↦ (let f = own.few same in omega (arith, length-append own.numbers (n ∷ []), f.1))
      ]
    ];
    below = elim (cases_lt count
        8) [ inl lt ↦ (let l = low lt in omega (arith, l.1)) | inr ge ↦ (let x = high ge in omega arith) ];
  }

  ended : rest ≡ [] → numbers_within (length text) escape kind text ≡ Some own.numbers
  ended none = own.so_far ∙ ap (λ (r : List ℕ). prepend own.numbers (numbers_within (length r) escape kind r)) none
      ∙ ap Some (append-nil own.numbers)

  -- at the end up to eight numbers are the bytes
  pub all_gathered : rest ≡ [] → count ≤ 8 → bytes_by (numbers_within (length text) escape kind text) ≡ Ok piece
  all_gathered none le =
      let f = own.few le in
      let low : ltb 8 (length own.numbers) ≡ false = le-ltb _ _ (omega (arith, f.1)) in
      ap bytes_by (ended none) ∙ (rw low (ap Ok (sym f.0)))

  -- at the end more than eight numbers are too many
  pub too_many : rest ≡ [] → 8 < count → bytes_by (numbers_within (length text) escape kind text) ≡ Err Length
  too_many none big =
      let high : ltb 8 (length own.numbers) ≡ true = lt-ltb _ _ (own.many big) in
      ap bytes_by (ended none) ∙ (rw high refl)

  -- if no constant is next, there are no bytes
  pub no_constant : constant_at escape kind rest ≡ None → 0 < length rest
      → bytes_by (numbers_within (length text) escape kind text) ≡ Err Constant
  no_constant e h = ap bytes_by (own.so_far ∙ ap (prepend own.numbers) (stops escape kind rest e h))
