use Rattle.std.proofs.Common.{◌≡◌, ◌≤◌, ◌<◌, ◌^◌, ◌∙◌, ℕ, zero, suc, List, length, take, true, None, Result, Ok, Err}
use Rattle.std.proofs.Common.{sym, ap, subst, rules, arith}
use Rattle.std.specs.Char.{is_ascii_digit}
use Rattle.std.specs.List.{list_all}
use Rattle.std.specs.Result.{OkIff, result_ok}
use Rattle.std.specs.Str.{IsUtf8, IsCharBoundary}
use Rattle.std.specs.Str.Parse.{digits_value}
use Rattle.std.proofs.lemmas.List.{get_or-take}
use Rattle.std.proofs.lemmas.List.Folds.{length-prefix_len}
use Rattle.std.proofs.lemmas.List.Sums.{prefix_len-le-length, prefix_len_passes, list_all-from_AllPass}
use Rattle.std.proofs.lemmas.Str.{IsCharBoundary-after_ascii, IsCharBoundary-start}
use Rattle.std.proofs.lemmas.Str.Parse.{IsNumeralModel, parse_digits, numerals_by_value}
use native.Mathlib.Numerals.{unary_clauses}
use Rattle.cv_cli.specs.Sizes.{digit_count, size_in}
use Rattle.cv_cli.proofs.size.size_of.Goals as goal

digits_pass : (word : List ℕ) → list_all is_ascii_digit (take (digit_count word) word) ≡ true
digits_pass word = list_all-from_AllPass is_ascii_digit (take (digit_count word) word) (λ k d l.
    let few : k < digit_count word = omega (arith, l, length-prefix_len is_ascii_digit word) in
    let same = sym (get_or-take (digit_count word) word k d few) in
    subst (λ c. is_ascii_digit c ≡ true) same (prefix_len_passes is_ascii_digit word k d few))

-- a text may be cut after the digits that it begins with
cut : (word : List ℕ) (n : ℕ) → IsUtf8 word → n ≤ digit_count word → IsCharBoundary word n
cut word zero u within = IsCharBoundary-start word u
cut word (suc n) u within =
    let digit = prefix_len_passes is_ascii_digit word n 0 (omega (arith, within)) in
    let few = prefix_len-le-length is_ascii_digit word in
    simp unary_clauses at (IsCharBoundary-after_ascii word n u (omega (arith, few, within)) (search (rules, digit)))

pub split_at-requires : goal.split_at-requires
split_at-requires c = search (rules, cut, c.utf8.word, c.digits_at.ensures)

own : IsNumeralModel (λ ds. list_all is_ascii_digit ds ≡ true) (digits_value 10)
own = numerals_by_value _ (search rules)

no_size : (word : List ℕ)
    → ¬ ((0 < length (take (digit_count word) word)) × (digits_value 10 (take (digit_count word) word) < 2 ^ 64))
    → size_in word ≡ None
no_size word none = grind (arith, none)

none_read : {E : Type 0} (r : Result ℕ E) (P : Type 0) (v : ℕ) → OkIff r P v → result_ok r ≡ None → ¬ P
none_read (Ok x) P v said none = search rules
none_read (Err e) P v said none = said

pub returns-in_err-number : goal.returns-in_err-number
returns-in_err-number c =
    let word = c.args.word.now in
    let digits = c.split_at.ensures.front ∙ ap (λ n. take n word) c.digits_at.ensures in
    let pass : list_all is_ascii_digit c.split_at.result.0.now ≡ true = rw digits (digits_pass word) in
    let said = parse_digits own 64 c.split_at.result.0.now c.parse.result c.parse.ensures.value.0 pass in
    let none = none_read _ _ _ said (sym c.ok.ensures.value ∙ c.in_err-number.was) in
    c.from_residual.ensures ∙ sym (no_size word (rw digits at none))
