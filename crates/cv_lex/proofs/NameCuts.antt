-- A name is cut off byte by byte.
use Rattle.std.proofs.Common.{◌≡◌, ◌≢◌, ℕ, ◌+◌, ◌<◌, Bool, true, false, List, [], ◌∷◌, ◌++◌, length, take, drop}
use Rattle.std.proofs.Common.{get_or, refl, ◌∙◌, ap, sym, Option, Some, None, append_assoc, append-nil}
use Rattle.std.specs.Prelude.{option_map}
use Rattle.std.proofs.lemmas.Bool.{eq-eqb, ne_eqb}
use Rattle.std.proofs.lemmas.List.{take_more, drop_more}
use Rattle.cv_lex.specs.Mappings.{name_from, with_byte}

-- bytes before a name
abbrev pub prepend : List ℕ → Option (List ℕ × List ℕ) → Option (List ℕ × List ℕ)
prepend bytes found = option_map (λ p. (bytes ++ p.0, p.1)) found

move : (bytes : List ℕ) (b : ℕ) (o : Option (List ℕ × List ℕ))
    → prepend bytes (with_byte b o) ≡ prepend (bytes ++ b ∷ []) o
move bytes b None = refl
move bytes b (Some p) = ap (λ (x : List ℕ). Some (x, p.1)) (sym (append_assoc bytes (b ∷ []) p.0))

module _ (escape : ℕ) (text : List ℕ) (n : ℕ) (lt : n < length text) (escaped : Bool) (r : Option (List ℕ × List ℕ))
    (so_far : r ≡ prepend (take n text) (name_from escape escaped (drop n text))) where
  step : (next : Bool) → name_from escape escaped (get_or text n 0 ∷ drop (n + 1) text)
      ≡ with_byte (get_or text n 0) (name_from escape next (drop (n + 1) text))
      → r ≡ prepend (take (n + 1) text) (name_from escape next (drop (n + 1) text))
  step next e = so_far ∙ ap (λ (x : List ℕ). prepend (take n text) (name_from escape escaped x)) (drop_more text n 0 lt)
      ∙ ap (prepend (take n text)) e ∙ move (take n text) (get_or text n 0) (name_from escape next (drop (n + 1) text))
      ∙ ap (λ (x : List ℕ). prepend x (name_from escape next (drop (n + 1) text))) (sym (take_more text n 0 lt))

  -- past a byte after an escape character
  pub name_goes_escaped : escaped ≡ true → r ≡ prepend (take (n + 1) text) (name_from escape false (drop (n + 1) text))
  name_goes_escaped is = step false (rw is refl)

  -- past an escape character
  pub name_escapes : escaped ≡ false → get_or text n 0 ≡ escape
      → r ≡ prepend (take (n + 1) text) (name_from escape true (drop (n + 1) text))
  name_escapes is e = step true (rw (is, eq-eqb (get_or text n 0) escape e) refl)

  -- past any other byte than `>`
  pub name_goes : escaped ≡ false → get_or text n 0 ≢ escape → get_or text n 0 ≢ 62
      → r ≡ prepend (take (n + 1) text) (name_from escape false (drop (n + 1) text))
  name_goes is e f = step false (rw (is, ne_eqb (get_or text n 0) escape e, ne_eqb (get_or text n 0) 62 f) refl)

  -- a `>` that is not escaped ends the name
  pub name_ends : escaped ≡ false → get_or text n 0 ≢ escape → get_or text n 0 ≡ 62
      → r ≡ Some (take n text, drop (n + 1) text)
  name_ends is e f =
      let here : name_from escape escaped (get_or text n 0 ∷ drop (n + 1) text) ≡ Some ([], drop (n + 1) text) =
      rw (is, ne_eqb (get_or text n 0) escape e, eq-eqb (get_or text n 0) 62 f) refl in
      so_far ∙ ap (λ (x : List ℕ). prepend (take n text) (name_from escape escaped x)) (drop_more text n 0 lt)
      ∙ ap (prepend (take n text)) here ∙ ap (λ (x : List ℕ). Some (x, drop (n + 1) text)) (append-nil (take n text))
