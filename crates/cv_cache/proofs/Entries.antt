-- What the operations of `lru`, which go by number, do to the entries of a cache by text.
use Rattle.std.proofs.Common.{◌≡◌, ℕ, ◌-◌, true, false, cond, ◌&&◌, ◌==◌, List, [], ◌∷◌, map, take, None, Some, Ok}
use Rattle.std.proofs.Common.{MatchOption, Contains, nat_eq, inl, inr, refl, sym, ap, subst, ◌∙◌}
use Rattle.std.specs.List.{IsDistinct, find}
use Rattle.std.specs.Option.{option_map}
use Rattle.std.specs.Map.{lookup, lookup_entry, remove_entry, keys_of}
use Rattle.std.specs.Str.{bytes_eq}
use Rattle.std.specs.Arc.{arc_value}
use Rattle.std.specs.Cmp.{nat_eq_equiv}
use Rattle.std.proofs.lemmas.Bool.{eq-eqb, and_from, and_right, false_from_ne_true}
use Rattle.std.proofs.lemmas.Slice.Eq.{bytes_eq-Decides}
use Rattle.std.proofs.lemmas.List.{take-map}
use Rattle.std.proofs.lemmas.Map.Keys.{IsDistinct-head, IsDistinct-tail}
use Rattle.lru.specs.LruCache.{LruCache, lru_cache, promoted, put_entries}
use Rattle.lru.proofs.Splits.{Contains-head, Contains-tail, Contains-cons, Contains-nil}
use Rattle.lru.proofs.CallerLemmas.{Contains-put_entries, Contains-promoted, Contains-take}
use Rattle.cv_charmap.specs.Meaning.{Charmap, meaning}
use Rattle.cv_cache.specs.declared.cached_text.CachedText.{CachedText}
use Rattle.cv_cache.specs.declared.text_hasher.HashKeys.{HashKeys}
use Rattle.cv_cache.specs.Held.{shown, IsRight}
use Rattle.cv_cache.specs.Private.Numbers.{matches, IsNumberFor}
use Rattle.cv_cache.specs.Private.Sums.{sum_of}
use Rattle.cv_cache.proofs.Found.{found_value}
use Rattle.cv_cache.proofs.Distinct.{all_found, distinct_promoted, distinct_put, distinct_taken}

abbrev pub Entry : Type 0
Entry = ℕ × CachedText

abbrev pub value_of : CachedText → Charmap
value_of kept = arc_value kept.charmap

abbrev pub text_of : Entry → List ℕ
text_of e = e.1.text.items

-- Each entry is right.
abbrev pub AreRight : HashKeys → List Entry → Type 0
AreRight keys es = (e : Entry) → Contains es e → IsRight keys e.1

-- No text is there twice.
abbrev pub AreApart : List Entry → Type 0
AreApart es = IsDistinct bytes_eq (keys_of (map shown es))

pub flips : (a b : List ℕ) → bytes_eq a b ≡ bytes_eq b a
flips a b = (elim (bytes_eq b a) as (λ x. bytes_eq b a ≡ x → bytes_eq a b ≡ x) [
  | true ↦ λ t. (bytes_eq-Decides a b).1 (sym ((bytes_eq-Decides b a).0 t))
  | false ↦ λ t. false_from_ne_true (bytes_eq a b) (λ same. let one = (bytes_eq-Decides a b).0 same in
      let two = (bytes_eq-Decides b a).1 (sym one) in absurd (cc))
]) refl

-- If the sum of an entry is right, the test is whether its text is this one.
agree : (keys : HashKeys) (text : List ℕ) (sum : ℕ) (e : Entry) → sum ≡ sum_of keys text → IsRight keys e.1
    → matches sum text e ≡ bytes_eq text (text_of e)
agree keys text sum e known right =
    (elim (bytes_eq text (text_of e)) as (λ b. bytes_eq text (text_of e) ≡ b → ((e.1.sum == sum) && b) ≡ b) [
      | true ↦ λ same. and_from (e.1.sum == sum) true (eq-eqb e.1.sum sum
          (right.summed ∙ ap (sum_of keys) (sym ((bytes_eq-Decides text (text_of e)).0 same)) ∙ sym known)) refl
      | false ↦ λ _. and_right (e.1.sum == sum) false refl
    ]) refl

-- An entry of the list that is found by its number, and by its text.
pub record IsOf (text : List ℕ) (es : List Entry) (e : Entry) : Type 0 where
  pub same : text ≡ text_of e
  pub there : Contains es e
  pub numbered : lookup_entry (nat_eq e.0) es ≡ Some e
  pub found : lookup_entry (bytes_eq text) (map shown es) ≡ Some (shown e)
  pub others : remove_entry (bytes_eq text) (map shown es) ≡ map shown (remove_entry (nat_eq e.0) es)

module _ (text : List ℕ) where
  at_head : (x : Entry) (es : List Entry) → bytes_eq text (text_of x) ≡ true → IsOf text (x ∷ es) x
  at_head x es t = record {
    same = (bytes_eq-Decides text (text_of x)).0 t;
    there = Contains-head x es;
    numbered = rw (nat_eq_equiv.refl x.0) refl;
    found = rw t refl;
    others = rw (t, nat_eq_equiv.refl x.0) refl;
  }

  at_tail : (x : Entry) (es : List Entry) (e : Entry) → bytes_eq text (text_of x) ≡ false → nat_eq e.0 x.0 ≡ false
      → IsOf text es e → IsOf text (x ∷ es) e
  at_tail x es e other differs on = record {
    same = on.same;
    there = Contains-tail x es e on.there;
    numbered = rw differs on.numbered;
    found = rw other on.found;
    others = rw (other, differs) (ap (λ xs. shown x ∷ xs) on.others);
  }

  module _ (keys : HashKeys) (sum : ℕ) (known : sum ≡ sum_of keys text) where
    pub found_entry : (es : List Entry) (e : Entry) → AreRight keys es → IsDistinct nat_eq (keys_of es)
        → find (matches sum text) es ≡ Some e → IsOf text es e
    found_entry [] e right apart h = cc
    found_entry (x ∷ es) e right apart h =
        (elim (matches sum text x) as (λ b. matches sum text x ≡ b → IsOf text (x ∷ es) e) [
          | true ↦ λ t. let h' = rw t at h in let same : x ≡ e = cc in subst (IsOf text (x ∷ es)) same
              (at_head x es (sym (agree keys text sum x known (right x (Contains-head x es))) ∙ t))
          | false ↦ λ t.
              let on = found_entry es e (λ f has. right f (Contains-tail x es f has))
              (IsDistinct-tail nat_eq x.0 (keys_of es) apart) (rw t at h) in
              at_tail x es e (sym (agree keys text sum x known (right x (Contains-head x es))) ∙ t)
              (nat_eq_equiv.symm e.0 x.0 ∙ all_found (λ y. nat_eq x.0 y ≡ false) (nat_eq e.0) es e
              (IsDistinct-head nat_eq x.0 (keys_of es) apart) on.numbered) on
        ]) refl

    pub no_entry : (es : List Entry) → AreRight keys es → find (matches sum text) es ≡ None
        → lookup_entry (bytes_eq text) (map shown es) ≡ None
    no_entry [] right h = refl
    no_entry (x ∷ es) right h = (elim (matches sum text x) as (λ b. matches sum text x ≡ b
        → lookup_entry (bytes_eq text) (map shown (x ∷ es)) ≡ None) [
          | true ↦ λ t. let h' = rw t at h in absurd (cc)
          | false ↦ λ t. let other : bytes_eq text (text_of x) ≡ false =
              sym (agree keys text sum x known (right x (Contains-head x es))) ∙ t in
              rw other (no_entry es (λ f has. right f (Contains-tail x es f has)) (rw t at h))
        ]) refl

  -- the result of a look-up
  pub looked_up : (es : List Entry) (e : Entry) → IsOf text es e
      → lookup (bytes_eq text) (map shown es) ≡ Some (value_of e.1)
  looked_up es e at = found_value (bytes_eq text) (map shown es) ∙ ap (option_map (λ e. e.1)) at.found

  pub looked_up_none : (es : List Entry) → lookup_entry (bytes_eq text) (map shown es) ≡ None
      → lookup (bytes_eq text) (map shown es) ≡ None
  looked_up_none es none = found_value (bytes_eq text) (map shown es) ∙ ap (option_map (λ e. e.1)) none

  -- the order after a look-up
  pub promoted_shown : (es : List Entry) (e : Entry) → IsOf text es e
      → promoted (bytes_eq text) (map shown es) ≡ map shown (promoted (nat_eq e.0) es)
  promoted_shown es e at = rw (at.found, at.others, at.numbered) refl

  pub promoted_none : (es : List Entry) → lookup_entry (bytes_eq text) (map shown es) ≡ None
      → promoted (bytes_eq text) (map shown es) ≡ map shown es
  promoted_none es none = rw none refl

  pub apart_promoted : (es : List Entry) (e : Entry) → IsOf text es e → AreApart es
      → AreApart (promoted (nat_eq e.0) es)
  apart_promoted es e at apart = subst (λ xs. IsDistinct bytes_eq (keys_of xs)) (promoted_shown es e at)
      (distinct_promoted bytes_eq flips text (map shown es) apart)

  no_number : (n : ℕ) (es : List Entry) → lookup (nat_eq n) es ≡ None → lookup_entry (nat_eq n) es ≡ None
  no_number n [] none = refl
  no_number n (e ∷ es) none = (elim (nat_eq n e.0) as (λ b. cond b (Some e.1) (lookup (nat_eq n) es) ≡ None
      → cond b (Some e) (lookup_entry (nat_eq n) es) ≡ None) [
        | true ↦ λ k. absurd (cc)
        | false ↦ λ k. no_number n es k
      ]) none

  -- one was put, by the number of its text or by a new one
  pub put_shown : (keys : HashKeys) (sum : ℕ)
      → sum ≡ sum_of keys text → (c : LruCache ℕ CachedText) (n : ℕ) (kept : CachedText) → AreRight keys c.entries
      → IsDistinct nat_eq (keys_of c.entries) → IsNumberFor sum text c.entries n → kept.text.items ≡ text → put_entries
      bytes_eq (lru_cache (map shown c.entries) c.cap) text (value_of kept) ≡ map shown (put_entries nat_eq c n kept)
  put_shown keys sum known c n kept right apart is named = (elim (find (matches sum text) c.entries) as (λ o. find
      (matches sum text) c.entries ≡ o → MatchOption o (lookup (nat_eq n) c.entries ≡ None) (λ e. n ≡ e.0) → put_entries
      bytes_eq (lru_cache (map shown c.entries) c.cap) text (value_of kept) ≡ map shown (put_entries nat_eq c n kept)) [
        | None ↦ λ none free. rw (
          no_entry keys sum known c.entries right none,
          no_number n c.entries free,
          take-map shown (c.cap - 1) c.entries,
        ) (ap (λ t. (t, value_of kept) ∷ map shown (take (c.cap - 1) c.entries)) (sym named))
        | Some e ↦ λ some same. let at = found_entry keys sum known c.entries e right apart some in
            rw (same, at.found, at.others, at.numbered)
            (ap (λ t. (t, value_of kept) ∷ map shown (remove_entry (nat_eq e.0) c.entries)) (sym at.same ∙ sym named))
      ]) refl is

-- What stays true of entries.
pub right_promoted : (keys : HashKeys) (es : List Entry) (n : ℕ) → AreRight keys es
    → AreRight keys (promoted (nat_eq n) es)
right_promoted keys es n right e has = right e (Contains-promoted (nat_eq n) es e has)

pub right_taken : (keys : HashKeys) (es : List Entry) (n : ℕ) → AreRight keys es → AreRight keys (take n es)
right_taken keys es n right e has = right e (Contains-take n es e has)

pub right_put : (keys : HashKeys) (c : LruCache ℕ CachedText) (n : ℕ) (kept : CachedText) → AreRight keys c.entries
    → IsRight keys kept → AreRight keys (put_entries nat_eq c n kept)
right_put keys c n kept right one e has = elim (Contains-put_entries nat_eq c n kept e has) [
  | inl was ↦ right e was
  | inr put ↦ subst (IsRight keys) (sym put.0) one
]

pub apart_taken : (es : List Entry) (n : ℕ) → AreApart es → AreApart (take n es)
apart_taken es n apart = subst (λ xs. IsDistinct bytes_eq (keys_of xs)) (take-map shown n es)
    (distinct_taken bytes_eq n (map shown es) apart)

pub apart_put : (text : List ℕ) (keys : HashKeys) (sum : ℕ) → sum ≡ sum_of keys text → (c : LruCache ℕ CachedText)
    (n : ℕ) (kept : CachedText) → AreRight keys c.entries → IsDistinct nat_eq (keys_of c.entries) → IsNumberFor sum text
    c.entries n → kept.text.items ≡ text → AreApart c.entries → AreApart (put_entries nat_eq c n kept)
apart_put text keys sum known c n kept right numbers is named apart =
    subst (λ xs. IsDistinct bytes_eq (keys_of xs)) (put_shown text keys sum known c n kept right numbers is named)
    (distinct_put bytes_eq flips text (lru_cache (map shown c.entries) c.cap) (value_of kept) apart)

-- what each entry means, as contracts see it
pub shown_means : (keys : HashKeys) (es : List Entry) → AreRight keys es → (p : List ℕ × Charmap)
    → Contains (map shown es) p → meaning p.0 ≡ Ok p.1
shown_means keys [] right p has = absurd (Contains-nil p has)
shown_means keys (e ∷ es) right p has = elim (Contains-cons (shown e) (map shown es) p has) [
  | inl same ↦ subst (λ (q : List ℕ × Charmap). meaning q.0 ≡ Ok q.1) same (right e (Contains-head e es)).means
  | inr rest ↦ shown_means keys es (λ f there. right f (Contains-tail e es f there)) p rest
]
