-- The keys of a list still differ after one entry is used, one is put, or the last ones are dropped.
use Rattle.std.proofs.Common.{◌≡◌, ℕ, ◌-◌, zero, suc, Bool, true, false, cond, List, [], ◌∷◌, take, Option, None, Some}
use Rattle.std.proofs.Common.{refl, subst, ◌∙◌}
use Rattle.std.specs.List.{IsDistinct, AllByRecursion}
use Rattle.std.specs.Option.{option_map_or}
use Rattle.std.specs.Map.{lookup_entry, remove_entry, keys_of}
use Rattle.std.proofs.lemmas.Map.Keys.{IsDistinct-head, IsDistinct-tail, IsDistinct-cons}
use Rattle.lru.specs.LruCache.{LruCache, promoted, put_entries}

module _ {K V : Type 0} where
  module _ (P : K → Type 0) where
    -- what holds of each key holds of one that is found
    pub all_found : (test : K → Bool) (xs : List (K × V)) (e : K × V) → AllByRecursion P (keys_of xs)
        → lookup_entry test xs ≡ Some e → P e.0
    all_found test [] e all h = cc
    all_found test (x ∷ xs) e all h = (elim (test x.0) as (λ b. test x.0 ≡ b → P e.0) [
      | true ↦ λ t. let h' = rw t at h in let same : x ≡ e = cc in subst (λ f. P f.0) same all.0
      | false ↦ λ t. all_found test xs e all.1 (rw t at h)
    ]) refl

    pub all_removed : (test : K → Bool) (xs : List (K × V)) → AllByRecursion P (keys_of xs)
        → AllByRecursion P (keys_of (remove_entry test xs))
    all_removed test [] all = tt
    all_removed test (x ∷ xs) all =
        elim (test x.0) as (λ b. AllByRecursion P (keys_of (cond b xs (x ∷ remove_entry test xs)))) [
          | true ↦ all.1
          | false ↦ (all.0, all_removed test xs all.1)
        ]

    pub all_taken : (n : ℕ) (xs : List (K × V)) → AllByRecursion P (keys_of xs) → AllByRecursion P (keys_of (take n xs))
    all_taken zero xs all = tt
    all_taken (suc n) [] all = tt
    all_taken (suc n) (x ∷ xs) all = (all.0, all_taken n xs all.1)

  module _ (eq : K → K → Bool) where
    pub distinct_removed : (test : K → Bool) (xs : List (K × V)) → IsDistinct eq (keys_of xs)
        → IsDistinct eq (keys_of (remove_entry test xs))
    distinct_removed test [] d = d
    distinct_removed test (x ∷ xs) d =
        elim (test x.0) as (λ b. IsDistinct eq (keys_of (cond b xs (x ∷ remove_entry test xs)))) [
          | true ↦ IsDistinct-tail eq x.0 (keys_of xs) d
          | false ↦ IsDistinct-cons eq x.0 (keys_of (remove_entry test xs)) (all_removed (λ y. eq x.0 y ≡ false) test xs
              (IsDistinct-head eq x.0 (keys_of xs) d))
              (distinct_removed test xs (IsDistinct-tail eq x.0 (keys_of xs) d))
        ]

    pub distinct_taken : (n : ℕ) (xs : List (K × V)) → IsDistinct eq (keys_of xs) → IsDistinct eq (keys_of (take n xs))
    unfolding IsDistinct
    distinct_taken zero xs d = tt
    distinct_taken (suc n) [] d = tt
    distinct_taken (suc n) (x ∷ xs) d = (all_taken (λ y. eq x.0 y ≡ false) n xs d.0, distinct_taken n xs d.1)

    -- the other keys differ from a key that is found; all keys differ from one that is not found
    pub apart_removed : ((x y : K) → eq x y ≡ eq y x) → (k : K) (xs : List (K × V)) (e : K × V)
        → IsDistinct eq (keys_of xs) → lookup_entry (eq k) xs ≡ Some e
        → AllByRecursion (λ y. eq e.0 y ≡ false) (keys_of (remove_entry (eq k) xs))
    apart_removed flips k [] e d h = tt
    apart_removed flips k (x ∷ xs) e d h = (elim (eq k x.0) as (λ b. eq k x.0 ≡ b
        → AllByRecursion (λ y. eq e.0 y ≡ false) (keys_of (cond b xs (x ∷ remove_entry (eq k) xs)))) [
          | true ↦ λ t. let h' = rw t at h in let same : x ≡ e = cc in
              subst (λ f. AllByRecursion (λ y. eq f.0 y ≡ false) (keys_of xs)) same
              (IsDistinct-head eq x.0 (keys_of xs) d)
          | false ↦ λ t. let on : lookup_entry (eq k) xs ≡ Some e = rw t at h in (
            flips e.0 x.0 ∙ all_found (λ y. eq x.0 y ≡ false) (eq k) xs e (IsDistinct-head eq x.0 (keys_of xs) d) on,
            apart_removed flips k xs e (IsDistinct-tail eq x.0 (keys_of xs) d) on,
          )
        ]) refl

    pub apart_new : (k : K) (xs : List (K × V)) → lookup_entry (eq k) xs ≡ None
        → AllByRecursion (λ y. eq k y ≡ false) (keys_of xs)
    apart_new k [] h = tt
    apart_new k (x ∷ xs) h =
        (elim (eq k x.0) as (λ b. eq k x.0 ≡ b → AllByRecursion (λ y. eq k y ≡ false) (keys_of (x ∷ xs))) [
          | true ↦ λ t. let h' = rw t at h in absurd (cc)
          | false ↦ λ t. (t, apart_new k xs (rw t at h))
        ]) refl

    module _ (flips : (x y : K) → eq x y ≡ eq y x) (k : K) where
      used : (xs : List (K × V)) (o : Option (K × V)) → lookup_entry (eq k) xs ≡ o → IsDistinct eq (keys_of xs)
          → IsDistinct eq (keys_of (option_map_or (λ e. e ∷ remove_entry (eq k) xs) o xs))
      used xs None h d = d
      used xs (Some e) h d = IsDistinct-cons eq e.0 (keys_of (remove_entry (eq k) xs)) (apart_removed flips k xs e d h)
          (distinct_removed (eq k) xs d)

      pub distinct_promoted : (xs : List (K × V)) → IsDistinct eq (keys_of xs)
          → IsDistinct eq (keys_of (promoted (eq k) xs))
      distinct_promoted xs = used xs (lookup_entry (eq k) xs) refl

      puts : (c : LruCache K V) (v : V) (o : Option (K × V))
          → lookup_entry (eq k) c.entries ≡ o → IsDistinct eq (keys_of c.entries) → IsDistinct eq (keys_of
          (option_map_or (λ e. (e.0, v) ∷ remove_entry (eq k) c.entries) o ((k, v) ∷ take (c.cap - 1) c.entries)))
      puts c v None h d = IsDistinct-cons eq k (keys_of (take (c.cap - 1) c.entries)) (all_taken (λ y. eq k y ≡ false)
          (c.cap - 1) c.entries (apart_new k c.entries h)) (distinct_taken (c.cap - 1) c.entries d)
      puts c v (Some e) h d = IsDistinct-cons eq e.0 (keys_of (remove_entry (eq k) c.entries))
          (apart_removed flips k c.entries e d h) (distinct_removed (eq k) c.entries d)

      pub distinct_put : (c : LruCache K V) (v : V) → IsDistinct eq (keys_of c.entries)
          → IsDistinct eq (keys_of (put_entries eq c k v))
      distinct_put c v = puts c v (lookup_entry (eq k) c.entries) refl
