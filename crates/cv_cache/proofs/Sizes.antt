-- How many bytes the entries take after one is used, one is put, or the last one is dropped.
use Rattle.std.proofs.Common.{◌≡◌, ℕ, zero, suc, ◌+◌, ◌-◌, ◌≤◌, ◌<◌, Bool, true, false, cond, List, [], ◌∷◌, length}
use Rattle.std.proofs.Common.{take, slice_get, Option, None, Some, refl, arith}
use Rattle.std.specs.List.{sum_by}
use Rattle.std.specs.Option.{option_map, option_map_or, unwrap_or}
use Rattle.std.specs.Map.{lookup, lookup_entry, remove_entry}
use Rattle.std.proofs.lemmas.List.Sums.{sum_by-cons}
use Rattle.lru.specs.LruCache.{LruCache, promoted, put_entries, displaced}
use Rattle.cv_cache.proofs.Found.{found_value}

-- how many bytes an entry takes; 0 without one
abbrev pub freed : {K V : Type 0} → (V → ℕ) → Option (K × V) → ℕ
freed size o = unwrap_or (option_map (λ e. size e.1) o) 0

module _ {K V : Type 0} (g : V → ℕ) where
  -- how many bytes an entry takes
  abbrev size : K × V → ℕ
  size e = g e.1

  -- the last one is dropped
  pub cut : (n : ℕ) (es : List (K × V)) → length es ≤ n + 1
      → sum_by size (take n es) + freed g (slice_get es n) ≡ sum_by size es
  cut zero [] h = refl
  cut zero (e ∷ []) h = refl
  cut zero (e ∷ f ∷ es) h = absurd (omega (arith, h))
  cut (suc n) [] h = refl
  cut (suc n) (e ∷ es) h =
      rw (sum_by-cons size e (take n es), sum_by-cons size e es) (omega (arith, cut n es (omega (arith, h))))

  module _ (test : K → Bool) where
    without : (es : List (K × V)) → sum_by size (remove_entry test es) + freed g (lookup_entry test es) ≡ sum_by size es
    without [] = refl
    without (e ∷ es) = elim (test e.0) as (λ b. sum_by size (cond b es (e ∷ remove_entry test es))
        + freed g (cond b (Some e) (lookup_entry test es)) ≡ sum_by size (e ∷ es)) [
          | true ↦ rw (sum_by-cons size e es) (omega arith)
          | false ↦ rw (sum_by-cons size e es, sum_by-cons size e (remove_entry test es)) (omega (arith, without es))
        ]

    -- one is used
    pub used : (es : List (K × V)) → sum_by size (promoted test es) ≡ sum_by size es
    used es = (elim (lookup_entry test es) as (λ o. sum_by size (remove_entry test es) + freed g o ≡ sum_by size es
        → sum_by size (option_map_or (λ e. e ∷ remove_entry test es) o es) ≡ sum_by size es) [
          | None ↦ λ _. refl
          | Some e ↦ λ h. rw (sum_by-cons size e (remove_entry test es)) (omega (arith, h))
        ]) (without es)

  -- one is put
  pub put : (eq : K → K → Bool) (c : LruCache K V) (k : K) (v : V) → length c.entries ≤ c.cap → 0 < c.cap
      → sum_by size (put_entries eq c k v) + option_map_or g (lookup (eq k) c.entries)
      (freed g (slice_get c.entries (c.cap - 1))) ≡ sum_by size c.entries + g v
  put eq c k v few some = rw (found_value (eq k) c.entries) ((elim (lookup_entry (eq k) c.entries) as (λ o.
      sum_by size (remove_entry (eq k) c.entries) + freed g o ≡ sum_by size c.entries → sum_by size (option_map_or
      (λ e. (e.0, v) ∷ remove_entry (eq k) c.entries) o ((k, v) ∷ take (c.cap - 1) c.entries)) + option_map_or g
      (option_map (λ e. e.1) o) (freed g (slice_get c.entries (c.cap - 1))) ≡ sum_by size c.entries + g v) [
        | None ↦ λ _. rw (sum_by-cons size (k, v) (take (c.cap - 1) c.entries))
            (omega (arith, cut (c.cap - 1) c.entries (omega (arith, few, some))))
        | Some e ↦ λ h. rw (sum_by-cons size (e.0, v) (remove_entry (eq k) c.entries)) (omega (arith, h))
      ]) (without (eq k) c.entries))

  -- what `push` hands back
  pub gone : (eq : K → K → Bool) (c : LruCache K V) (k : K) (v : V) → freed g (displaced eq c k v)
      ≡ option_map_or g (lookup (eq k) c.entries) (freed g (slice_get c.entries (c.cap - 1)))
  gone eq c k v = elim (lookup (eq k) c.entries) as (λ o.
      freed g (option_map_or (λ old. Some (k, old)) o (slice_get c.entries (c.cap - 1)))
      ≡ option_map_or g o (freed g (slice_get c.entries (c.cap - 1)))) [ None ↦ refl | Some old ↦ refl ]

  pub pushed : (eq : K → K → Bool) (c : LruCache K V) (k : K) (v : V) → length c.entries ≤ c.cap → 0 < c.cap
      → sum_by size (put_entries eq c k v) + freed g (displaced eq c k v) ≡ sum_by size c.entries + g v
  pushed eq c k v few some = rw (gone eq c k v) (put eq c k v few some)
