-- The number by which a text is held.
use Rattle.std.specs.Prelude.{◌≡◌, ℕ, Bool, ◌==◌, ◌&&◌, nat_eq, List, None, MatchOption}
use Rattle.std.specs.List.{find}
use Rattle.std.specs.Map.{lookup}
use Rattle.std.specs.Str.{bytes_eq}
use Rattle.cv_cache.specs.declared.cached_text.CachedText.{CachedText}

-- the program's test of an entry: its sum and its text are these
abbrev pub matches : ℕ → List ℕ → ℕ × CachedText → Bool
matches sum text e = (e.1.sum == sum) && bytes_eq text e.1.text.items

-- The number is that of the first entry that passes the test. If none passes, it is a free number.
abbrev pub IsNumberFor : ℕ → List ℕ → List (ℕ × CachedText) → ℕ → Type 0
IsNumberFor sum text entries number =
    MatchOption (find (matches sum text) entries) (lookup (nat_eq number) entries ≡ None) (λ e. number ≡ e.0)
