-- The code's table of names is the definition's.
use Rattle.std.proofs.Common.{◌≡◌, ℕ, ◌≤◌, List, [], ◌∷◌, length, map, refl, arith}
use Rattle.std.specs.Prelude.{bytes_eq}
use Rattle.std.specs.Map.{lookup}
use Rattle.cv_lex.specs.Names.{symbol_of}
use Rattle.cv_lex.specs.declared.symbols.TheConstants.{SYMBOLS}

-- a name of two letters or more that is found in it means what is found
pub listed_symbol : (name : List ℕ) → 2 ≤ length name
    → lookup (bytes_eq name) (map (λ s. (s.0.now, s.1)) SYMBOLS) ≡ symbol_of name
unfolding symbol_of
listed_symbol [] few = absurd (omega arith)
listed_symbol (b ∷ []) few = absurd (omega arith)
listed_symbol (b ∷ c ∷ name) few = refl
