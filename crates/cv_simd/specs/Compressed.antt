-- What is packed: those of some bytes or numbers that are kept, one after the other.
use Rattle.std.specs.Prelude.{◌≡◌, ℕ, zero, suc, ◌/◌, ◌%◌, ◌<◌, Bool, cond, nat_eq, List, [], ◌∷◌, ◌++◌, length, drop}
use Rattle.std.specs.Prelude.{get_or}

-- the lowest n bits of a number, the lowest first
abbrev pub flags : ℕ → ℕ → List Bool
flags zero m = []
flags (suc n) m = nat_eq (m % 2) 1 ∷ flags n (m / 2)

-- those of some numbers whose bit is set, the lowest bit for the first
abbrev pub kept : ℕ → List ℕ → List ℕ
kept mask [] = []
kept mask (x ∷ xs) = cond (nat_eq (mask % 2) 1) (x ∷ kept (mask / 2) xs) (kept (mask / 2) xs)

-- The number is one of some numbers.
abbrev pub IsOneOf : List ℕ → ℕ → Type 0
IsOneOf xs x = (j : ℕ) × (j < length xs) × (x ≡ get_or xs j 0)

-- of pairs of bytes the first of each, and the second if its flag is set
abbrev pub from_pairs : List Bool → List ℕ → List ℕ
from_pairs [] pairs = []
from_pairs (two ∷ twos) pairs =
    get_or pairs 0 0 ∷ (cond two (get_or pairs 1 0 ∷ []) [] ++ from_pairs twos (drop 2 pairs))

-- of groups of four bytes the first of each, and the second and the third if their flags are set
abbrev pub from_triples : List Bool → List Bool → List ℕ → List ℕ
from_triples [] threes fours = []
from_triples (two ∷ twos) [] fours = []
from_triples (two ∷ twos) (three ∷ threes) fours = get_or fours 0 0 ∷ (cond two (get_or fours 1 0 ∷ []) []
    ++ (cond three (get_or fours 2 0 ∷ []) [] ++ from_triples twos threes (drop 4 fours)))
