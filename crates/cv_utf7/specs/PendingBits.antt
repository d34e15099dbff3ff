-- Bits that are pending, as a value of the type `Bits`. A reviewer needs to believe only the contract of
-- `laws::pending_bits`.
use Rattle.std.proofs.Common.{refl, lit≤, lit<}
use Rattle.std.proofs.Math.Nat.{mod-lt}
use Rattle.std.specs.Prelude.{◌%◌, Bool, List, [], ◌∷◌}
use Rattle.cv_base.specs.declared.state.Bits.{Bits}
use Rattle.cv_utf7.specs.BitLists.{number}

-- two or four bits, or none, as the bits that are pending
unfoldable pub pending_of : List Bool → Bits
pending_of (a ∷ b ∷ []) = record {
  count = 2;
  value = number (a ∷ b ∷ []) % 4;
  few = lit≤ tt;
  even = refl;
  in_range = mod-lt (number (a ∷ b ∷ [])) (lit< tt);
}
pending_of (a ∷ b ∷ c ∷ d ∷ []) = record {
  count = 4;
  value = number (a ∷ b ∷ c ∷ d ∷ []) % 16;
  few = lit≤ tt;
  even = refl;
  in_range = mod-lt (number (a ∷ b ∷ c ∷ d ∷ [])) (lit< tt);
}
pending_of other = record { count = 0; value = 0; few = lit≤ tt; even = refl; in_range = lit< tt }
