-- A charmap reads back the texts that it writes.
use Rattle.std.proofs.Common.{◌≡◌, ◌==◌, ℕ, Bool, true, false, cond, List, [], ◌∷◌, suc, refl, arith, Some}
use Rattle.std.proofs.Common.{option_map, eqb-true}
use Rattle.std.specs.Prelude.{Contains}
use Rattle.std.specs.List.{find}
use Rattle.cv_base.specs.ReadBack.{ReadsBack}
use Rattle.cv_base.specs.declared.state.ReadState.TheVariants as read
use Rattle.cv_base.specs.declared.state.WriteState.{WriteState}
use Rattle.cv_base.specs.declared.state.WriteState.TheVariants as write
use Rattle.cv_base.proofs.ReadBacks.{EachReadsBack, one_item, same_written, no_closing, texts_back}
use Rattle.cv_charmap.specs.Entries.{Pair}
use Rattle.cv_trie.specs.Charmaps.{map_reads, as_written, map_writes, map_closes}
use Rattle.cv_trie.proofs.HeldPairs.{same_pair}

-- what is written for a character is the bytes of a pair that has it
found_in : (pairs : List Pair) (c : ℕ) (bytes : List ℕ) (next : WriteState)
    → option_map as_written (find (λ (p : Pair). p.1 == c) pairs) ≡ Some (bytes, next) → Contains pairs (bytes, c)
found_in [] c bytes next e = cc
found_in (p ∷ pairs) c bytes next e = elim (p.1 == c) as (λ (b : Bool). (p.1 == c) ≡ b → option_map as_written
    (cond b (Some p) (find (λ (q : Pair). q.1 == c) pairs)) ≡ Some (bytes, next) → Contains (p ∷ pairs) (bytes, c)) [
      | true ↦ λ is h. (
        0,
        omega arith,
        same_pair p (bytes, c) (same_written (λ w u. p.0 ≡ w) p.0 bytes write.Start next refl h) (eqb-true p.1 c is),
      )
      | false ↦ λ is h. (let rest = found_in pairs c bytes next h in (suc rest.0, omega (arith, rest.1), rest.2))
    ] refl e

map_back : (pairs : List Pair) → EachReadsBack (map_reads pairs) (map_writes pairs) (λ t s. Unit {0})
map_back pairs t s c bytes next m scalar e =
    one_item (map_reads pairs) s read.Start bytes c (λ s. Unit {0}) (c, found_in pairs c bytes next e, refl) tt

-- charmaps read back the texts that they write
pub maps_back : (pairs : List Pair) → ReadsBack (map_reads pairs) (map_writes pairs) map_closes
maps_back pairs = texts_back (map_reads pairs) (map_writes pairs) map_closes (λ t s. Unit {0}) (map_back pairs)
    (no_closing (map_reads pairs) (λ t s. Unit {0})) tt
