-- A range is entered one by one, or many entries at once.
use Rattle.std.proofs.Common.{◌≡◌, ℕ, ◌+◌, ◌-◌, Bool, List, [], ◌∷◌, ◌++◌, ◌∙◌, arith, inl, inr, map}
use Rattle.std.specs.Prelude.{Ok, Err}
use Rattle.std.specs.List.{range_with_len}
use Rattle.std.proofs.lemmas.Bool.{cases_lt}
use Rattle.cv_charmap.specs.Entries.{Pair, entry_at}
use Rattle.cv_charmap.specs.Private.Covers.{HasEntries, AreFound}
use Rattle.cv_charmap.specs.Private.Runs.{run_entries, entries_from}
use Rattle.cv_charmap.specs.Private.Seen.{RunsTo, PassesOn}
use Rattle.cv_charmap.specs.declared.pair_list.EntryFault.{EntryFault}
use Rattle.cv_charmap.specs.declared.pair_list.EntryFault.TheVariants.{Faulty, Memory}
use Rattle.cv_charmap.specs.declared.covered.LookedUp.{LookedUp}
use Rattle.cv_charmap.proofs.Covering.{entry_stays, found_stay, found_more}
use Rattle.cv_charmap.proofs.EntryLemmas.{from_whole}

-- The first `i` of the `count` entries of a range were entered.
pub record IsEntering (all now : List Pair) (hex : Bool) (first : ℕ) (bytes : List ℕ) (count i : ℕ)
    (found : List LookedUp) : Type 0 where
  pub run : (n : ℕ) → run_entries all n (entries_from hex first bytes 0 count)
      ≡ run_entries now n (entries_from hex first bytes i count)
  pub has : HasEntries now hex first bytes i
  pub looked_up : AreFound now hex first bytes i found

module _ (all now new : List Pair) (hex : Bool) (first : ℕ) (bytes : List ℕ) (count i : ℕ) (found : List LookedUp)
    (so_far : IsEntering all now hex first bytes count i found) where
  -- an entry that is refused ends the range
  pub range_refused : (last n : ℕ) (why : EntryFault)
      → count ≡ last + 1 - first → PassesOn now hex first bytes i count (Err why) new → RunsTo
      (run_entries all n (map (entry_at hex first bytes) (range_with_len 0 (last + 1 - first)))) n (Err why) new
  range_refused last n (Faulty cause) is h = from_whole hex first last bytes i count all now n is (so_far.run n) ∙ h n
  range_refused last n Memory is h = tt

  -- entries that were entered, and those after them that are known to be in the list
  pub range_passed : (passed : LookedUp × ℕ) → PassesOn now hex first bytes i count (Ok passed) new
      → (more : List LookedUp) → more ≡ found ++ passed.0 ∷ [] → IsEntering all new hex first bytes count passed.1 more
  range_passed passed h more is =
      let next = h.0 in
      record {
        run = λ n. so_far.run n ∙ h.2 n;
        has = λ k low. elim (cases_lt k
            i) [ inl l ↦ entry_stays now new h.1 hex first bytes k (so_far.has k l) | inr l ↦ h.4 k l low ];
        looked_up = found_more new hex first bytes passed.1 passed.0 found more is
            (found_stay now new h.1 hex first bytes i passed.1 found (omega arith) so_far.looked_up) h.3;
      }
