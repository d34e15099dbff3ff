-- Entries of a range, one by one.
use Rattle.std.proofs.Common.{◌≡◌, ℕ, suc, ◌+◌, ◌-◌, ◌^◌, ◌<◌, ◌≤◌, Bool, true, List, [], ◌∷◌, length, map, leb, sym}
use Rattle.std.proofs.Common.{◌∙◌, ap, arith, refl, Option, Some, None}
use Rattle.std.specs.Prelude.{Result, Ok, Err}
use Rattle.std.specs.List.{range_with_len}
use Rattle.cv_lex.specs.Names.{is_scalar}
use Rattle.cv_lex.specs.declared.cause.Cause.{Cause}
use Rattle.cv_lex.specs.declared.cause.Cause.TheVariants.{Carry}
use Rattle.cv_charmap.specs.Entries.{Pair, number_of, range_number, entry_at}
use Rattle.cv_charmap.specs.Lists.{entered, pair_cause, entry_cause}
use Rattle.cv_charmap.specs.Private.Runs.{entries_from, run_entries, with_entry, unless, fault}
use Rattle.cv_charmap.specs.Private.Seen.{Enters, RunsTo}
use Rattle.cv_charmap.specs.declared.pair_list.EntryFault.{EntryFault}
use Rattle.cv_charmap.specs.declared.pair_list.EntryFault.TheVariants.{Faulty, Memory}
use Rattle.cv_charmap.specs.declared.fault.MapFault.{MapFault}

-- an entry whose number does not fit its bytes
pub entry_carries : (hex : Bool) (first : ℕ) (bytes : List ℕ) (i v n : ℕ) → v ≡ range_number hex (first + i) → is_scalar
    v ≡ true → n ≡ number_of bytes → leb (256 ^ length bytes) (n + i) ≡ true → entry_at hex first bytes i ≡ Err Carry
unfolding entry_at
entry_carries hex first bytes i v n named is number far =
    let s : is_scalar (range_number hex (first + i)) ≡ true = ap is_scalar (sym named) ∙ is in
    let f : leb (256 ^ length bytes) (number_of bytes + i) ≡ true =
    ap (λ (k : ℕ). leb (256 ^ length bytes) (k + i)) (sym number) ∙ far in
    rw (s, f) refl

range_more : (i count : ℕ) → i < count → range_with_len i (count - i) ≡ i ∷ range_with_len (i + 1) (count - (i + 1))
range_more i count lt = ap (range_with_len i) (let e : count - i ≡ suc (count - (i + 1)) = omega arith in e)

module _ (hex : Bool) (first : ℕ) (bytes : List ℕ) (i count : ℕ) (lt : i < count) (all : List Pair) (n : ℕ) where
  next : run_entries all n (entries_from hex first bytes i count)
      ≡ unless (entry_cause all (entry_at hex first bytes i)) n
      (run_entries (with_entry all (entry_at hex first bytes i)) n (entries_from hex first bytes (i + 1) count))
  unfolding run_entries
  next = ap (λ (is : List ℕ). run_entries all n (map (entry_at hex first bytes) is)) (range_more i count lt)

  -- a run stops at an entry that is a cause
  pub stops_at_cause : (cause : Cause) → entry_at hex first bytes i ≡ Err cause
      → run_entries all n (entries_from hex first bytes i count) ≡ Err (fault n cause)
  stops_at_cause cause e = next ∙ ap (λ (x : Result Pair Cause).
      unless (entry_cause all x) n (run_entries (with_entry all x) n (entries_from hex first bytes (i + 1) count))) e

  -- a run stops at a pair that has a cause
  pub stops_at_pair : (p : Pair) (cause : Cause) → entry_at hex first bytes i ≡ Ok p → pair_cause all p ≡ Some cause
      → run_entries all n (entries_from hex first bytes i count) ≡ Err (fault n cause)
  stops_at_pair p cause e f = next ∙ ap (λ (x : Result Pair Cause). unless
      (entry_cause all x) n (run_entries (with_entry all x) n (entries_from hex first bytes (i + 1) count))) e ∙ ap
      (λ (o : Option Cause). unless o n (run_entries (entered all p) n (entries_from hex first bytes (i + 1) count))) f

  -- a run goes on after a pair that has no cause
  pub goes_on : (p : Pair) → entry_at hex first bytes i ≡ Ok p → pair_cause all p ≡ None
      → run_entries all n (entries_from hex first bytes i count)
      ≡ run_entries (entered all p) n (entries_from hex first bytes (i + 1) count)
  goes_on p e f = next ∙ ap (λ (x : Result Pair Cause). unless
      (entry_cause all x) n (run_entries (with_entry all x) n (entries_from hex first bytes (i + 1) count))) e ∙ ap
      (λ (o : Option Cause). unless o n (run_entries (entered all p) n (entries_from hex first bytes (i + 1) count))) f

-- a run ends after the last entry
pub range_ends : (hex : Bool) (first : ℕ) (bytes : List ℕ) (i count : ℕ) → count ≤ i → (all : List Pair) (n : ℕ)
    → run_entries all n (entries_from hex first bytes i count) ≡ Ok all
unfolding run_entries
range_ends hex first bytes i count le all n = ap (λ (k : ℕ).
    run_entries all n (map (entry_at hex first bytes) (range_with_len i k))) (let e : count - i ≡ 0 = omega arith in e)

-- a run over one pair
pub one_entry : (all : List Pair) (n : ℕ) (p : Pair)
    → run_entries all n (Ok p ∷ []) ≡ unless (pair_cause all p) n (Ok (entered all p))
unfolding run_entries
one_entry all n p = refl

-- all entries of a range are those from the first on
pub from_the_first : (hex : Bool) (first : ℕ) (bytes : List ℕ) (count : ℕ)
    → map (entry_at hex first bytes) (range_with_len 0 count) ≡ entries_from hex first bytes 0 count
from_the_first hex first bytes count =
    ap (λ (k : ℕ). map (entry_at hex first bytes) (range_with_len 0 k)) (let e : count ≡ count - 0 = omega arith in e)

-- a pair that was refused ends the run
pub refused : (all : List Pair) (p : Pair) (fault' : EntryFault) (after last : List Pair)
    (n : ℕ) (run : Result (List Pair) MapFault) → Enters all p (Err fault') after
    → ((cause : Cause) → pair_cause all p ≡ Some cause → run ≡ Err (fault n cause)) → RunsTo run n (Err fault') last
refused all p (Faulty cause) after last n run h f = f cause h
refused all p Memory after last n run h f = tt

-- what holds for the entries so far, stated for the whole range
pub from_whole : (hex : Bool) (first last : ℕ) (bytes : List ℕ) (i count : ℕ) (all now : List Pair) (n : ℕ)
    → count ≡ last + 1 - first → run_entries all n (entries_from hex first bytes 0 count)
    ≡ run_entries now n (entries_from hex first bytes i count) → run_entries all n (map (entry_at hex first bytes)
    (range_with_len 0 (last + 1 - first))) ≡ run_entries now n (entries_from hex first bytes i count)
from_whole hex first last bytes i count all now n e so_far =
    ap (λ (k : ℕ). run_entries all n (map (entry_at hex first bytes) (range_with_len 0 k))) (sym e)
    ∙ ap (run_entries all n) (from_the_first hex first bytes count) ∙ so_far
