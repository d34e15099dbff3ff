-- The result of entering a pair, by how its bytes compare with those of the entries.
use Rattle.std.proofs.Common.{◌≡◌, ◌≢◌, ℕ, ◌<◌, ◌≤◌, Bool, false, cond, leb, List, [], ◌∷◌, ◌++◌, length, get_or, refl}
use Rattle.std.proofs.Common.{sym, subst, ◌∙◌, ap, arith, Some, None, length-append}
use Rattle.std.proofs.lemmas.Bool.{le-leb, lt-leb}
use Rattle.std.proofs.lemmas.List.{get_or_push, get_or_read}
use Rattle.cv_base.specs.Items.{Begins}
use Rattle.cv_base.proofs.Front.{Begins-length}
use Rattle.cv_lex.specs.declared.cause.Cause.TheVariants.{Prefix, TooMany}
use Rattle.cv_byte_trie.specs.Entries.{bytes_at, character_at, AreApart}
use Rattle.cv_byte_trie.specs.Results.{MeetsNone, GoesOnBehind}
use Rattle.cv_charmap.specs.Entries.{Pair}
use Rattle.cv_charmap.specs.Lists.{most_pairs, entered, pair_cause}
use Rattle.cv_charmap.specs.Private.Covers.{pair_at}
use Rattle.cv_charmap.proofs.Meeting.{fresh, fresh_entered, held_again, goes_before}

-- a prefix of the same length is the same
pub same_whole : (a b : List ℕ) → Begins a b → length a ≡ length b → a ≡ b
same_whole [] [] h e = refl
same_whole [] (y ∷ b) h e = absurd (omega arith)
same_whole (x ∷ a) [] h e = absurd h
same_whole (x ∷ a) (y ∷ b) h e = let rest : a ≡ b = same_whole a b h.1 (omega arith) in let one : x ≡ y = h.0 in (cc)

-- a prefix of another length is shorter
pub shorter : (a b : List ℕ) → Begins a b → length a ≢ length b → length a < length b
shorter a b h other = let l = Begins-length a b h in omega arith

pair_eq : (q p : Pair) → q.0 ≡ p.0 → q.1 ≡ p.1 → q ≡ p
pair_eq (a, b) (c, d) e f = (cc)

module _ (all : List Pair) (p : Pair) where
  -- a new pair
  pub enters_new : MeetsNone all p.0 → length all < most_pairs
      → (pair_cause all p ≡ None) × (entered all p ≡ all ++ p ∷ []) × (length all < length (all ++ p ∷ []))
      × (pair_at (all ++ p ∷ []) (length all) ≡ p)
  enters_new meets room =
      let f = fresh all p meets in
      let low : leb most_pairs (length all) ≡ false = lt-leb most_pairs (length all) room in (
        f.1 ∙ ap (λ (b : Bool). cond b (Some TooMany) None) low,
        fresh_entered all p meets,
        omega (arith, length-append all (p ∷ [])),
        get_or_push all p ([], 0) (length all) refl,
      )

  -- a new pair for a full list
  pub too_many : MeetsNone all p.0 → most_pairs ≤ length all → pair_cause all p ≡ Some TooMany
  too_many meets full = (fresh all p meets).1
      ∙ ap (λ (b : Bool). cond b (Some TooMany) None) (le-leb most_pairs (length all) full)

  -- a pair that is in the list
  pub enters_again : AreApart all → (k : ℕ) → k < length all → bytes_at all k ≡ p.0 → character_at all k ≡ p.1
      → (pair_cause all p ≡ None) × (all ≡ entered all p) × (k < length all) × (pair_at all k ≡ p)
  enters_again apart k low e c =
      (let h = held_again all p apart k low e c in (h.0, sym h.1, low, pair_eq (pair_at all k) p e c))

  -- bytes that are a proper prefix of an entry's
  pub begins_one : AreApart all → (k : ℕ) → GoesOnBehind all p.0 k → pair_cause all p ≡ Some Prefix
  begins_one apart k g = goes_before all p apart k g.low g.front g.longer

-- an entry that was read
pub entry_read : (all read : List Pair) (k : ℕ) (r : Pair) → read ≡ all → k < length all → r ≡ get_or read k r
    → r ≡ pair_at all k
entry_read all read k r same low is = get_or_read all k r low (is ∙ ap (λ (x : List Pair). get_or x k r) same) ([], 0)

-- a new pair, at the index after the others
pub enters_at : (all new : List Pair) (p : Pair) (index : ℕ) → MeetsNone all p.0 × (new ≡ all ++ p ∷ [])
    → length all < most_pairs → index ≡ length all
    → (pair_cause all p ≡ None) × (new ≡ entered all p) × (index < length new) × (pair_at new index ≡ p)
enters_at all new p index a room is = (let h = enters_new all p a.0 room in (
  h.0,
  a.1 ∙ sym h.1,
  subst (λ (x : List Pair). index < length x) (sym a.1) (rw is h.2),
  ap (λ (x : List Pair). pair_at x index) a.1 ∙ ap (pair_at (all ++ p ∷ [])) is ∙ h.3,
))
