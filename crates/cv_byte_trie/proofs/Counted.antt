-- Entries that are added one after another, from one node.
use Rattle.std.proofs.Common.{◌≡◌, ℕ, zero, suc, ◌+◌, ◌<◌, ◌≤◌, List, [], ◌∷◌, ◌++◌, append_assoc, length, take}
use Rattle.std.proofs.Common.{get_or, refl, sym, subst, ◌∙◌, ap, arith, inl, inr, length-append}
use Rattle.std.proofs.lemmas.Bool.{cases_eq}
use Rattle.std.specs.Prelude.{slice_set}
use Rattle.std.proofs.lemmas.List.{take_all, take-append-le, take-take, take-set, take_more_set, length-take-le}
use Rattle.std.proofs.lemmas.List.{get_or_push}
use Rattle.cv_base.specs.Items.{Begins}
use Rattle.cv_base.proofs.Front.{Begins-take, Begins-same}
use Rattle.cv_byte_trie.specs.Entries.{Entry}
use Rattle.cv_byte_trie.specs.Runs.{counted, run_of}
use Rattle.cv_byte_trie.specs.Tries.{StepsBy, IsAt}

-- how many they are
pub run_size : (bytes : List ℕ) (character n : ℕ) → length (run_of bytes character n) ≡ n
run_size bytes character zero = refl
run_size bytes character (suc n) =
    omega (arith, run_size bytes character n, length-append (run_of bytes character n) (counted bytes character n ∷ []))

-- one more
pub run_more : (all now new : List Entry) (bytes : List ℕ) (character n : ℕ) → now ≡ all ++ run_of bytes character n
    → new ≡ now ++ counted bytes character n ∷ [] → new ≡ all ++ run_of bytes character (n + 1)
run_more all now new bytes character n is more =
    let next : suc n ≡ n + 1 = omega arith in
    more ∙ ap (λ (x : List Entry). x ++ counted bytes character n ∷ []) is ∙ append_assoc all (run_of bytes character n)
    (counted bytes character n ∷ []) ∙ ap (λ (x : ℕ). all ++ run_of bytes character x) next

-- bytes that are the same up to a node lead to it too
pub at_other : (S : StepsBy) (count : ℕ) (entries : List Entry) (x y : List ℕ) (d i : ℕ) → IsAt S count entries x d i
    → d ≤ length x → take d x ≡ take d y → IsAt S count entries y d i
at_other S count entries x y d i r long same =
    let way : r.way i ≡ take d x =
    Begins-same (r.way i) (take d x) x r.at (Begins-take d x) (r.deep ∙ sym (length-take-le d x long)) in
    record {
      way = r.way;
      trie = r.trie;
      low = r.low;
      at = subst (λ (w : List ℕ). Begins w y) (sym (way ∙ same)) (Begins-take d y);
      deep = r.deep;
    }

-- fewer of them are a prefix of more
pub run_front : (all : List Entry) (bytes : List ℕ) (character k m : ℕ) → k ≤ m → take
    (length (all ++ run_of bytes character k)) (all ++ run_of bytes character m) ≡ all ++ run_of bytes character k
run_front all bytes character k zero low =
    let none : k ≡ 0 = omega arith in
    rw none (take_all (length (all ++ [])) (all ++ []) (omega arith))
run_front all bytes character k (suc m) low = elim (cases_eq k (suc m)) [
  | inl e ↦ rw e
      (take_all (length (all ++ run_of bytes character (suc m))) (all ++ run_of bytes character (suc m)) (omega arith))
  | inr other ↦ (
      let short = all ++ run_of bytes character k in
      let long = all ++ run_of bytes character m in
      let less : length short ≤ length long = omega (
        arith,
        length-append all (run_of bytes character k),
        length-append all (run_of bytes character m),
        run_size bytes character k,
        run_size bytes character m,
      ) in
      ap (take (length short)) (sym (append_assoc all (run_of bytes character m) (counted bytes character m ∷ [])))
      ∙ take-append-le (length short) long (counted bytes character m ∷ []) less
      ∙ run_front all bytes character k m (omega arith))
]

-- the one at an index among them
pub run_at : (all : List Entry) (bytes : List ℕ) (character k : ℕ) (d : Entry)
    → get_or (all ++ run_of bytes character (suc k)) (length all + k) d ≡ counted bytes character k
run_at all bytes character k d = ap (λ (x : List Entry). get_or x (length all + k) d)
    (sym (append_assoc all (run_of bytes character k) (counted bytes character k ∷ [])))
    ∙ get_or_push (all ++ run_of bytes character k) (counted bytes character k) d (length all + k)
    (omega (arith, length-append all (run_of bytes character k), run_size bytes character k))

-- ---- the bytes of the next, written in a word

module _ (word bytes : List ℕ) (d y : ℕ) (same : take d word ≡ take d bytes) where
  -- the bytes before the last stay
  pub word_stays : take d (slice_set word d y) ≡ take d bytes
  word_stays = take-set word d y ∙ same

  pub word_front : take d bytes ≡ take d (take (d + 1) (slice_set word d y))
  word_front = sym (take-take d (d + 1) (slice_set word d y) (omega arith) ∙ word_stays)

  -- all of them
  pub word_whole : d < length word → take (d + 1) (slice_set word d y) ≡ take d bytes ++ y ∷ []
  word_whole low = take_more_set word d y low ∙ ap (λ (x : List ℕ). x ++ y ∷ []) same
