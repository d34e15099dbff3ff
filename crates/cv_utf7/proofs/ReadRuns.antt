-- Runs of direct characters that are read.
use Rattle.std.proofs.Common.{◌≡◌, ℕ, ◌+◌, ◌<◌, ◌≤◌, List, [], ◌∷◌, ◌++◌, length, take, drop, set, refl, sym, ◌∙◌, ap}
use Rattle.std.proofs.Common.{arith, append_assoc, length-drop, length-take, length-take-le, get_or, get_or-drop, zero}
use Rattle.std.proofs.Common.{suc, true, Some}
use Rattle.std.proofs.lemmas.List.{take_more, take-take, take_more_set, take_all, ext_get_or, get_or-take}
use Rattle.std.proofs.Math.Seq.{take-append-add}
use Rattle.cv_base.specs.Items.{Taken, taken, Begins}
use Rattle.cv_base.specs.Chains.{IsChain, used_bytes, read_state, characters_of}
use Rattle.cv_base.proofs.Front.{Begins-take}
use Rattle.cv_base.specs.declared.state.ReadState.TheVariants as read
use Rattle.cv_utf7.specs.Sets.{may_be_direct}
use Rattle.cv_utf7.specs.Utf7.{utf7_reads}
use Rattle.cv_utf7.specs.Private.ReadSteps.{read_to, ReadsOn}

-- each byte may be direct
abbrev pub AreDirect : List ℕ → Type 0
AreDirect [] = Unit {0}
AreDirect (b ∷ bytes) = (may_be_direct b ≡ true) × AreDirect bytes

-- the items of direct bytes
abbrev pub direct_items : List ℕ → List Taken
direct_items [] = []
direct_items (b ∷ bytes) = taken 1 (Some b) read.Start ∷ direct_items bytes

direct_chain : (bytes text : List ℕ) → AreDirect bytes → Begins bytes text
    → IsChain utf7_reads read.Start text (direct_items bytes)
direct_chain [] text d b = tt
direct_chain (x ∷ bytes) [] d b = absurd b
direct_chain (x ∷ bytes) (y ∷ text) d b =
    (record { bytes = x ∷ []; is_item = (d.0, refl); front = (b.0, tt) }, direct_chain bytes text d.1 b.1)

direct_used : (bytes : List ℕ) → used_bytes (direct_items bytes) ≡ length bytes
direct_used [] = refl
direct_used (x ∷ bytes) = omega (arith, direct_used bytes)

direct_state : (bytes : List ℕ) → read_state read.Start (direct_items bytes) ≡ read.Start
direct_state [] = refl
direct_state (x ∷ bytes) = direct_state bytes

direct_characters : (bytes : List ℕ) → characters_of (direct_items bytes) ≡ bytes
direct_characters [] = refl
direct_characters (x ∷ bytes) = ap (λ (l : List ℕ). x ∷ l) (direct_characters bytes)

-- a prefix of a text is direct if each of its bytes is
pub are_direct : (k : ℕ) (text : List ℕ) → ((i : ℕ) → i < k → i < length text → may_be_direct (get_or text i 0) ≡ true)
    → AreDirect (take k text)
are_direct zero text h = tt
are_direct (suc k) [] h = tt
are_direct (suc k) (x ∷ text) h =
    (h 0 (omega arith) (omega arith), are_direct k text (λ i l m. h (suc i) (omega arith) (omega arith)))

-- direct bytes are read
pub reads_direct : (text : List ℕ) (used n k : ℕ) (before after : List ℕ) → used + k ≤ length text → n + k
    ≤ length after → length after ≡ length before → ((i : ℕ) → i < k → may_be_direct (get_or text (used + i) 0) ≡ true)
    → take (n + k) after ≡ take n before ++ take k (drop used text)
    → ReadsOn text (read_to read.Start used n) before (read_to read.Start (used + k) (n + k)) after
reads_direct text used n k before after h f l d g =
    let bytes = take k (drop used text) in
    let long : length bytes ≡ k = simp (length-take, length-drop) (omega arith) in
    record {
      chain = direct_items bytes;
      is_chain = direct_chain bytes (drop used text) (are_direct k (drop used text) (λ i p q. rw get_or-drop (d i p)))
          (Begins-take k (drop used text));
      uses = omega (arith, direct_used bytes);
      within = h;
      next = sym (direct_state bytes);
      gives = g ∙ ap (λ (x : List ℕ). take n before ++ x) (sym (direct_characters bytes));
      fits = f;
      size = l;
    }

-- a prefix of what was put
pub front_of_put : (n run most : ℕ) (before after bytes : List ℕ) → n ≤ length before → run ≤ most
    → take (n + most) after ≡ take n before ++ take most bytes → take (n + run) after ≡ take n before ++ take run bytes
front_of_put n run most before after bytes h r e =
    let long : length (take n before) ≡ n = simp length-take (omega arith) in
    sym (take-take (n + run) (n + most) after (omega arith)) ∙ ap (take (n + run)) e
    ∙ ap (λ (k : ℕ). take (k + run) (take n before ++ take most bytes)) (sym long) ∙ take-append-add (take n before)
    (take most bytes) run ∙ ap (λ (x : List ℕ). take n before ++ x) (take-take run most bytes r)

-- the first of a run of direct bytes are read
pub reads_run : (text : List ℕ) (used n run most : ℕ) (before after : List ℕ) → used + most ≤ length text → n + most
    ≤ length before → length after ≡ length before → ((i : ℕ) → i < run → may_be_direct (get_or text (used + i) 0)
    ≡ true) → take (n + most) after ≡ take n before ++ take most (drop used text) → (m : ℕ) → m ≤ run → m ≤ most
    → ReadsOn text (read_to read.Start used n) before (read_to read.Start (used + m) (n + m)) after
reads_run text used n run most before after h l size direct put m k s =
    reads_direct text used n m before after (omega arith) (omega arith) size (λ i p. direct i (omega arith))
    (front_of_put n m most before after (drop used text) (omega arith) s put)

-- the first of sixteen bytes that are put are read, if they are direct bytes of the text
pub reads_first : (text : List ℕ) (used n run : ℕ) (before after bytes : List ℕ) → used + run ≤ length text
    → n + 16 ≤ length before → length after ≡ length before → length bytes ≡ 16 → run ≤ 16
    → ((i : ℕ) → i < run → may_be_direct (get_or text (used + i) 0) ≡ true)
    → ((i : ℕ) → i < 16 → used + i < length text → get_or bytes i 0 ≡ get_or text (used + i) 0)
    → take (n + 16) after ≡ take n before ++ bytes
    → ReadsOn text (read_to read.Start used n) before (read_to read.Start (used + run) (n + run)) after
reads_first text used n run before after bytes h l size long few direct same put =
    let all : take 16 bytes ≡ bytes = take_all 16 bytes (omega (arith, long)) in
    let there : take run bytes ≡ take run (drop used text) =
    ext_get_or 0 _ _ (simp (length-take, length-drop) (omega (arith, long))) (λ i k.
    (let m : i < run = omega (arith, length-take-le run bytes (omega (arith, long))) in
    get_or-take run bytes i 0 m ∙ same i (omega arith) (omega arith)
    ∙ sym (get_or-take run (drop used text) i 0 m ∙ get_or-drop used text i 0))) in
    reads_direct text used n run before after h (omega arith) size direct
    (front_of_put n run 16 before after bytes (omega arith) few
    (put ∙ ap (λ (x : List ℕ). take n before ++ x) (sym all)) ∙ ap (λ (x : List ℕ). take n before ++ x) there)

-- one more of many bytes is put
pub put_more : (n i v : ℕ) (before now bytes : List ℕ) → n + i < length now
    → i < length bytes → v ≡ get_or bytes i 0 → take (n + i) now ≡ take n before ++ take i bytes
    → take (n + (i + 1)) (set now (n + i) v) ≡ take n before ++ take (i + 1) bytes
put_more n i v before now bytes h l e p =
    let there : n + (i + 1) ≡ n + i + 1 = omega arith in
    ap (λ (k : ℕ). take k (set now (n + i) v)) there ∙ take_more_set now (n + i) v h
    ∙ ap (λ (x : List ℕ). x ++ v ∷ []) p ∙ append_assoc (take n before) (take i bytes) (v ∷ [])
    ∙ ap (λ (x : List ℕ). take n before ++ x) (ap (λ (w : ℕ). take i bytes ++ w ∷ []) e ∙ sym (take_more bytes i 0 l))
