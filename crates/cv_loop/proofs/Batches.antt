-- One more frame of a batch, and the requests that it has in the end.
use Rattle.std.proofs.Common.{◌≡◌, ◌≢◌, ◌⊎◌, inl, inr, ℕ, zero, suc, ◌+◌, ◌-◌, ◌≤◌, ◌<◌, Bool, true, false, not, cond}
use Rattle.std.proofs.Common.{List, [], ◌∷◌, ◌++◌, length, take, drop, take_while, refl, sym, ap, ◌∙◌, append_assoc}
use Rattle.std.proofs.Common.{length-append, arith}
use Rattle.std.specs.List.{AllByRecursion}
use Rattle.std.proofs.lemmas.List.{length-drop, drop-drop, append-nil, take_rest, take_all}
use Rattle.std.proofs.lemmas.List.Sums.{take_while-cons}
use Rattle.std.proofs.lemmas.List.Concat.{flat_map-append}
use Rattle.cv_frame.specs.Message.{Message, joined, spelling, FitsFrame}
use Rattle.cv_frame.specs.Cut.{front_of, Cut, IsBytes, messages_of}
use Rattle.cv_frame.specs.declared.reading.Frame.TheVariants.{Whole, Partial, Bad}
use Rattle.cv_frame.proofs.Cuts.{front_takes, front_size, IsBytes-drop, cut_whole, cut_rest, cut-joined}
use Rattle.cv_loop.specs.Private.Batches.{is_upload, is_of_kind, most_of_kind, first_kind, next_requests}

module _ (P : Message → Type 0) where
  -- a property holds of all messages, and of one more
  pub all-push : (ms : List Message) (m : Message) → AllByRecursion P ms → P m → AllByRecursion P (ms ++ m ∷ [])
  all-push [] m all one = (one, tt)
  all-push (x ∷ ms) m all one = (all.0, all-push ms m all.1 one)

-- the bytes of frames, and of one more
pub joined-push : (ms : List Message) (m : Message) → joined (ms ++ m ∷ []) ≡ joined ms ++ spelling m
joined-push ms m = flat_map-append spelling ms (m ∷ []) ∙ ap (λ (x : List ℕ). joined ms ++ x) (append-nil (spelling m))

-- a request is of this kind
abbrev pub IsOfKind : Bool → Message → Type 0
IsOfKind kind m = is_of_kind kind m ≡ true

-- These whole frames, all of the kind of the first, were gathered from the start of the bytes. They have `used` bytes.
pub record Gathered (bytes : List ℕ) (ms : List Message) (used : ℕ) : Type 0 where
  pub within : used ≤ length bytes
  pub front : bytes ≡ joined ms ++ drop used bytes
  pub fits : AllByRecursion FitsFrame ms
  pub alike : AllByRecursion (IsOfKind (first_kind ms)) ms
  pub far : length ms ≤ used

-- a request is of its own kind
same_kind : (kind : Bool) (m : Message) → is_upload m ≡ kind → IsOfKind kind m
same_kind true m e = e
same_kind false m e = ap not e

-- a request that is the first of a batch, or of its kind
abbrev pub Joins : List Message → Message → Type 0
Joins ms m = (0 < length ms) → is_upload m ≡ first_kind ms

-- the kind of a batch is not changed by one more request of its kind
pub kind_stays : (ms : List Message) (m : Message) → Joins ms m → is_upload m ≡ first_kind (ms ++ m ∷ [])
kind_stays [] m joins = refl
kind_stays (x ∷ ms) m joins = joins (omega arith)

all_alike : (ms : List Message) (m : Message) → Joins ms m → AllByRecursion (IsOfKind (first_kind ms)) ms
    → AllByRecursion (IsOfKind (first_kind (ms ++ m ∷ []))) (ms ++ m ∷ [])
all_alike [] m joins all = (same_kind (is_upload m) m refl, tt)
all_alike (x ∷ ms) m joins all =
    all-push (IsOfKind (is_upload x)) (x ∷ ms) m all (same_kind (is_upload x) m (joins (omega arith)))

-- how far one more whole frame reaches
pub frame_within : (bytes : List ℕ) (used n : ℕ) (m : Message) → used ≤ length bytes → Whole m n
    ≡ front_of (take (length bytes - used) (drop used bytes)) → (used < used + n) × (used + n ≤ length bytes)
frame_within bytes used n m within e =
    let s = front_size (drop used bytes) m n (ap front_of (sym (take_rest bytes used)) ∙ sym e) in
    (omega (arith, s.0), omega (arith, within, s.1, length-drop used bytes))

-- one more whole frame is gathered
pub gathered_more : (bytes : List ℕ) (ms : List Message) (used n : ℕ) (m : Message) → IsBytes bytes
    → Gathered bytes ms used → Whole m n ≡ front_of (take (length bytes - used) (drop used bytes))
    → Joins ms m → Gathered bytes (ms ++ m ∷ []) (used + n)
gathered_more bytes ms used n m fits so e joins =
    let rest : List ℕ = drop used bytes in
    let f : front_of rest ≡ Whole m n = ap front_of (sym (take_rest bytes used)) ∙ sym e in
    let within = frame_within bytes used n m so.within e in
    let t = front_takes rest m n (IsBytes-drop used bytes fits) f in
    record {
      within = within.1;
      front = so.front ∙ ap (λ (x : List ℕ). joined ms ++ x) (t.0 ∙ ap (λ (x : List ℕ). spelling m ++ x)
          (drop-drop n used bytes)) ∙ sym (append_assoc (joined ms) (spelling m) (drop (used + n) bytes))
          ∙ ap (λ (x : List ℕ). x ++ drop (used + n) bytes) (sym (joined-push ms m));
      fits = all-push FitsFrame ms m so.fits t.1;
      alike = all_alike ms m joins so.alike;
      far = omega (arith, so.far, within.0, length-append ms (m ∷ []));
    }

-- ---- which requests a batch has

module _ (p : Message → Bool) where
  one_fewer : {X : Type 0} (ms : List Message) (m : Message) (k : ℕ) → (length (m ∷ ms) ≡ suc k) ⊎ X
      → (length ms ≡ k) ⊎ X
  one_fewer ms m k (inl full) = inl (omega (arith, full))
  one_fewer ms m k (inr none) = inr none

  -- Of the first messages that pass a test, at most k are taken. These are the messages known to pass, if they are k or
  -- the next one does not pass.
  pub taken_run : (ms more : List Message) (k : ℕ) → AllByRecursion (λ m. p m ≡ true) ms → length ms ≤ k
      → (length ms ≡ k) ⊎ (take_while p more ≡ []) → take k (take_while p (ms ++ more)) ≡ ms
  taken_run [] more k all few (inl full) = ap (λ (n : ℕ). take n (take_while p more)) (sym full)
  taken_run [] more k all few (inr none) = ap (take k) none ∙ take_all k [] (omega arith)
  taken_run (m ∷ ms) more zero all few why = absurd (omega (arith, few))
  taken_run (m ∷ ms) more (suc k) all few why =
      let e : take_while p (m ∷ (ms ++ more)) ≡ m ∷ take_while p (ms ++ more) =
      take_while-cons p m (ms ++ more) ∙ ap (λ (b : Bool). cond b (m ∷ take_while p (ms ++ more)) []) all.0 in
      ap (take (suc k)) e
      ∙ ap (λ (xs : List Message). m ∷ xs) (taken_run ms more k all.1 (omega (arith, few)) (one_fewer ms m k why))

-- no request is in less than a frame, or at a bad length
pub none_at_partial : (rest : List ℕ) → front_of rest ≡ Partial → messages_of rest ≡ []
none_at_partial rest e = ap (λ (c : Cut). c.messages) (cut_rest rest (λ m n h. absurd cc))

pub none_at_bad : (rest : List ℕ) (l : ℕ) → front_of rest ≡ Bad l → messages_of rest ≡ []
none_at_bad rest l e = ap (λ (c : Cut). c.messages) (cut_rest rest (λ m n h. absurd cc))

first_of : (ms rest : List Message) → (0 < length ms) ⊎ (rest ≡ []) → first_kind (ms ++ rest) ≡ first_kind ms
first_of (m ∷ ms) rest some = refl
first_of [] rest (inl some) = absurd (omega (arith, some))
first_of [] rest (inr none) = ap first_kind none

-- What was gathered is the next batch, if that is full or what follows does not begin with a request of its kind.
pub batch_is : (bytes : List ℕ) (at_once used : ℕ) (ms : List Message) → Gathered bytes ms used
    → (0 < length ms) ⊎ (messages_of (drop used bytes) ≡ []) → length ms ≤ most_of_kind (first_kind ms) at_once
    → (length ms ≡ most_of_kind (first_kind ms) at_once)
    ⊎ (take_while (is_of_kind (first_kind ms)) (messages_of (drop used bytes)) ≡ [])
    → ms ≡ next_requests at_once (messages_of bytes)
batch_is bytes at_once used ms so some few why =
    let rest : List Message = messages_of (drop used bytes) in
    let kind : Bool = first_kind ms in
    let all : messages_of bytes ≡ ms ++ rest = ap messages_of so.front
    ∙ ap (λ (c : Cut). c.messages) (cut-joined ms (drop used bytes) so.fits) in
    let is : first_kind (messages_of bytes) ≡ kind = ap first_kind all ∙ first_of ms rest some in
    sym (ap (λ (k : Bool). take (most_of_kind k at_once) (take_while (is_of_kind k) (messages_of bytes))) is
    ∙ ap (λ (xs : List Message). take (most_of_kind kind at_once) (take_while (is_of_kind kind) xs)) all
    ∙ taken_run (is_of_kind kind) ms rest (most_of_kind kind at_once) so.alike few why)

-- no request follows
pub batch_last : (bytes : List ℕ) (at_once used : ℕ) (ms : List Message) → Gathered bytes ms used
    → length ms ≤ most_of_kind (first_kind ms) at_once → messages_of (drop used bytes) ≡ []
    → ms ≡ next_requests at_once (messages_of bytes)
batch_last bytes at_once used ms so few none = batch_is bytes at_once used ms so (inr none) few
    (inr (ap (take_while (is_of_kind (first_kind ms))) none))

other_kind : (kind : Bool) (m : Message) → is_upload m ≢ kind → is_of_kind kind m ≡ false
other_kind true m other = grind (arith, other)
other_kind false m other = grind (arith, other)

-- a request of the other kind follows
pub batch_before : (bytes : List ℕ) (at_once used n : ℕ) (ms : List Message) (m : Message) → Gathered bytes ms used
    → length ms ≤ most_of_kind (first_kind ms) at_once → 0 < length ms
    → Whole m n ≡ front_of (take (length bytes - used) (drop used bytes)) → is_upload m ≢ first_kind ms
    → ms ≡ next_requests at_once (messages_of bytes)
batch_before bytes at_once used n ms m so few some e other =
    let kind : Bool = first_kind ms in
    let rest : List ℕ = drop used bytes in
    let later : List Message = messages_of (drop n rest) in
    let f : front_of rest ≡ Whole m n = ap front_of (sym (take_rest bytes used)) ∙ sym e in
    batch_is bytes at_once used ms so (inl some) few
    (inr (ap (λ (c : Cut). take_while (is_of_kind kind) c.messages) (cut_whole rest m n f)
    ∙ take_while-cons (is_of_kind kind) m later
    ∙ ap (λ (b : Bool). cond b (m ∷ take_while (is_of_kind kind) later) []) (other_kind kind m other)))
