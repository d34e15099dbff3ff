-- A codec whose characters each read back, in corresponding states, reads whole texts back.
use Rattle.std.proofs.Common.{◌≡◌, ℕ, ◌≤◌, List, [], ◌∷◌, ◌++◌, length, drop, refl, ◌∙◌, ap, subst, arith}
use Rattle.std.proofs.Common.{append_assoc, length-append, length-drop, Option, Some, None}
use Rattle.std.proofs.Math.Seq.{drop-append_seam}
use Rattle.std.proofs.lemmas.List.{drop-append-le}
use Rattle.cv_base.specs.Scalars.{IsScalar, AreScalars, question}
use Rattle.cv_base.specs.Items.{Taken, taken, ItemRelation}
use Rattle.cv_base.specs.Codecs.{Writing}
use Rattle.cv_base.specs.Chains.{IsChain, used_bytes, read_state, characters_of, substituted, put_or, written}
use Rattle.cv_base.specs.Chains.{output_for}
use Rattle.cv_base.specs.ReadBack.{ReadsBack}
use Rattle.cv_base.specs.declared.state.ReadState.{ReadState}
use Rattle.cv_base.specs.declared.state.ReadState.TheVariants as read
use Rattle.cv_base.specs.declared.state.WriteState.{WriteState}
use Rattle.cv_base.specs.declared.state.WriteState.TheVariants as write
use Rattle.cv_base.proofs.Front.{Begins-refl, Begins-append, item_stays}
use Rattle.cv_base.proofs.ChainLaws.{IsChain-append, used_bytes-append, read_state-append, characters_of-append}

-- Which reading states correspond to a writing state.
abbrev pub Together : Type 1
Together = WriteState → ReadState → Type 0

-- From a state these bytes are a chain that gives these characters, and the state after it is the given one.
pub record IsReadFrom (reads : ItemRelation) (s : ReadState) (bytes characters : List ℕ)
    (IsAfter : ReadState → Type 0) : Type 0 where
  pub chain : List Taken
  pub is_chain : IsChain reads s bytes chain
  pub whole : used_bytes chain ≡ length bytes
  pub gives : characters_of chain ≡ characters
  pub after : IsAfter (read_state s chain)

-- What is written for a character is read as that character, from each state that corresponds to the writing state. The
-- states after it correspond too.
abbrev pub EachReadsBack : ItemRelation → Writing → Together → Type 0
EachReadsBack reads writes Go = (t : WriteState) (s : ReadState) (c : ℕ) (bytes : List ℕ) (next : WriteState) → Go t s
    → IsScalar c → writes t c ≡ Some (bytes, next) → IsReadFrom reads s bytes (c ∷ []) (Go next)

-- The closing bytes are read as no character from a state that corresponds to the writing state.
abbrev pub ClosesBack : ItemRelation → (WriteState → List ℕ) → Together → Type 0
ClosesBack reads closes Go = (t : WriteState) (s : ReadState) → Go t s
    → IsReadFrom reads s (closes t) [] (λ next. Unit {0})

-- bytes that are one item
pub one_item : (reads : ItemRelation) (s next : ReadState) (bytes : List ℕ) (c : ℕ) (IsAfter : ReadState → Type 0)
    → reads s bytes (taken (length bytes) (Some c) next) → IsAfter next → IsReadFrom reads s bytes (c ∷ []) IsAfter
one_item reads s next bytes c IsAfter is after = record {
  chain = taken (length bytes) (Some c) next ∷ [];
  is_chain = (record { bytes = bytes; is_item = is; front = Begins-refl bytes }, tt);
  whole = omega arith;
  gives = refl;
  after = after;
}

-- a mark, and bytes that are one item after it
pub mark_and_item : (reads : ItemRelation) (s middle next : ReadState) (mark bytes : List ℕ) (c : ℕ)
    (IsAfter : ReadState → Type 0) → reads s mark (taken (length mark) None middle) → reads middle bytes
    (taken (length bytes) (Some c) next) → IsAfter next → IsReadFrom reads s (mark ++ bytes) (c ∷ []) IsAfter
mark_and_item reads s middle next mark bytes c IsAfter is then after = record {
  chain = taken (length mark) None middle ∷ taken (length bytes) (Some c) next ∷ [];
  is_chain = (
    record { bytes = mark; is_item = is; front = Begins-append mark bytes },
    rw (drop-append_seam mark bytes) (record { bytes = bytes; is_item = then; front = Begins-refl bytes }, tt),
  );
  whole = omega (arith, length-append mark bytes);
  gives = refl;
  after = after;
}

bytes_in : Option (List ℕ × WriteState) → List ℕ
bytes_in (Some p) = p.0
bytes_in None = []

state_in : Option (List ℕ × WriteState) → WriteState
state_in (Some p) = p.1
state_in None = write.Start

-- what is written: the bytes and the state after them
abbrev pub wrote : List ℕ → WriteState → Option (List ℕ × WriteState)
wrote bytes next = Some (bytes, next)

-- what holds of one of two equal results holds of the other
pub same_written : (P : List ℕ → WriteState → Type 0) (a b : List ℕ) (t u : WriteState) → P a t → wrote a t ≡ wrote b u
    → P b u
unfolding bytes_in state_in
same_written P a b t u p e =
    let f : a ≡ b = ap bytes_in e in
    let g : t ≡ u = ap state_in e in
    subst (λ v. P b v) g (subst (λ w. P w t) f p)

-- nothing closes the text of an encoding without shifts
pub no_closing : (reads : ItemRelation) (Go : Together) → ClosesBack reads (λ t. []) Go
no_closing reads Go t s g = record { chain = []; is_chain = tt; whole = refl; gives = refl; after = tt }

-- a chain stays when bytes follow
pub IsChain-follow : (reads : ItemRelation) (s : ReadState) (front behind : List ℕ) (chain : List Taken)
    → IsChain reads s front chain → used_bytes chain ≤ length front → IsChain reads s (front ++ behind) chain
IsChain-follow reads s front behind [] p h = tt
IsChain-follow reads s front behind (i ∷ chain) p h =
    let within : i.used ≤ length front = omega arith in (
      item_stays reads s front (front ++ behind) i (Begins-append front behind) p.0,
      rw (drop-append-le i.used front behind within)
          (IsChain-follow reads i.next (drop i.used front) behind chain p.1 (omega (arith, length-drop i.used front))),
    )

-- what is read is continued by what is read after it
pub read_on : (reads : ItemRelation) (s : ReadState) (front behind first then : List ℕ)
    (Middle IsAfter : ReadState → Type 0) → (p : IsReadFrom reads s front first Middle) → IsReadFrom reads
    (read_state s p.chain) behind then IsAfter → IsReadFrom reads s (front ++ behind) (first ++ then) IsAfter
read_on reads s front behind first then Middle IsAfter p q =
    let there : drop (used_bytes p.chain) (front ++ behind) ≡ behind = rw p.whole (drop-append_seam front behind) in
    record {
      chain = p.chain ++ q.chain;
      is_chain = IsChain-append reads s (front ++ behind) p.chain q.chain
          (IsChain-follow reads s front behind p.chain p.is_chain (omega (arith, p.whole))) (rw there q.is_chain);
      whole = omega (arith, used_bytes-append p.chain q.chain, length-append front behind, p.whole, q.whole);
      gives = characters_of-append p.chain q.chain ∙ rw (p.gives, q.gives) refl;
      after = rw (read_state-append s p.chain q.chain) q.after;
    }

-- a character for which `?` isn't counted is written
is_written : (t : WriteState) (a b : Option (List ℕ × WriteState)) → (put_or (substituted t a) b).count ≡ 0
    → b ≡ Some ((put_or (substituted t a) b).bytes, (put_or (substituted t a) b).next)
is_written t a (Some (bytes, next)) e = refl
is_written t (Some (bytes, next)) None e = absurd (omega arith)
is_written t None None e = absurd (omega arith)

-- characters that are written from a state are read from a state that corresponds to it
text_back : (reads : ItemRelation) (writes : Writing) (closes : WriteState → List ℕ) (Go : Together)
    → EachReadsBack reads writes Go → ClosesBack reads closes Go
    → (characters : List ℕ) (t : WriteState) (s : ReadState) → Go t s → AreScalars characters
    → (output_for writes t characters).count ≡ 0 → IsReadFrom reads s ((output_for writes t characters).bytes
    ++ closes (output_for writes t characters).next) characters (λ next. Unit {0})
text_back reads writes closes Go each closing [] t s g scalars e = closing t s g
text_back reads writes closes Go each closing (c ∷ characters) t s g scalars e =
    let first = written writes t (Some c) in
    let others = output_for writes first.next characters in
    let one =
    each t s c first.bytes first.next g scalars.0 (is_written t (writes t question) (writes t c) (omega arith)) in
    let rest = text_back reads writes closes Go each closing characters first.next
    (read_state s one.chain) one.after scalars.1 (omega arith) in
    rw (append_assoc first.bytes others.bytes (closes others.next)) (read_on reads s first.bytes
    (others.bytes ++ closes others.next) (c ∷ []) characters (Go first.next) (λ next. Unit {0}) one rest)

-- whole texts are read back if each character and the closing bytes are
pub texts_back : (reads : ItemRelation) (writes : Writing) (closes : WriteState → List ℕ) (Go : Together)
    → EachReadsBack reads writes Go → ClosesBack reads closes Go → Go write.Start read.Start
    → ReadsBack reads writes closes
texts_back reads writes closes Go each closing start characters scalars e =
    let text = text_back reads writes closes Go each closing characters write.Start read.Start start scalars e in
    record { chain = text.chain; is_chain = text.is_chain; whole = text.whole; gives = text.gives }
