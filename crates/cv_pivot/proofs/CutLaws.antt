-- The result of feeds does not depend on how the text and the room were cut.
use Rattle.std.proofs.Common.{◌≡◌, ℕ, ◌+◌, ◌⊎◌, ◌<◌, ◌≤◌, List, [], ◌∷◌, ◌++◌, length, drop, refl, sym, ◌∙◌, ap, subst}
use Rattle.std.proofs.Common.{arith, add-zero, inl, inr}
use Rattle.std.proofs.lemmas.List.{drop-drop}
use Rattle.cv_base.specs.Items.{Taken, ItemRelation, Begins, Stands, NoneStands}
use Rattle.cv_base.specs.Codecs.{Writing, IsReadable}
use Rattle.cv_base.specs.Chains.{IsChain, used_bytes, read_state, Output, written, followed, output_of}
use Rattle.cv_base.specs.Policies.{Allows}
use Rattle.cv_base.specs.declared.policy.Policy.{Policy}
use Rattle.cv_base.specs.declared.policy.Policy.TheVariants.{Substitute, Strict}
use Rattle.cv_base.specs.declared.state.ReadState.{ReadState}
use Rattle.cv_base.specs.declared.state.WriteState.{WriteState}
use Rattle.cv_base.proofs.ChainLaws.{used_bytes-append, read_state-append, output_of-append, IsChain-append}
use Rattle.cv_base.proofs.Front.{Begins-drop, same_item, item_stays, none_stays}
use Rattle.cv_pivot.specs.Conversions.{LackingStands, StopsAt, IsConverted}
use Rattle.cv_pivot.specs.Cuts.{Call, used_of, IsFeed, IsFed, Total, total, EndsIll, EndsLacking, IsFront}
use Rattle.cv_pivot.specs.Cuts.{DoesNotDependOnCuts}
use Rattle.cv_pivot.specs.declared.outcome.States.{States}
use Rattle.cv_pivot.specs.declared.outcome.Stop.TheVariants as stop
use Rattle.cv_pivot.proofs.Allowed.{middle_allowed}
use Rattle.cv_pivot.proofs.LongestChains.{Longer, longer, same_used, same_chain}

-- A chain stays a chain if bytes follow.
pub IsChain-more : (reads : ItemRelation) (s : ReadState) (text more : List ℕ) (chain : List Taken) → Begins text more
    → IsChain reads s text chain → IsChain reads s more chain
IsChain-more reads s text more [] b p = tt
IsChain-more reads s text more (i ∷ chain) b p = (
  item_stays reads s text more i b p.0,
  IsChain-more reads i.next (drop i.used text) (drop i.used more) chain (Begins-drop i.used text more b) p.1,
)

-- a call used as many bytes as its chain
uses : (reads : ItemRelation) (writes : Writing) (policy : Policy) (from : States) (call : Call)
    (p : IsConverted reads writes policy from call.input call.room call.came) → used_of call ≡ used_bytes p.chain
uses reads writes policy from call p = omega (arith, p.left)

front : (reads : ItemRelation) (writes : Writing) (policy : Policy) (from : States) (text : List ℕ) (calls : List Call)
    → IsFeed reads writes policy from calls → IsFed text calls → IsFront reads writes from text (total from calls)
front reads writes policy from text [] p q =
    record { chain = []; is_chain = tt; used = refl; output = refl; count = refl; reading = refl; writing = refl }
front reads writes policy from text (call ∷ calls) p q =
    let a = p.0 in
    let rest : IsFront reads writes call.came.states (drop (used_of call) text) (total call.came.states calls) =
    front reads writes policy call.came.states (drop (used_of call) text) calls p.1 q.1 in
    let first : IsChain reads from.reading text a.chain =
    IsChain-more reads from.reading call.input text a.chain q.0 a.longest.is_chain in
    let o : Output = output_of writes from.writing a.chain in
    let v : Output = output_of writes o.next rest.chain in
    let e = output_of-append writes from.writing a.chain rest.chain in
    let behind : output_of writes call.came.states.writing rest.chain ≡ v =
    ap (λ (t : WriteState). output_of writes t rest.chain) a.writing in
    record {
      chain = a.chain ++ rest.chain;
      is_chain = IsChain-append reads from.reading text a.chain rest.chain first
          (rw (← a.reading, ← uses reads writes policy from call a) rest.is_chain);
      used = omega (arith, used_bytes-append a.chain rest.chain, uses reads writes policy from call a, rest.used);
      output = ap (λ (x : List ℕ). x ++ (total call.came.states calls).output) a.output
          ∙ ap (λ (x : List ℕ). o.bytes ++ x) (rest.output ∙ ap (λ (x : Output). x.bytes) behind)
          ∙ sym (ap (λ (x : Output). x.bytes) e);
      count = ap (λ (n : ℕ). n + (total call.came.states calls).count) a.count ∙ ap (λ (n : ℕ). o.count + n)
          (rest.count ∙ ap (λ (x : Output). x.count) behind) ∙ sym (ap (λ (x : Output). x.count) e);
      reading = rest.reading ∙ ap (λ (s : ReadState). read_state s rest.chain) a.reading
          ∙ sym (read_state-append from.reading a.chain rest.chain);
      writing = rest.writing ∙ ap (λ (x : Output). x.next) behind ∙ sym (ap (λ (x : Output). x.next) e);
    }

-- No item is next after a feed that ends ill-formed.
ends_none : (reads : ItemRelation) (writes : Writing) (policy : Policy) (from : States) (text : List ℕ)
    (calls : List Call) → IsFeed reads writes policy from calls → IsFed text calls → EndsIll calls
    → NoneStands reads (total from calls).states.reading (drop (total from calls).used text)
ends_none reads writes policy from text [] p q h = absurd h
ends_none reads writes policy from text (call ∷ []) p q h =
    let ill : StopsAt reads writes policy call.came.states (drop (used_bytes p.0.chain) call.input) stop.Ill =
    rw h at p.0.stop in
    let left = rw (← uses reads writes policy from call p.0) at ill in
    rw add-zero (none_stays reads call.came.states.reading (drop (used_of call) call.input) (drop (used_of call) text)
    (Begins-drop (used_of call) call.input text q.0) left.1 left.2)
ends_none reads writes policy from text (call ∷ next ∷ calls) p q h =
    rw (← drop-drop (total call.came.states (next ∷ calls)).used (used_of call) text)
    (ends_none reads writes policy call.came.states (drop (used_of call) text) (next ∷ calls) p.1 q.1 h)

pub lacking_stays : (reads : ItemRelation) (writes : Writing) (policy : Policy) (states : States) (text more : List ℕ)
    → Begins text more → LackingStands reads writes policy states text → LackingStands reads writes policy states more
lacking_stays reads writes policy states text more b p =
    record { next = p.next; stands = item_stays reads states.reading text more p.next b p.stands; lacking = p.lacking }

-- If a feed ends at a character that the target lacks, that character is next.
ends_lacking : (reads : ItemRelation) (writes : Writing) (policy : Policy) (from : States) (text : List ℕ)
    (calls : List Call) → IsFeed reads writes policy from calls → IsFed text calls → EndsLacking calls
    → LackingStands reads writes policy (total from calls).states (drop (total from calls).used text)
ends_lacking reads writes policy from text [] p q h = absurd h
ends_lacking reads writes policy from text (call ∷ []) p q h =
    let lacks : StopsAt reads writes policy call.came.states (drop (used_bytes p.0.chain) call.input) stop.Lacking =
    rw h at p.0.stop in
    let left = rw (← uses reads writes policy from call p.0) at lacks in
    rw add-zero (lacking_stays reads writes policy call.came.states (drop (used_of call) call.input)
    (drop (used_of call) text) (Begins-drop (used_of call) call.input text q.0) left)
ends_lacking reads writes policy from text (call ∷ next ∷ calls) p q h =
    rw (← drop-drop (total call.came.states (next ∷ calls)).used (used_of call) text)
    (ends_lacking reads writes policy call.came.states (drop (used_of call) text) (next ∷ calls) p.1 q.1 h)

strict_counts_none : (reads : ItemRelation) (writes : Writing) (from : States) (calls : List Call)
    → IsFeed reads writes Strict from calls → (total from calls).count ≡ 0
strict_counts_none reads writes from [] p = refl
strict_counts_none reads writes from (call ∷ calls) p =
    omega (arith, p.0.count, p.0.longest.allowed, strict_counts_none reads writes call.came.states calls p.1)

-- The policy allows the result of a feed.
feed_allowed : (reads : ItemRelation) (writes : Writing)
    (policy : Policy) (from : States) (text : List ℕ) (calls : List Call) → IsFeed reads writes policy from calls
    → (f : IsFront reads writes from text (total from calls)) → Allows policy (output_of writes from.writing f.chain)
feed_allowed reads writes Substitute from text calls p f = tt
feed_allowed reads writes Strict from text calls p f = sym f.count ∙ strict_counts_none reads writes from calls p

pub not_longer : (reads : ItemRelation) → IsReadable reads → (s : ReadState) (text : List ℕ) (a b : List Taken)
    (end : ReadState) (used : ℕ) → IsChain reads s text a → IsChain reads s text b → end ≡ read_state s a
    → used ≡ used_bytes a → NoneStands reads end (drop used text) → length b ≤ length a
not_longer reads r s text a b end used p q e u none =
    let never : length a < length b → ⊥ = (λ h. let more : Longer reads s text a b = longer reads r s text a b p q h in
    none more.item (rw (e, u) more.stands)) in
    omega (arith, never)

-- No chain that the policy allows goes past a character that it does not allow.
pub not_past : (reads : ItemRelation) (writes : Writing) (policy : Policy) → IsReadable reads → (from end : States)
    (text : List ℕ) (used : ℕ) (a b : List Taken) → IsChain reads from.reading text a → IsChain reads from.reading text
    b → Allows policy (output_of writes from.writing b) → end.reading ≡ read_state from.reading a
    → end.writing ≡ (output_of writes from.writing a).next → used ≡ used_bytes a
    → LackingStands reads writes policy end (drop used text) → length b ≤ length a
not_past reads writes policy r from end text used a b p q ok reading writing u lacks =
    let never : length a < length b → ⊥ = (λ h.
    let more : Longer reads from.reading text a b = longer reads r from.reading text a b p q h in
    let stands : Stands reads end.reading (drop used text) more.item = rw (reading, u) more.stands in
    let same : more.item ≡ lacks.next =
    same_item reads r end.reading (drop used text) more.item lacks.next stands lacks.stands in
    let o = output_of writes from.writing a in
    let w = written writes o.next more.item.gives in
    let v = output_of writes w.next more.items in
    let e : output_of writes from.writing b ≡ followed o (followed w v) = ap (output_of writes from.writing) more.is
    ∙ output_of-append writes from.writing a (more.item ∷ more.items) in
    let item_ok : Allows policy w = middle_allowed policy o w v (subst (λ (x : Output). Allows policy x) e ok) in
    let w_is : w ≡ written writes end.writing lacks.next.gives = ap (λ (t : WriteState).
    written writes t more.item.gives) (sym writing) ∙ ap (λ (i : Taken). written writes end.writing i.gives) same in
    lacks.lacking (subst (λ (x : Output). Allows policy x) w_is item_ok)) in
    omega (arith, never)

same_total : (a b : Total) → a.used ≡ b.used → a.output ≡ b.output → a.count ≡ b.count
    → a.states.reading ≡ b.states.reading → a.states.writing ≡ b.states.writing → a ≡ b
same_total a b u o c r w = rw (u, o, c, r, w) refl

same : (reads : ItemRelation) (writes : Writing) (policy : Policy) → IsReadable reads → (from : States) (text : List ℕ)
    (a b : List Call) → IsFeed reads writes policy from a → IsFeed reads writes policy from b → IsFed text a
    → IsFed text b → (total from a).used ≡ (total from b).used → total from a ≡ total from b
same reads writes policy r from text a b p q f g e =
    let x = front reads writes policy from text a p f in
    let y = front reads writes policy from text b q g in
    let one : x.chain ≡ y.chain =
    same_used reads r from.reading text x.chain y.chain x.is_chain y.is_chain (sym x.used ∙ e ∙ y.used) in
    same_total (total from a) (total from b) e
    (x.output ∙ ap (λ (c : List Taken). (output_of writes from.writing c).bytes) one ∙ sym y.output)
    (x.count ∙ ap (λ (c : List Taken). (output_of writes from.writing c).count) one ∙ sym y.count)
    (x.reading ∙ ap (read_state from.reading) one ∙ sym y.reading)
    (x.writing ∙ ap (λ (c : List Taken). (output_of writes from.writing c).next) one ∙ sym y.writing)

-- A feed that ends at ill-formed bytes takes at least as many items as any other.
ill_takes_most : (reads : ItemRelation) (writes : Writing) (policy : Policy) → IsReadable reads
    → (from : States) (text : List ℕ) (a b : List Call) → IsFeed reads writes policy from a → IsFed text a → EndsIll a
    → (x : IsFront reads writes from text (total from a)) (y : IsFront reads writes from text (total from b))
    → length y.chain ≤ length x.chain
ill_takes_most reads writes policy r from text a b p f h x y = not_longer reads r from.reading text x.chain y.chain _ _
    x.is_chain y.is_chain x.reading x.used (ends_none reads writes policy from text a p f h)

-- A feed that ends at a character that the target lacks takes at least as many items as any other.
lacking_takes_most : (reads : ItemRelation) (writes : Writing) (policy : Policy) → IsReadable reads → (from : States)
    (text : List ℕ) (a b : List Call) → IsFeed reads writes policy from a → IsFeed reads writes policy from b
    → IsFed text a → EndsLacking a → (x : IsFront reads writes from text (total from a))
    (y : IsFront reads writes from text (total from b)) → length y.chain ≤ length x.chain
lacking_takes_most reads writes policy r from text a b p q f h x y = not_past reads writes policy r from
    (total from a).states text (total from a).used x.chain y.chain x.is_chain y.is_chain (feed_allowed reads writes
    policy from text b q y) x.reading x.writing x.used (ends_lacking reads writes policy from text a p f h)

same_end : (reads : ItemRelation) (writes : Writing) (policy : Policy) → IsReadable reads
    → (from : States) (text : List ℕ) (a b : List Call) → IsFeed reads writes policy from a
    → IsFeed reads writes policy from b → IsFed text a → IsFed text b
    → (EndsIll a × EndsIll b) ⊎ (EndsLacking a × EndsLacking b) → (total from a).used ≡ (total from b).used
same_end reads writes policy r from text a b p q f g h =
    let x = front reads writes policy from text a p f in
    let y = front reads writes policy from text b q g in
    let m : length y.chain ≤ length x.chain = elim h [
      | inl e ↦ ill_takes_most reads writes policy r from text a b p f e.0 x y
      | inr e ↦ lacking_takes_most reads writes policy r from text a b p q f e.0 x y
    ] in
    let n : length x.chain ≤ length y.chain = elim h [
      | inl e ↦ ill_takes_most reads writes policy r from text b a q g e.1 y x
      | inr e ↦ lacking_takes_most reads writes policy r from text b a q p g e.1 y x
    ] in
    let one : x.chain ≡ y.chain =
    same_chain reads r from.reading text x.chain y.chain x.is_chain y.is_chain (omega (arith, m, n)) in
    x.used ∙ ap used_bytes one ∙ sym y.used

-- the result of feeds does not depend on the cuts
pub cuts : (reads : ItemRelation) (writes : Writing) (policy : Policy) → IsReadable reads
    → DoesNotDependOnCuts reads writes policy
cuts reads writes policy r = record {
  front = front reads writes policy;
  same = same reads writes policy r;
  same_end = same_end reads writes policy r;
}
