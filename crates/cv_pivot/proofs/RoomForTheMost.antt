-- A conversion has only one result, and enough room is as good as any room.
use Rattle.std.proofs.Common.{◌≡◌, ℕ, ◌*◌, ◌≤◌, min, List, [], ◌∷◌, length, drop, refl, sym, ap, subst, ◌∙◌, arith}
use Rattle.std.proofs.Common.{length-append, Option, Some, None}
use Rattle.std.specs.Prelude.{IfSome}
use Rattle.cv_base.specs.Scalars.{question}
use Rattle.cv_base.specs.Items.{Taken, ItemRelation}
use Rattle.cv_base.specs.Codecs.{Writing, IsReadable, WritesAtMost}
use Rattle.cv_base.specs.declared.policy.Policy.{Policy}
use Rattle.cv_base.specs.declared.state.ReadState.{ReadState}
use Rattle.cv_base.specs.declared.state.WriteState.{WriteState}
use Rattle.cv_base.specs.Chains.{IsChain, used_bytes, read_state, Output, put_or, substituted, written, output_of}
use Rattle.cv_base.specs.Policies.{Allows}
use Rattle.cv_pivot.specs.Conversions.{IsMostOutput, AllowedStands, LackingStands, StopsAt, Converts, Converted}
use Rattle.cv_pivot.specs.Conversions.{IsConverted}
use Rattle.cv_pivot.specs.declared.outcome.Stop.{Stop}
use Rattle.cv_pivot.specs.declared.outcome.Stop.TheVariants.{Done, TooBig, Ill, Incomplete, Lacking}
use Rattle.cv_pivot.specs.declared.outcome.Outcome.{Outcome}
use Rattle.cv_pivot.specs.declared.outcome.States.{States}
use Rattle.cv_base.proofs.Front.{same_item, stands_within}
use Rattle.cv_pivot.proofs.LongestChains.{same_longest}
use Rattle.cv_pivot.proofs.Progress.{output_of-count, used_bytes-within}
use Rattle.std.proofs.Math.Nat.{mul-le-mul_left}

-- ---- one conversion

not_both : (reads : ItemRelation) (writes : Writing) (policy : Policy) → IsReadable reads → (states : States)
    (rest : List ℕ) → AllowedStands reads writes policy states rest → LackingStands reads writes policy states rest → ⊥
not_both reads writes policy r states rest p q =
    let same : p.next ≡ q.next = same_item reads r states.reading rest p.next q.next p.stands q.stands in
    q.lacking (subst (λ (i : Taken). Allows policy (written writes states.writing i.gives)) same p.allowed)

one_stop : (reads : ItemRelation) (writes : Writing) (policy : Policy) → IsReadable reads
    → (states : States) (rest : List ℕ) (a b : Stop) → StopsAt reads writes policy states rest a
    → StopsAt reads writes policy states rest b → a ≡ b
one_stop reads writes policy r states rest Done Done p q = refl
one_stop reads writes policy r states rest Done TooBig p q =
    absurd (omega (arith, stands_within reads r states.reading rest q.next q.stands, ap length p))
one_stop reads writes policy r states rest Done Ill p q = absurd (omega (arith, q.0, ap length p))
one_stop reads writes policy r states rest Done Incomplete p q = absurd (omega (arith, q.0, ap length p))
one_stop reads writes policy r states rest Done Lacking p q =
    absurd (omega (arith, stands_within reads r states.reading rest q.next q.stands, ap length p))
one_stop reads writes policy r states rest TooBig Done p q =
    absurd (omega (arith, stands_within reads r states.reading rest p.next p.stands, ap length q))
one_stop reads writes policy r states rest TooBig TooBig p q = refl
one_stop reads writes policy r states rest TooBig Ill p q = absurd (q.1 p.next p.stands)
one_stop reads writes policy r states rest TooBig Incomplete p q = absurd (q.1 p.next p.stands)
one_stop reads writes policy r states rest TooBig Lacking p q = absurd (not_both reads writes policy r states rest p q)
one_stop reads writes policy r states rest Ill Done p q = absurd (omega (arith, p.0, ap length q))
one_stop reads writes policy r states rest Ill TooBig p q = absurd (p.1 q.next q.stands)
one_stop reads writes policy r states rest Ill Ill p q = refl
one_stop reads writes policy r states rest Ill Incomplete p q = absurd (p.2 q.2)
one_stop reads writes policy r states rest Ill Lacking p q = absurd (p.1 q.next q.stands)
one_stop reads writes policy r states rest Incomplete Done p q = absurd (omega (arith, p.0, ap length q))
one_stop reads writes policy r states rest Incomplete TooBig p q = absurd (p.1 q.next q.stands)
one_stop reads writes policy r states rest Incomplete Ill p q = absurd (q.2 p.2)
one_stop reads writes policy r states rest Incomplete Incomplete p q = refl
one_stop reads writes policy r states rest Incomplete Lacking p q = absurd (p.1 q.next q.stands)
one_stop reads writes policy r states rest Lacking Done p q =
    absurd (omega (arith, stands_within reads r states.reading rest p.next p.stands, ap length q))
one_stop reads writes policy r states rest Lacking TooBig p q = absurd (not_both reads writes policy r states rest q p)
one_stop reads writes policy r states rest Lacking Ill p q = absurd (q.1 p.next p.stands)
one_stop reads writes policy r states rest Lacking Incomplete p q = absurd (q.1 p.next p.stands)
one_stop reads writes policy r states rest Lacking Lacking p q = refl

same_states : (a b : States) → a.reading ≡ b.reading → a.writing ≡ b.writing → a ≡ b
same_states a b r w = rw (r, w) refl

same_fields : (c d : Converted) → c.left ≡ d.left → c.count ≡ d.count → c.stop ≡ d.stop → c.output ≡ d.output
    → c.states.reading ≡ d.states.reading → c.states.writing ≡ d.states.writing → c ≡ d
same_fields c d l n s o r w = rw (l, n, s, o, r, w) refl

-- a text has only one conversion into a room
pub one_conversion : (reads : ItemRelation) (writes : Writing) (policy : Policy) → IsReadable reads
    → (from : States) (text : List ℕ) (room : ℕ) (c d : Converted)
    → IsConverted reads writes policy from text room c → IsConverted reads writes policy from text room d → c ≡ d
one_conversion reads writes policy r from text room c d p q =
    let e : p.chain ≡ q.chain =
    same_longest reads writes policy r from.reading from.writing text room p.chain q.chain p.longest q.longest in
    let reading : c.states.reading ≡ d.states.reading = p.reading ∙ ap (read_state from.reading) e ∙ sym q.reading in
    let rest : drop (used_bytes p.chain) text ≡ drop (used_bytes q.chain) text =
    ap (λ (x : List Taken). drop (used_bytes x) text) e in
    let writing : c.states.writing ≡ d.states.writing = p.writing
    ∙ ap (λ (x : List Taken). (output_of writes from.writing x).next) e ∙ sym q.writing in
    let states : c.states ≡ d.states = same_states c.states d.states reading writing in
    let stop : StopsAt reads writes policy d.states (drop (used_bytes q.chain) text) c.stop =
    subst (λ (x : List ℕ). StopsAt reads writes policy d.states x c.stop) rest
    (subst (λ (x : States). StopsAt reads writes policy x (drop (used_bytes p.chain) text) c.stop) states p.stop) in
    same_fields c d
    (omega (arith, p.left, q.left, ap used_bytes e))
    (p.count ∙ ap (λ (x : List Taken). (output_of writes from.writing x).count) e ∙ sym q.count)
    (one_stop reads writes policy r d.states _ c.stop d.stop stop q.stop)
    (p.output ∙ ap (λ (x : List Taken). (output_of writes from.writing x).bytes) e ∙ sym q.output)
    reading
    writing

-- ---- the counts of a conversion, and a room that is enough

-- the counts of a conversion are no larger than the input
pub few_converted : (reads : ItemRelation) (writes : Writing) (policy : Policy) → IsReadable reads
    → (from : States) (text : List ℕ) (room : ℕ) (c : Converted) → IsConverted reads writes policy from text room c
    → (c.left ≤ length text) × (c.count ≤ length text)
few_converted reads writes policy r from text room c p =
    let few = output_of-count reads writes r from.reading from.writing text p.chain p.longest.is_chain in
    let within = used_bytes-within reads r from.reading text p.chain p.longest.is_chain in
    (omega (arith, p.left), omega (arith, p.count, few, within))

-- and no larger than the room
pub counts_few : (reads : ItemRelation) (writes : Writing) (policy : Policy) → IsReadable reads → (states next : States)
    (text before after : List ℕ) (o : Outcome) → Converts reads writes policy states text before o next after
    → (o.left ≤ length text) × (o.count ≤ length text) × (o.room_left ≤ length before)
counts_few reads writes policy r states next text before after o p =
    let few = few_converted reads writes policy r states text (length before) _ p.converted in
    (few.0, few.1, omega (arith, p.room_left))

few_substitute : (most : ℕ) (o : Option (List ℕ × WriteState)) (t : WriteState) → IfSome o (λ p. length p.0 ≤ most)
    → length (substituted t o).bytes ≤ most
few_substitute most (Some p) t h = h
few_substitute most None t h = omega arith

few_put : (most : ℕ) (o : Option (List ℕ × WriteState)) (other : Output) → IfSome o (λ p. length p.0 ≤ most)
    → length other.bytes ≤ most → length (put_or other o).bytes ≤ most
few_put most (Some p) other h g = h
few_put most None other h g = g

few_written : (most : ℕ) (writes : Writing) → WritesAtMost most writes → (t : WriteState) (gives : Option ℕ)
    → length (written writes t gives).bytes ≤ most
few_written most writes few t None = omega arith
few_written most writes few t (Some c) =
    few_put most (writes t c) _ (few t c) (few_substitute most (writes t question) t (few t question))

-- a chain writes at most the most bytes of a character for each byte that it uses
short : (most : ℕ) (reads : ItemRelation) (writes : Writing) → IsReadable reads → WritesAtMost most writes
    → (s : ReadState) (t : WriteState) (text : List ℕ) (chain : List Taken) → IsChain reads s text chain
    → length (output_of writes t chain).bytes ≤ most * used_bytes chain
short most reads writes r few s t text [] p = omega arith
short most reads writes r few s t text (i ∷ chain) p =
    let w = stands_within reads r s text i p.0 in
    let first = few_written most writes few t i.gives in
    let once : most * 1 ≤ most * i.used = mul-le-mul_left most (omega (arith, w.0)) in
    let others = short most reads writes r few i.next (written writes t i.gives).next (drop i.used text) chain p.1 in
    let long =
    length-append (written writes t i.gives).bytes (output_of writes (written writes t i.gives).next chain).bytes in
    omega (arith, first, once, others, long)

-- A text is written as at most the most bytes of a character for each of its bytes, and so as at most any number that
-- is not less.
pub most_output : (most : ℕ) (reads : ItemRelation) (writes : Writing) → IsReadable reads → WritesAtMost most writes
    → (len n : ℕ) → most * len ≤ n → IsMostOutput reads writes len n
most_output most reads writes r few len n covers from text chain within is_chain =
    let s = short most reads writes r few from.reading from.writing text chain is_chain in
    let u = used_bytes-within reads r from.reading text chain is_chain in
    let m : most * used_bytes chain ≤ most * len = mul-le-mul_left most (omega arith) in
    omega (arith, s, m, covers)

-- Room for the most that the text can need is as good as any room.
pub enough : (most : ℕ) (reads : ItemRelation) (writes : Writing) (policy : Policy) (from : States) (text : List ℕ)
    (size room : ℕ) (c : Converted) → IsMostOutput reads writes (length text) most → size ≡ min room most
    → IsConverted reads writes policy from text size c → IsConverted reads writes policy from text room c
enough most reads writes policy from text size room c few is p = record {
  chain = p.chain;
  longest = record {
    is_chain = p.longest.is_chain;
    fits = omega (arith, p.longest.fits, is);
    allowed = p.longest.allowed;
    longest = λ other is_chain fits allowed.
        let s : length (output_of writes from.writing other).bytes ≤ most =
        few from text other (omega arith) is_chain in
        p.longest.longest other is_chain (omega (arith, fits, s, is)) allowed;
  };
  left = p.left;
  stop = p.stop;
  count = p.count;
  output = p.output;
  reading = p.reading;
  writing = p.writing;
}
