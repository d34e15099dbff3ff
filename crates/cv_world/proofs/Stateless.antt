-- A CONV between stateless encodings leaves its caller's table unchanged.
use Rattle.std.proofs.Common.{◌≡◌, ℕ, Bool, true, false, List, [], ◌∷◌, nat_lt, Option, Some, None, ◌⊎◌, inl, inr}
use Rattle.std.proofs.Common.{slice_index_or, slice_set, refl, sym, ap, subst, ◌∙◌}
use Rattle.std.proofs.lemmas.List.{set-get_or}
use Rattle.cv_base.specs.declared.policy.Policy.{Policy}
use Rattle.cv_pivot.specs.Conversions.{start, IsConverted}
use Rattle.cv_pivot.specs.Cuts.{Call, IsFeed, total}
use Rattle.cv_pivot.specs.Encodings.{Form, form_reads, form_writes}
use Rattle.cv_pivot.specs.Stateless.{IsStateless}
use Rattle.cv_pivot.specs.declared.outcome.States.{States}
use Rattle.cv_pivot.proofs.Stateless.{stays_at_start}
use Rattle.cv_frame.specs.Bodies.{conv_of}
use Rattle.cv_frame.specs.Ops.{op_conv}
use Rattle.cv_machine.specs.Machine.{Outcome, When}
use Rattle.cv_caller.specs.Tables.{Table, Descriptor, form_in, descriptor_at, with_descriptor}
use Rattle.cv_world.specs.Actions.{Action, Conv}
use Rattle.cv_world.specs.Answers.{most_room}
use Rattle.cv_world.specs.Feeds.{Feed, calls_of, feed_source, feed_target}
use Rattle.cv_world.specs.Requests.{conv_action, turn}
use Rattle.cv_world.specs.Stateless.{feed_table, Stateless}
use Rattle.cv_world.specs.Turn.{IsConversion, Convs, Acts, with_states}
use Rattle.cv_world.specs.declared.answer.Answer.{Answer}
use Rattle.cv_world.proofs.Feeding.{feeds}

-- ---- after a feed

feed_at_start : (from to : Form) → IsStateless from → IsStateless to → (policy : Policy) (begins : States)
    → begins ≡ start → (calls : List Call)
    → IsFeed (form_reads from) (form_writes to) policy begins calls → (total begins calls).states ≡ start
feed_at_start from to f t policy begins e [] p = e
feed_at_start from to f t policy begins e (call ∷ calls) p =
    let first = subst
    (λ (s : States). IsConverted (form_reads from) (form_writes to) policy s call.input call.room call.came) e p.0 in
    feed_at_start from to f t policy call.came.states
    (stays_at_start from to f t policy call.input call.room call.came first) calls p.1

at_start : (feed : Feed) → IsStateless (feed_source feed) → IsStateless (feed_target feed)
    → feed.descriptor.states ≡ start
at_start feed f t = sym (feeds.states feed) ∙ feed_at_start (feed_source feed)
    (feed_target feed) f t feed.descriptor.policy start refl (calls_of feed) (feeds.conversions feed)

-- ---- one more conversion

-- binding a number to its own descriptor again changes nothing
bound_again : (table : Table) (number : ℕ) (d : Descriptor) → descriptor_at table number ≡ Some d
    → with_descriptor table number (Some d) ≡ table
bound_again table number d e =
    let again : slice_set table.descriptors number (slice_index_or table.descriptors number None) ≡ table.descriptors =
    set-get_or table.descriptors number None in
    let same : slice_set table.descriptors number (Some d) ≡ table.descriptors =
    subst (λ (o : Option Descriptor). slice_set table.descriptors number o ≡ table.descriptors) e again in
    ap (λ (ds : List (Option Descriptor)).
    let t : Table = record { charmaps = table.charmaps; descriptors = ds; part = table.part } in t) same

conversion_leaves : (table : Table) (number : ℕ) (d : Descriptor) (room : ℕ) (input : List ℕ) (next : Table)
    (answer : Answer) → descriptor_at table number ≡ Some d
    → d.states ≡ start → IsStateless (form_in table.charmaps d.from) → IsStateless (form_in table.charmaps d.to)
    → IsConversion table number d room input next answer → next ≡ table
conversion_leaves table number d room input next answer bound e f t p =
    let from = form_in table.charmaps d.from in
    let to = form_in table.charmaps d.to in
    let began = subst
    (λ (s : States). IsConverted (form_reads from) (form_writes to) d.policy s input room p.came) e p.is_converted in
    let stays : p.came.states ≡ d.states = stays_at_start from to f t d.policy input room p.came began ∙ sym e in
    p.does.0 ∙ ap (with_states table number d) stays ∙ bound_again table number d bound

conv_leaves : (above : Bool) (table next : Table) (A B C : Type 0) → (A → next ≡ table) → (B → next ≡ table)
    → (C → next ≡ table) → When above A (B ⊎ C) → next ≡ table
conv_leaves true table next A B C a b c p = a p
conv_leaves false table next A B C a b c (inl p) = b p
conv_leaves false table next A B C a b c (inr p) = c p

leaves : (feed : Feed) → IsStateless (feed_source feed) → IsStateless (feed_target feed) → (body : List ℕ) (room : ℕ)
    (input : List ℕ) → conv_of body ≡ Some (feed.number, room, input) → (outcome : Outcome Table)
    → turn (feed_table feed) op_conv body outcome → outcome.next ≡ feed_table feed
leaves feed f t body room input asked outcome p =
    let table : Table = feed_table feed in
    let d : Descriptor = feed.descriptor in
    let is : p.action ≡ Conv feed.number room input = p.asks ∙ ap conv_action asked in
    let acts : Convs table feed.number (descriptor_at table feed.number) room input outcome.next p.answer =
    subst (λ (a : Action). Acts table a outcome.next p.answer) is p.acts in
    let bound : Convs table feed.number (Some d) room input outcome.next p.answer =
    subst (λ (o : Option Descriptor). Convs table feed.number o room input outcome.next p.answer) feed.is_open acts in
    conv_leaves (nat_lt most_room room) table outcome.next _ _ _ (λ r. r.0) (conversion_leaves table feed.number d room
    input outcome.next p.answer feed.is_open (at_start feed f t) f t) (λ r. r.0) bound

-- the law
pub stateless : Stateless
stateless = record { at_start = at_start; leaves = leaves }
