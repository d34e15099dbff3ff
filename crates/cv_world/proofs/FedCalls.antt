-- What is kept of a feed, and what one more conversion adds to it.
use Rattle.std.proofs.Common.{◌≡◌, ◌==◌, ◌<◌, ◌≤◌, ◌^◌, ℕ, false, List, [], ◌∷◌, ◌++◌, length, Option, Some, refl, sym}
use Rattle.std.proofs.Common.{ap, subst, arith}
use Rattle.std.specs.Prelude.{IfSome}
use Rattle.std.proofs.lemmas.Nat.{from_be_bytes-to_be_bytes_4}
use Rattle.cv_base.specs.Items.{ItemRelation}
use Rattle.cv_base.specs.Codecs.{Writing, IsReadable}
use Rattle.cv_base.specs.declared.policy.Policy.{Policy}
use Rattle.cv_pivot.specs.Conversions.{start, Converted, IsConverted}
use Rattle.cv_pivot.specs.Cuts.{Call, IsFeed, total}
use Rattle.cv_pivot.specs.Encodings.{form_reads, form_writes}
use Rattle.cv_pivot.specs.declared.outcome.States.{States}
use Rattle.cv_pivot.specs.declared.outcome.Stop.{Stop}
use Rattle.cv_pivot.specs.declared.outcome.Stop.TheVariants as stop
use Rattle.cv_pivot.proofs.EncodingLaws.{form_readable}
use Rattle.cv_pivot.proofs.Progress.{output_of-count}
use Rattle.cv_frame.specs.Status.{status_number}
use Rattle.cv_frame.specs.Sizes.{most_body}
use Rattle.cv_caller.specs.Tables.{Charmaps, Table, Descriptor, form_in, descriptor_at, with_descriptor}
use Rattle.cv_world.specs.Answers.{stop_status, answer_code, answer_body}
use Rattle.cv_world.specs.Feeds.{stop_of, states_of, call_of}
use Rattle.cv_world.specs.Turn.{IsConversion, with_states}
use Rattle.cv_world.specs.declared.answer.Answer.{Answer}
use Rattle.cv_world.specs.declared.answer.Answer.TheVariants as answers
use Rattle.cv_world.proofs.FormsStay.{set_other, set_same, set_there}

-- ---- what is kept

-- The calls are conversions, one after the other from the start, by the encodings and the policy of a descriptor. The
-- last one left the descriptor's states.
pub record IsFedBy (charmaps : Charmaps) (d : Descriptor) (calls : List Call) : Type 0 where
  pub feed : IsFeed (form_reads (form_in charmaps d.from)) (form_writes (form_in charmaps d.to)) d.policy start calls
  pub states : (total start calls).states ≡ d.states

-- If the number is open, this holds of its calls and its descriptor.
abbrev pub Keeps : Table → ℕ → List Call → Type 0
Keeps table number calls = IfSome (descriptor_at table number) (λ d. IsFedBy table.charmaps d calls)

-- a descriptor at its start, and no call
pub none_fed : (charmaps : Charmaps) (d : Descriptor) → d.states ≡ start → IsFedBy charmaps d []
none_fed charmaps d e = record { feed = tt; states = sym e }

-- the same by other charmaps in which the encodings have the same forms
pub same_forms : (charmaps others : Charmaps) (d : Descriptor) (calls : List Call) → form_in others d.from ≡ form_in
    charmaps d.from → form_in others d.to ≡ form_in charmaps d.to → IsFedBy charmaps d calls → IsFedBy others d calls
same_forms charmaps others d calls e f p = record { feed = rw (e, f) p.feed; states = p.states }

-- another number was set
pub other_number : (table : Table) (n number : ℕ) (x : Option Descriptor) (calls : List Call) → (number == n) ≡ false
    → Keeps table number calls → Keeps (with_descriptor table n x) number calls
other_number table n number x calls e p = subst (λ (o : Option Descriptor).
    IfSome o (λ d. IsFedBy table.charmaps d calls)) (sym (set_other table.descriptors n number x e)) p

-- the number was set
pub this_number : (table : Table) (n : ℕ) (x : Option Descriptor) (calls : List Call)
    → IfSome x (λ d. IsFedBy table.charmaps d calls) → Keeps (with_descriptor table n x) n calls
this_number table n x calls p =
    set_there (λ o. IfSome o (λ d. IsFedBy table.charmaps d calls)) table.descriptors n x tt p

-- ---- one more conversion

feed_more : (reads : ItemRelation) (writes : Writing) (policy : Policy) (from : States)
    (calls : List Call) (call : Call) → IsFeed reads writes policy from calls → IsConverted reads writes policy
    (total from calls).states call.input call.room call.came → IsFeed reads writes policy from (calls ++ call ∷ [])
feed_more reads writes policy from [] call p q = (q, tt)
feed_more reads writes policy from (c ∷ calls) call p q =
    (p.0, feed_more reads writes policy c.came.states calls call p.1 q)

states_more : (from : States) (calls : List Call) (call : Call)
    → (total from (calls ++ call ∷ [])).states ≡ call.came.states
states_more from [] call = refl
states_more from (c ∷ calls) call = states_more c.came.states calls call

-- one more call is fed
pub one_more : (charmaps : Charmaps) (d : Descriptor) (calls : List Call) (call : Call) → IsFedBy charmaps d calls
    → IsConverted (form_reads (form_in charmaps d.from)) (form_writes (form_in charmaps d.to)) d.policy d.states
    call.input call.room call.came → IsFedBy charmaps (record d { states = call.came.states }) (calls ++ call ∷ [])
one_more charmaps d calls call p q = record {
  feed = feed_more _ _ d.policy start calls call p.feed (rw p.states q);
  states = states_more start calls call;
}

-- ---- what is read in its reply

-- the number of a stop's status determines the stop
pub stop_back : (s : Stop) → stop_of (status_number (stop_status s)) ≡ Some s
stop_back stop.Done = refl
stop_back stop.TooBig = refl
stop_back stop.Lacking = refl
stop_back stop.Ill = refl
stop_back stop.Incomplete = refl

same_call : (input : List ℕ) (room left count : ℕ) (why : Stop) (output : List ℕ) (states : States) (came : Converted)
    → left ≡ came.left → count ≡ came.count → why ≡ came.stop → output ≡ came.output → states ≡ came.states
    → ◌≡◌ {A = Call} (record {
      input = input;
      room = room;
      came = record { left = left; count = count; stop = why; output = output; states = states };
    }) (record { input = input; room = room; came = came })
same_call input room left count why output states came e f g h i = rw (e, f, g, h, i) refl

-- the numbers of a conversion are of 32 bits, if its input fits a frame
left_fits : (reads : ItemRelation) (writes : Writing) (policy : Policy) (from : States) (input : List ℕ) (room : ℕ)
    (came : Converted) → length input ≤ most_body
    → IsConverted reads writes policy from input room came → came.left < 2 ^ 32
left_fits reads writes policy from input room came few p = omega (arith, few, p.left)

count_fits : (reads : ItemRelation) (writes : Writing) (policy : Policy) (from : States) (input : List ℕ) (room : ℕ)
    (came : Converted) → IsReadable reads → length input ≤ most_body
    → IsConverted reads writes policy from input room came → came.count < 2 ^ 32
count_fits reads writes policy from input room came r few p = omega (
  arith,
  few,
  p.left,
  p.count,
  output_of-count reads writes r from.reading from.writing input p.chain p.longest.is_chain,
)

-- the answer of a conversion
abbrev pub answer_of : Converted → Answer
answer_of came = answers.Converted came.stop came.left came.count came.output

-- The call that is read in the reply is the conversion.
pub call_back : (table : Table) (number room : ℕ) (input : List ℕ) (d : Descriptor) (next : Table) (answer : Answer)
    → descriptor_at table number ≡ Some d → length input ≤ most_body
    → (c : IsConversion table number d room input next answer) → call_of number room input c.came.stop (record {
      next = with_states table number d c.came.states;
      code = answer_code (answer_of c.came);
      body = answer_body (answer_of c.came);
    }) ≡ record { input = input; room = room; came = c.came }
call_back table number room input d next answer bound few c =
    let form = form_in table.charmaps d.from in
    let writes : Writing = form_writes (form_in table.charmaps d.to) in
    let left = from_be_bytes-to_be_bytes_4 c.came.left
    (left_fits (form_reads form) writes d.policy d.states input room c.came few c.is_converted) in
    let count = from_be_bytes-to_be_bytes_4 c.came.count (count_fits
    (form_reads form) writes d.policy d.states input room c.came (form_readable form c.is_form) few c.is_converted) in
    let states =
    ap states_of (set_same table.descriptors number (Some (record d { states = c.came.states })) d bound) in
    same_call input room _ _ c.came.stop _ _ c.came left count refl refl states
