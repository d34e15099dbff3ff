-- A feed is kept along every run, whatever is between its calls. So its result does not depend on the cuts.
use Rattle.std.proofs.Common.{◌≡◌, ◌≤◌, ◌==◌, ℕ, Bool, true, false, cond, eqb, List, [], ◌∷◌, length, drop, nat_lt}
use Rattle.std.proofs.Common.{Option, Some, None, refl, sym, ap, subst, ◌∙◌, arith, length-drop}
use Rattle.std.specs.Prelude.{IfSome, if◌then◌else◌}
use Rattle.std.proofs.lemmas.Bool.{eqb-true}
use Rattle.cv_base.specs.Codecs.{IsReadable}
use Rattle.cv_base.specs.declared.policy.Policy.{Policy}
use Rattle.cv_pivot.specs.Conversions.{start}
use Rattle.cv_pivot.specs.Cuts.{Call, IsFeed, DoesNotDependOnCuts}
use Rattle.cv_pivot.specs.Encodings.{Form, form_reads, form_writes}
use Rattle.cv_pivot.proofs.CutLaws.{cuts}
use Rattle.cv_pivot.proofs.EncodingLaws.{form_readable}
use Rattle.cv_frame.specs.Bodies.{Opening, drop_of, open_of, conv_of, reset_of, u32_of}
use Rattle.cv_frame.specs.Ops.{op_put, op_drop, op_open, op_conv, op_reset, op_close, op_bye, op_part}
use Rattle.cv_frame.specs.Sizes.{most_body}
use Rattle.cv_machine.specs.Machine.{Outcome, Event, When, events_of, after_all}
use Rattle.cv_machine.proofs.Isolation.{own_table, after_own, IsOwnRun, own_events}
use Rattle.cv_machine.proofs.Outcomes.{same_outcome}
use Rattle.cv_caller.specs.Tables.{Table, Descriptor, empty_table}
use Rattle.cv_world.specs.Actions.{Action}
use Rattle.cv_world.specs.Feeds.{Feed, BodiesFit, calls_after, calls_along, calls_of, feed_source, feed_target}
use Rattle.cv_world.specs.Feeds.{AreAlike, Feeds}
use Rattle.cv_world.specs.Laws.{AreThere, IsSound}
use Rattle.cv_world.specs.Requests.{AsksPut, MayTurn, action_of, drop_action, open_action, conv_action, reset_action}
use Rattle.cv_world.specs.Requests.{close_action, bye_action, turn}
use Rattle.cv_world.specs.Worlds.{no_tables}
use Rattle.cv_world.proofs.FedCalls.{IsFedBy, Keeps}
use Rattle.cv_world.proofs.FeedSteps.{came_to, KeepsBy, InputFits, step}
use Rattle.cv_world.proofs.FramesFit.{frames_fit}
use Rattle.cv_world.proofs.KeepsTables.{keeps_tables, runs_keep_tables, none_standing}
use Rattle.cv_world.proofs.NotAlone.{form_there}

-- ---- what a request asks for fits, if its body does

drop_fits : (name : Option (List ℕ)) → InputFits (drop_action name)
drop_fits (Some name) = tt
drop_fits None = tt

open_fits : (o : Option Opening) → InputFits (open_action o)
open_fits (Some o) = tt
open_fits None = tt

input_fits : (b : Bool) (number room : ℕ) (input : List ℕ) → length input ≤ most_body
    → InputFits (conv_action (if b then None else Some (number, room, input)))
input_fits true number room input few = tt
input_fits false number room input few = few

conv_fits : (body : List ℕ) → length body ≤ most_body → InputFits (conv_action (conv_of body))
unfolding conv_of
conv_fits body few = input_fits (nat_lt (length body) 8) _ _ (drop 8 body) (omega (arith, few, length-drop 8 body))

reset_fits : (fields : Option (ℕ × ℕ)) → InputFits (reset_action fields)
reset_fits (Some fields) = tt
reset_fits None = tt

close_fits : (number : Option ℕ) → InputFits (close_action number)
close_fits (Some number) = tt
close_fits None = tt

bye_fits : (body : List ℕ) → InputFits (bye_action body)
bye_fits [] = tt
bye_fits (b ∷ body) = tt

one_fits : (b : Bool) (x y : Action) → InputFits x → InputFits y → InputFits (if b then x else y)
one_fits true x y p q = p
one_fits false x y p q = q

action_fits : (code : ℕ) (body : List ℕ) → length body ≤ most_body → InputFits (action_of code body)
action_fits code body few =
    one_fits (code == op_drop) _ _ (drop_fits (drop_of body)) (
    one_fits (code == op_open) _ _ (open_fits (open_of body)) (
    one_fits (code == op_conv) _ _ (conv_fits body few) (
    one_fits (code == op_reset) _ _ (reset_fits (reset_of body)) (
    one_fits (code == op_close) _ _ (close_fits (u32_of body)) (
    one_fits (code == op_bye) _ _ (bye_fits body) (
    one_fits (code == op_part) _ _ tt tt))))))

asked_fits : (t : Bool) (text : List ℕ) (action other : Action) → When t (AsksPut text action) (action ≡ other)
    → InputFits other → InputFits action
asked_fits true text action other p fits = subst InputFits (sym p.is) tt
asked_fits false text action other p fits = subst InputFits (sym p) fits

-- A PUT leaves the calls of every number, and so does the action that `action_of` reads for it.
asked_calls : (number : ℕ) (calls : List Call) (code : ℕ) (body text : List ℕ) (action : Action) (o : Outcome Table)
    (t : Bool) → (code == op_put) ≡ t → When t (AsksPut text action) (action ≡ action_of code body)
    → calls_after number calls action o ≡ calls_after number calls (action_of code body) o
asked_calls number calls code body text action o true e p = ap (λ (a : Action). calls_after number calls a o) p.is
    ∙ sym (ap (λ (c : ℕ). calls_after number calls (action_of c body) o) (eqb-true code op_put e))
asked_calls number calls code body text action o false e p = ap (λ (a : Action). calls_after number calls a o) p

-- ---- one event, and those of a run

event : (table : Table) → IsSound table → (number : ℕ) (calls : List Call) → Keeps table number calls
    → (code : ℕ) (body : List ℕ) (outcome : Outcome Table) → length body ≤ most_body → MayTurn table code body outcome
    → Keeps outcome.next number (calls_after number calls (action_of code body) outcome)
event table is number calls kept code body outcome few m =
    let fits : InputFits m.action =
    asked_fits (code == op_put) _ m.action (action_of code body) m.asks (action_fits code body few) in
    let done : KeepsBy number calls m.action outcome.next m.answer =
    step table is number calls kept m.action fits outcome.next m.answer m.acts in
    let came : outcome ≡ came_to outcome.next m.answer =
    same_outcome outcome (came_to outcome.next m.answer) refl m.code_is m.body_is in
    let read : Keeps outcome.next number (calls_after number calls m.action outcome) =
    subst (λ (o : Outcome Table). Keeps outcome.next number (calls_after number calls m.action o)) (sym came) done in
    subst (Keeps outcome.next number)
    (asked_calls number calls code body _ m.action outcome (code == op_put) refl m.asks) read

along : (table : Table) → IsSound table → (number : ℕ) (calls : List Call) → Keeps table number calls
    → (events : List (Event Table)) → IsOwnRun turn table events → BodiesFit events
    → Keeps (own_table table events) number (calls_along number calls events)
along table is number calls kept [] run fits = kept
along table is number calls kept (e ∷ events) run fits =
    along e.outcome.next (keeps_tables.keeps table e.request.code e.request.body e.outcome is run.0) number _
    (event table is number calls kept e.request.code e.request.body e.outcome fits.0 run.0) events run.1 fits.1

own_fits : (caller : ℕ) (events : List (Event Table)) → BodiesFit events → BodiesFit (events_of caller events)
own_fits caller [] p = tt
own_fits caller (e ∷ events) p = elim (eqb e.request.caller caller) as (λ (b : Bool).
    BodiesFit (cond b (e ∷ events_of caller events) (events_of caller events))) [
      | true ↦ (p.0, own_fits caller events p.1)
      | false ↦ own_fits caller events p.1
    ]

-- A feed is kept along its run.
kept_feed : (feed : Feed)
    → IsFedBy (after_all no_tables feed.events feed.caller).charmaps feed.descriptor (calls_of feed)
kept_feed feed =
    let own : List (Event Table) = events_of feed.caller feed.events in
    let run : IsOwnRun turn empty_table own = own_events turn feed.caller no_tables feed.events feed.is_run in
    let kept : Keeps (own_table empty_table own) feed.number (calls_of feed) = along empty_table keeps_tables.begins
    feed.number [] (none_standing _ 16 feed.number) own run (own_fits feed.caller feed.events feed.fits) in
    let there : Keeps (after_all no_tables feed.events feed.caller) feed.number (calls_of feed) = subst
    (λ (t : Table). Keeps t feed.number (calls_of feed)) (sym (after_own feed.caller no_tables feed.events)) kept in
    subst (λ (o : Option Descriptor).
    IfSome o (λ d. IsFedBy (after_all no_tables feed.events feed.caller).charmaps d (calls_of feed))) feed.is_open there

-- ---- the law

-- the source of a feed is readable
readable : (feed : Feed) → IsReadable (form_reads (feed_source feed))
readable feed =
    let table : Table = after_all no_tables feed.events feed.caller in
    let sound : IsSound table = runs_keep_tables feed.events feed.is_run feed.caller in
    let there : AreThere table.charmaps feed.descriptor =
    subst (λ (o : Option Descriptor). IfSome o (AreThere table.charmaps)) feed.is_open (sound.there feed.number) in
    form_readable (feed_source feed) (form_there table sound feed.descriptor.from there.1)

uncut : (feed : Feed)
    → DoesNotDependOnCuts (form_reads (feed_source feed)) (form_writes (feed_target feed)) feed.descriptor.policy
uncut feed = cuts _ _ feed.descriptor.policy (readable feed)

same_feed : (from to source target : Form) (policy other : Policy) (calls : List Call) → from ≡ source → to ≡ target
    → policy ≡ other → IsFeed (form_reads source) (form_writes target) other start calls
    → IsFeed (form_reads from) (form_writes to) policy start calls
same_feed from to source target policy other calls e f g p = rw (e, f, g) p

-- a feed is one by the encodings and the policy of another that is alike
alike : (a b : Feed) → AreAlike a b
    → IsFeed (form_reads (feed_source a)) (form_writes (feed_target a)) a.descriptor.policy start (calls_of b)
alike a b h = same_feed (feed_source a) (feed_target a) (feed_source b)
    (feed_target b) a.descriptor.policy b.descriptor.policy (calls_of b) h.source h.target h.policy (kept_feed b).feed

-- The result of feeds does not depend on the cuts.
pub feeds : Feeds
feeds = record {
  conversions = λ feed. (kept_feed feed).feed;
  states = λ feed. (kept_feed feed).states;
  front = λ feed text fed. (uncut feed).front start text (calls_of feed) (kept_feed feed).feed fed;
  same = λ a b text h p q used.
      (uncut a).same start text (calls_of a) (calls_of b) (kept_feed a).feed (alike a b h) p q used;
  same_end = λ a b text h p q ends.
      (uncut a).same_end start text (calls_of a) (calls_of b) (kept_feed a).feed (alike a b h) p q ends;
  frames = frames_fit;
}
