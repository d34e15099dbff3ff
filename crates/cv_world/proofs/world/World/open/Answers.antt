use Rattle.std.proofs.Common.{◌≡◌, ℕ, get_or, Option, None, sym, ◌∙◌, ap, subst, rules}
use Rattle.std.proofs.Math.Path.{fun_ext}
use Rattle.std.specs.BTreeMap.{BTreeMap}
use Rattle.slab.specs.Slab as slab
use Rattle.slab.specs.Slab.{get}
use Rattle.cv_pivot.specs.declared.conversion.Conversion.{Conversion}
use Rattle.cv_caller.specs.Keyed.{Keyed, table_of}
use Rattle.cv_world.specs.Worlds.{keyed_in, IsWorld}
use Rattle.cv_world.proofs.Stepping.{acts_still, acts_seen, others_seen}
use Rattle.cv_world.proofs.OpeningSteps.{open_declined, open_lacks, open_done, new_world, new_tables}
use Rattle.cv_frame.specs.declared.status.Status.TheVariants as status
use Rattle.cv_world.specs.Actions.{Open}
use Rattle.cv_world.specs.declared.answer.Answer.TheVariants as answers
use Rattle.cv_world.proofs.world.World.open.Goals as goal

-- a slab with other capacity holds the same
held_same : (new old : slab.Slab Conversion) → new ≡ record old { capacity = new.capacity } → get new ≡ get old
held_same new old is = fun_ext (λ k. ap (λ (s : slab.Slab Conversion). get_or s.slots k None) is)

-- callers with the same tables are the same
keyed_same : (new old : BTreeMap ℕ Keyed) → ((d : ℕ) → keyed_in new d ≡ keyed_in old d) → keyed_in new ≡ keyed_in old
keyed_same new old is = fun_ext is

pub returns-in-Err-clause-acts : goal.returns-in-Err-clause-acts
returns-in-Err-clause-acts c = acts_still c.self.inside.callers.map c.self.inside.conversions _ c.args.caller
    (Open c.args.to.now c.args.from.now c.args.policy) (answers.Refused c.in-Err.status) c.self.view_is
    (open_declined (get c.self.inside.conversions) (keyed_in c.self.inside.callers.map c.args.caller) c.args.to.now
    c.args.from.now c.args.policy c.in-Err.status (c.self.invariant.live c.args.caller) c.in-Err.ensures.declines)

pub invariant_of-self : goal.invariant_of-self
invariant_of-self c = subst (IsWorld (keyed_in c.self.inside.callers.map)) (sym (held_same
    c.reserve_one.new.conversions c.self.inside.conversions c.reserve_one.ensures.rest_kept)) c.self.invariant

pub returns-then-is_err : goal.returns-then-is_err
returns-then-is_err c =
    let held = held_same c.reserve_one.new.conversions c.self.inside.conversions c.reserve_one.ensures.rest_kept in
    record {
      acts = acts_seen c.self.inside.callers.map c.self.inside.callers.map c.self.inside.conversions
          c.reserve_one.new.conversions _ c.args.caller (Open c.args.to.now c.args.from.now c.args.policy)
          (answers.Refused status.NoMemory) c.self.view_is
          (open_lacks (get c.self.inside.conversions) (keyed_in c.self.inside.callers.map c.args.caller) c.args.to.now
          c.args.from.now c.args.policy c.in-Ok.opening _ (c.self.invariant.live c.args.caller) c.in-Ok.ensures.opening
          (ap (λ (F : ℕ → Option Conversion). table_of F (keyed_in c.self.inside.callers.map c.args.caller)) held));
      others = others_seen c.self.inside.callers.map c.self.inside.callers.map c.self.inside.conversions
          c.reserve_one.new.conversions _ c.args.caller c.self.view_is
          (λ d a. ap (λ (F : ℕ → Option Conversion). table_of F (keyed_in c.self.inside.callers.map d)) held);
      fits = search rules;
    }

pub invariant_of-self-then-is_err-2 : goal.invariant_of-self-then-is_err-2
invariant_of-self-then-is_err-2 c =
    let held = held_same c.reserve_one.new.conversions c.self.inside.conversions c.reserve_one.ensures.rest_kept in
    let keyed = keyed_same c.make_room.new.callers.map c.self.inside.callers.map c.make_room.ensures.same in
    subst (λ (F : ℕ → Keyed). IsWorld F (get c.reserve_one.new.conversions)) (sym keyed)
    (subst (IsWorld (keyed_in c.self.inside.callers.map)) (sym held) c.self.invariant)

pub returns-then-is_err-2 : goal.returns-then-is_err-2
returns-then-is_err-2 c =
    let held = held_same c.reserve_one.new.conversions c.self.inside.conversions c.reserve_one.ensures.rest_kept in
    let keyed = keyed_same c.make_room.new.callers.map c.self.inside.callers.map c.make_room.ensures.same in
    record {
      acts = acts_seen c.self.inside.callers.map c.make_room.new.callers.map c.self.inside.conversions
          c.reserve_one.new.conversions _ c.args.caller (Open c.args.to.now c.args.from.now c.args.policy)
          (answers.Refused status.NoMemory) c.self.view_is
          (open_lacks (get c.self.inside.conversions) (keyed_in c.self.inside.callers.map c.args.caller) c.args.to.now
          c.args.from.now c.args.policy c.in-Ok.opening _ (c.self.invariant.live c.args.caller) c.in-Ok.ensures.opening
          (ap (table_of (get c.reserve_one.new.conversions)) (c.make_room.ensures.same c.args.caller)
          ∙ ap (λ (F : ℕ → Option Conversion). table_of F (keyed_in c.self.inside.callers.map c.args.caller)) held));
      others = others_seen c.self.inside.callers.map c.make_room.new.callers.map c.self.inside.conversions
          c.reserve_one.new.conversions _ c.args.caller c.self.view_is
          (λ d a. ap (table_of (get c.reserve_one.new.conversions)) (c.make_room.ensures.same d)
          ∙ ap (λ (F : ℕ → Option Conversion). table_of F (keyed_in c.self.inside.callers.map d)) held);
      fits = search rules;
    }

pub invariant_of-self-2 : goal.invariant_of-self-2
invariant_of-self-2 c =
    let held = held_same c.reserve_one.new.conversions c.self.inside.conversions c.reserve_one.ensures.rest_kept in
    let keyed = keyed_same c.make_room.new.callers.map c.self.inside.callers.map c.make_room.ensures.same in
    new_world (keyed_in c.self.inside.callers.map) (keyed_in c.make_room.new.callers.map)
    (keyed_in c.bind_in.new.callers.map) (get c.self.inside.conversions)
    (get c.reserve_one.new.conversions) (get c.insert_reserved-key.new.self) c.args.caller c.insert_reserved-key.result
    c.args.to.now c.args.from.now c.args.policy c.in-Ok.opening keyed held c.self.invariant c.in-Ok.ensures.opening
    c.bind_in.ensures.sets c.insert_reserved-key.ensures.was_vacant c.insert_reserved-key.ensures.updates.changed
    c.insert_reserved-key.ensures.updates.others

pub returns : goal.returns
returns c =
    let held = held_same c.reserve_one.new.conversions c.self.inside.conversions c.reserve_one.ensures.rest_kept in
    let keyed = keyed_same c.make_room.new.callers.map c.self.inside.callers.map c.make_room.ensures.same in
    let both = new_tables (keyed_in c.self.inside.callers.map) (keyed_in c.make_room.new.callers.map)
    (keyed_in c.bind_in.new.callers.map) (get c.self.inside.conversions)
    (get c.reserve_one.new.conversions) (get c.insert_reserved-key.new.self) c.args.caller c.insert_reserved-key.result
    c.args.to.now c.args.from.now c.args.policy c.in-Ok.opening keyed held c.self.invariant c.in-Ok.ensures.opening
    c.bind_in.ensures.sets c.insert_reserved-key.ensures.was_vacant c.insert_reserved-key.ensures.updates.changed
    c.insert_reserved-key.ensures.updates.others in
    record {
      acts = acts_seen c.self.inside.callers.map c.bind_in.new.callers.map c.self.inside.conversions
          c.insert_reserved-key.new.self _ c.args.caller (Open c.args.to.now c.args.from.now c.args.policy)
          (answers.Number c.in-Ok.opening.number) c.self.view_is (open_done (get c.self.inside.conversions)
          (keyed_in c.self.inside.callers.map c.args.caller) c.args.to.now c.args.from.now c.args.policy
          c.in-Ok.opening _ (c.self.invariant.live c.args.caller) c.in-Ok.ensures.opening both.0);
      others = others_seen c.self.inside.callers.map c.bind_in.new.callers.map c.self.inside.conversions
          c.insert_reserved-key.new.self _ c.args.caller c.self.view_is both.1;
      fits = search rules;
    }

pub bind_in-requires-clause-held : goal.bind_in-requires-clause-held
bind_in-requires-clause-held c =
    rw (c.make_room.ensures.same c.args.caller) (c.in-Ok.ensures.opening.held c.insert_reserved-key.result)
