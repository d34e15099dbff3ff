use Rattle.std.proofs.Common.{◌≡◌, Some, None, refl, sym, rules}
use Rattle.slab.specs.Slab.{get}
use Rattle.cv_caller.specs.Keyed.{place_at, table_of}
use Rattle.cv_world.specs.Worlds.{keyed_in}
use Rattle.cv_world.proofs.Owned.{closed_world, closed}
use Rattle.cv_world.proofs.Stepping.{acts_still, acts_seen, others_seen, some_value, described, open_at, closed_at}
use Rattle.cv_world.proofs.Stepping.{close_none, close_done, within}
use Rattle.cv_frame.specs.declared.status.Status.TheVariants as status
use Rattle.cv_world.specs.Actions.{Close}
use Rattle.cv_world.specs.declared.answer.Answer.TheVariants as answers
use Rattle.cv_world.proofs.world.World.close.Goals as goal

pub returns-in_default-clause-acts : goal.returns-in_default-clause-acts
returns-in_default-clause-acts c = acts_still c.self.inside.callers.map c.self.inside.conversions _ c.args.caller
    (Close c.args.number) (answers.Refused status.BadDescriptor) c.self.view_is
    (close_none (table_of (get c.self.inside.conversions) (keyed_in c.self.inside.callers.map c.args.caller))
    c.args.number (closed_at (get c.self.inside.conversions)
    (keyed_in c.self.inside.callers.map c.args.caller) c.args.number (sym c.in_default.ensures.place)))

pub invariant_of-self : goal.invariant_of-self
invariant_of-self c =
    let K = keyed_in c.self.inside.callers.map in
    let G = get c.self.inside.conversions in
    let p = c.in-Some.place in
    let mine : place_at (K c.args.caller) c.args.number ≡ Some p = sym c.in-Some.ensures.place in
    closed_world K (keyed_in c.unbind_in.new.callers.map) c.args.caller c.args.number None c.unbind_in.ensures.sets G
    (get c.try_remove.new.self) (within (K c.args.caller).places c.args.number p mine) c.self.invariant p refl mine
    c.try_remove.ensures.updates.changed c.try_remove.ensures.updates.others

pub returns : goal.returns
returns c =
    let K = keyed_in c.self.inside.callers.map in
    let G = get c.self.inside.conversions in
    let p = c.in-Some.place in
    let mine : place_at (K c.args.caller) c.args.number ≡ Some p = sym c.in-Some.ensures.place in
    let v = some_value (G p.key) (c.self.invariant.live c.args.caller c.args.number p mine) in
    let both = closed K (keyed_in c.unbind_in.new.callers.map) G (get c.try_remove.new.self) c.args.caller c.args.number
    p c.unbind_in.ensures.sets c.self.invariant mine c.try_remove.ensures.updates.others in
    record {
      acts = acts_seen c.self.inside.callers.map c.unbind_in.new.callers.map c.self.inside.conversions
          c.try_remove.new.self _ c.args.caller (Close c.args.number) answers.Empty c.self.view_is
          (close_done (table_of G (K c.args.caller)) _ c.args.number (described p v.0)
          (open_at G (K c.args.caller) c.args.number p v.0 mine v.1) both.0);
      others = others_seen c.self.inside.callers.map c.unbind_in.new.callers.map c.self.inside.conversions
          c.try_remove.new.self _ c.args.caller c.self.view_is both.1;
      fits = search rules;
    }
