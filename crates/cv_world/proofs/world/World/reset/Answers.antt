use Rattle.std.proofs.Common.{refl, arith, rules}
use Rattle.cv_world.specs.Worlds.{world_tables}
use Rattle.cv_world.proofs.Converting.{reset_none, reset_room, reset_done, reset_refused}
use Rattle.cv_world.proofs.Descriptors.{not_found, found}
use Rattle.cv_world.proofs.world.World.reset.Goals as goal

pub returns-in_default-clause-acts : goal.returns-in_default-clause-acts
returns-in_default-clause-acts c = reset_none (world_tables c.args.self.now c.args.caller) c.args.number c.args.room
    (not_found c.self.inside.callers.map c.self.inside.conversions _ c.args.caller c.args.number c.self.view_is
    c.in_default.ensures.place)

pub returns-then-room-gt-MOST_ROOM-clause-acts : goal.returns-then-room-gt-MOST_ROOM-clause-acts
returns-then-room-gt-MOST_ROOM-clause-acts c =
    let f = found c.self.inside.callers.map c.self.inside.conversions _ c.args.caller c.args.number c.self.view_is
    c.in-Some.place c.self.invariant c.in-Some.ensures.place in
    reset_room
    (world_tables c.args.self.now c.args.caller) c.args.number c.args.room _ f.opens c.if-room-gt-MOST_ROOM.true

pub reset_in-requires : goal.reset_in-requires
reset_in-requires c =
    let f = found c.self.inside.callers.map c.self.inside.conversions _ c.args.caller c.args.number c.self.view_is
    c.in-Some.place c.self.invariant c.in-Some.ensures.place in
    rw f.under refl

pub invariant_of-self : goal.invariant_of-self
invariant_of-self c = (reset_refused c.self.inside.callers.map c.self.inside.conversions _ c.args.caller c.args.number
    c.self.view_is c.reset_in.new.conversions c.in-Some.place c.self.invariant c.in-Some.ensures.place
    c.reset_in.ensures.others c.reset_in.result c.args.room (omega (arith, c.if-room-gt-MOST_ROOM.false))
    c.reset_in.ensures.gives_up c.reset_in.ensures.closes c.reset_in.ensures.too_big c.in_default-reset_in.field-0
    c.in_default-reset_in.is).0.world

pub returns-in_default-reset_in : goal.returns-in_default-reset_in
returns-in_default-reset_in c =
    let r = reset_refused c.self.inside.callers.map c.self.inside.conversions _ c.args.caller c.args.number
    c.self.view_is c.reset_in.new.conversions c.in-Some.place c.self.invariant c.in-Some.ensures.place
    c.reset_in.ensures.others c.reset_in.result c.args.room (omega (arith, c.if-room-gt-MOST_ROOM.false))
    c.reset_in.ensures.gives_up c.reset_in.ensures.closes c.reset_in.ensures.too_big c.in_default-reset_in.field-0
    c.in_default-reset_in.is in
    record { acts = r.1; others = r.0.others; fits = search rules }

pub invariant_of-self-2 : goal.invariant_of-self-2
invariant_of-self-2 c = (reset_done c.self.inside.callers.map c.self.inside.conversions _ c.args.caller c.args.number
    c.self.view_is c.reset_in.new.conversions c.in-Some.place c.self.invariant c.in-Some.ensures.place
    c.reset_in.ensures.others c.reset_in.result c.args.room (omega (arith, c.if-room-gt-MOST_ROOM.false))
    c.reset_in.ensures.gives_up c.reset_in.ensures.closes c.reset_in.ensures.too_big c.in-Ok.closing c.in-Ok.is).0.world

pub returns : goal.returns
returns c =
    let r = reset_done c.self.inside.callers.map c.self.inside.conversions _ c.args.caller c.args.number c.self.view_is
    c.reset_in.new.conversions c.in-Some.place c.self.invariant c.in-Some.ensures.place c.reset_in.ensures.others
    c.reset_in.result c.args.room (omega (arith, c.if-room-gt-MOST_ROOM.false)) c.reset_in.ensures.gives_up
    c.reset_in.ensures.closes c.reset_in.ensures.too_big c.in-Ok.closing c.in-Ok.is in
    record { acts = r.1; others = r.0.others; fits = search rules }
