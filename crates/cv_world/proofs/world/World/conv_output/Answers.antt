use Rattle.std.proofs.Common.{refl, subst, arith, rules}
use Rattle.cv_pivot.specs.Encodings.{IsForm}
use Rattle.cv_world.specs.Worlds.{world_tables}
use Rattle.cv_world.proofs.Converting.{conv_none, conv_room, conv_lacks, conv_done}
use Rattle.cv_world.proofs.Descriptors.{not_found, found, same, restated}
use Rattle.cv_world.proofs.Stepping.{described}
use Rattle.cv_world.proofs.TwoStages.{output_fits}
use Rattle.cv_world.proofs.world.World.conv_output.Goals as goal

pub returns-in_default-clause-refused : goal.returns-in_default-clause-refused
returns-in_default-clause-refused c = (
  refl,
  conv_none (world_tables c.args.self.now c.args.caller) c.args.conv.number c.args.conv.room c.args.conv.input.now
      (not_found c.self.inside.callers.map c.self.inside.conversions _ c.args.caller c.args.conv.number c.self.view_is
      c.in_default.ensures.place),
)

pub returns-then-conv-gt-MOST_ROOM-clause-refused : goal.returns-then-conv-gt-MOST_ROOM-clause-refused
returns-then-conv-gt-MOST_ROOM-clause-refused c =
    let f = found c.self.inside.callers.map c.self.inside.conversions _ c.args.caller c.args.conv.number c.self.view_is
    c.in-Some.place c.self.invariant c.in-Some.ensures.place in (
      refl,
      conv_room (world_tables c.args.self.now c.args.caller) c.args.conv.number c.args.conv.room c.args.conv.input.now _
          f.opens c.if-conv-gt-MOST_ROOM.true,
    )

pub convert_in-requires-clause-there : goal.convert_in-requires-clause-there
convert_in-requires-clause-there c =
    let f = found c.self.inside.callers.map c.self.inside.conversions _ c.args.caller c.args.conv.number c.self.view_is
    c.in-Some.place c.self.invariant c.in-Some.ensures.place in
    rw f.under refl

pub invariant_of-self : goal.invariant_of-self
invariant_of-self c = (same c.self.inside.callers.map c.self.inside.conversions _ c.args.caller c.args.conv.number
    c.self.view_is c.convert_in.new.conversions c.in-Some.place c.self.invariant c.in-Some.ensures.place
    c.convert_in.ensures.others c.in_default-convert_in.ensures.err.0).world

pub returns-in_default-convert_in : goal.returns-in_default-convert_in
returns-in_default-convert_in c =
    let f = found c.self.inside.callers.map c.self.inside.conversions _ c.args.caller c.args.conv.number c.self.view_is
    c.in-Some.place c.self.invariant c.in-Some.ensures.place in
    let r = same c.self.inside.callers.map c.self.inside.conversions _ c.args.caller c.args.conv.number c.self.view_is
    c.convert_in.new.conversions c.in-Some.place c.self.invariant c.in-Some.ensures.place c.convert_in.ensures.others
    c.in_default-convert_in.ensures.err.0 in
    let acts = conv_lacks (world_tables c.args.self.now c.args.caller) _ c.args.conv.number c.args.conv.room
    c.args.conv.input.now _ f.opens (omega (arith, c.if-conv-gt-MOST_ROOM.false)) r.table in
    record { refused = (c.in_default-convert_in.ensures.err.1, acts); others = r.others; done = search rules }

pub invariant_of-self-2 : goal.invariant_of-self-2
invariant_of-self-2 c =
    let f = found c.self.inside.callers.map c.self.inside.conversions _ c.args.caller c.args.conv.number c.self.view_is
    c.in-Some.place c.self.invariant c.in-Some.ensures.place in
    let a = c.in-Ok.ensures.appends f.conversion f.under in
    (restated c.self.inside.callers.map c.self.inside.conversions _ c.args.caller c.args.conv.number c.self.view_is
    c.convert_in.new.conversions c.in-Some.place c.self.invariant c.in-Some.ensures.place c.convert_in.ensures.others
    f.conversion a.0 f.under a.1 a.2.kept).world

pub returns : goal.returns
returns c =
    let f = found c.self.inside.callers.map c.self.inside.conversions _ c.args.caller c.args.conv.number c.self.view_is
    c.in-Some.place c.self.invariant c.in-Some.ensures.place in
    let a = c.in-Ok.ensures.appends f.conversion f.under in
    let r = restated c.self.inside.callers.map c.self.inside.conversions _ c.args.caller c.args.conv.number
    c.self.view_is c.convert_in.new.conversions c.in-Some.place c.self.invariant c.in-Some.ensures.place
    c.convert_in.ensures.others f.conversion a.0 f.under a.1 a.2.kept in
    record {
      done = record {
        output = a.2.output;
        appended = a.2.appended;
        fits = omega (arith, output_fits _ _ _ _ _ _ _ a.2, c.if-conv-gt-MOST_ROOM.false);
        acts = conv_done (world_tables c.args.self.now c.args.caller) _ c.args.conv.number c.args.conv.room
            c.args.conv.input.now (described c.in-Some.place f.conversion) _ f.opens
            (omega (arith, c.if-conv-gt-MOST_ROOM.false)) (subst IsForm f.from (c.convert_in.ensures.form f.conversion
            f.under)) (rw (← f.from, ← f.to) a.2.converted) r.table;
      };
      others = r.others;
      refused = search rules;
    }
