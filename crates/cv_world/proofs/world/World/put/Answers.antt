use Rattle.std.proofs.Common.{◌≡◌, length, ◌∙◌, ap}
use Rattle.std.specs.Arc.{arc_value}
use Rattle.slab.specs.Slab.{get}
use Rattle.cv_charmap.specs.Meaning.{Charmap}
use Rattle.cv_caller.specs.Keyed.{table_of}
use Rattle.cv_cache.specs.Compiled.{Read}
use Rattle.cv_world.specs.Actions.{Put}
use Rattle.cv_world.specs.Worlds.{keyed_in}
use Rattle.cv_world.proofs.Stepping.{acts_seen, others_seen, put_done, put_world}
use Rattle.cv_world.proofs.world.World.put.Goals as goal

pub invariant_of-self-2 : goal.invariant_of-self-2
invariant_of-self-2 c = put_world (keyed_in c.self.inside.callers.map) (keyed_in c.put_in-added.new.callers.map)
    (get c.self.inside.conversions) c.args.caller (arc_value c.in-Ok.charmap) c.put_in-added.result
    c.assert_keyed.ensures.places c.put_in-added.ensures.own c.put_in-added.ensures.others c.self.invariant

pub returns-clause-acts : goal.returns-clause-acts
returns-clause-acts c =
    let count : c.len-count.result ≡ length (arc_value c.in-Ok.charmap).pairs = c.len-count.ensures.value
    ∙ ap (λ (m : Charmap). length m.pairs) c.deref.ensures in
    rw (c.in-Ok.is, c.add_answer.ensures.value, count) (acts_seen c.self.inside.callers.map
    c.put_in-added.new.callers.map c.self.inside.conversions c.self.inside.conversions _ c.args.caller
    (Put (Read (arc_value c.in-Ok.charmap))) _ c.self.view_is (put_done (get c.self.inside.conversions)
    (keyed_in c.self.inside.callers.map c.args.caller) (keyed_in c.put_in-added.new.callers.map c.args.caller)
    (arc_value c.in-Ok.charmap) c.put_in-added.result c.put_in-added.ensures.own))

pub returns-clause-others : goal.returns-clause-others
returns-clause-others c = others_seen c.self.inside.callers.map
    c.put_in-added.new.callers.map c.self.inside.conversions c.self.inside.conversions _ c.args.caller c.self.view_is
    (λ d a. ap (table_of (get c.self.inside.conversions)) (c.put_in-added.ensures.others d a))
