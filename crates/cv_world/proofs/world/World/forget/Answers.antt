use Rattle.std.proofs.Common.{sym, ap, ◌∙◌}
use Rattle.slab.specs.Slab.{get}
use Rattle.cv_caller.specs.Tables.{Table, descriptor_at}
use Rattle.cv_world.specs.Worlds.{world_tables, keyed_in}
use Rattle.cv_world.proofs.Stepping.{seen}
use Rattle.cv_world.proofs.Leaving.{unbound, gone_world, gone_seen}
use Rattle.cv_world.proofs.world.World.forget.Goals as goal

pub invariant_of-self : goal.invariant_of-self
invariant_of-self c =
    let K = keyed_in c.self.inside.callers.map in
    let G = get c.self.inside.conversions in
    gone_world K (keyed_in c.remove_in.new.callers.map) G c.args.caller c.remove_in.ensures.sets
    (unbound G (K c.args.caller) (c.self.invariant.live c.args.caller) (λ n.
    ap (λ (t : Table). descriptor_at t n) (sym (seen c.self.inside.callers.map c.self.inside.conversions c.args.caller)
    ∙ ap (λ x. world_tables x c.args.caller) c.self.view_is) ∙ c.requires n)) c.self.invariant

pub returns : goal.returns
returns c = gone_seen c.self.inside.callers.map c.remove_in.new.callers.map c.self.inside.conversions _ c.args.caller
    c.self.view_is c.remove_in.ensures.sets

pub remove_in-requires : goal.remove_in-requires
remove_in-requires c =
    let K = keyed_in c.self.inside.callers.map in
    let G = get c.self.inside.conversions in
    unbound G (K c.args.caller) (c.self.invariant.live c.args.caller) (λ n.
    ap (λ (t : Table). descriptor_at t n) (sym (seen c.self.inside.callers.map c.self.inside.conversions c.args.caller)
    ∙ ap (λ x. world_tables x c.args.caller) c.self.view_is) ∙ c.requires n)
