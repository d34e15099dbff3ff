use Rattle.std.proofs.Common.{sym, ◌∙◌}
use Rattle.cv_caller.proofs.Emptiness.{empty_keyed}
use Rattle.cv_caller.proofs.table.Table.is_empty.Goals as goal

pub returns : goal.returns
returns c = empty_keyed c.self.inside.uploads c.self.inside.places c.args.self.now c.is_empty.result c.self.view_is
    (sym c.if-has_places.false ∙ c.has_places.ensures) c.self.invariant.numbers c.is_empty.ensures
