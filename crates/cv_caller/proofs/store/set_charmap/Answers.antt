use Rattle.std.proofs.Common.{refl}
use Rattle.std.specs.Prelude.{option_map}
use Rattle.std.proofs.lemmas.List.{map-set}
use Rattle.cv_caller.specs.Private.Views.{weighed_value}
use Rattle.cv_caller.proofs.store.set_charmap.Goals as goal

pub returns-clause-same : goal.returns-clause-same
returns-clause-same c = rw (
  c.deref_mut.ensures.value,
  c.in-Some.is,
  map-set (option_map weighed_value) c.in-Some.store.value.charmaps c.args.slot c.args.charmap,
) refl
