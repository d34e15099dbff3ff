use Rattle.std.proofs.Common.{◌≡◌, ◌+◌, ℕ, length, List, Some, ap, sym, ◌∙◌}
use Rattle.std.specs.Arc.{arc_value}
use Rattle.cv_charmap.specs.Meaning.{Charmap}
use Rattle.cv_caller.specs.Keyed.{Keyed, keyed_with_charmap}
use Rattle.cv_caller.specs.Results.{is_taken, is_full}
use Rattle.cv_caller.specs.Private.Uploaded.{Uploaded}
use Rattle.cv_caller.specs.Private.Views.{keyed_of}
use Rattle.cv_caller.proofs.table.Table.add_map.Goals as goal

pub returns-clause-added : goal.returns-clause-added
returns-clause-added c =
    let name : c.name.result.now ≡ (arc_value c.args.charmap).name = c.name.ensures
    ∙ ap (λ (m : Charmap). m.name) c.deref.ensures in
    let size : c.len.result ≡ length (arc_value c.args.charmap).pairs = c.len.ensures.value
    ∙ ap (λ (m : Charmap). length m.pairs) c.deref-2.ensures in
    rw (← c.self.view_is) (
      sym (c.is_taken.ensures ∙ ap (λ (n : List ℕ). is_taken c.args.self.now.charmaps n) name ∙ ap (λ (k : Keyed).
          is_taken k.charmaps (arc_value c.args.charmap).name) (sym c.self.view_is)) ∙ c.if-is_taken.false,
      sym (c.in-Some.ensures.full ∙ ap (λ (n : ℕ). is_full c.self.inside.uploads.charmaps n) size),
      c.in-Some.map,
      c.in-Some.ensures.slot,
      ap (λ (u : Uploaded). keyed_of u c.self.inside.places) c.in-Ok.ensures.ok
          ∙ ap (λ (m : Charmap). keyed_with_charmap (keyed_of c.self.inside.uploads c.self.inside.places) c.in-Some.map
          (Some m) (c.self.inside.uploads.bytes + c.of-held.result.bytes)) c.of-held.ensures.same,
      c.of-held.ensures.whole,
    )
