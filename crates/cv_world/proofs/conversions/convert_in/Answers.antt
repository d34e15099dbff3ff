use Rattle.std.proofs.Common.{◌≡◌, ◌++◌, List, ℕ, rules, take, sym, ap, ◌∙◌}
use Rattle.slab.proofs.SlabLemmas.{Updates-with_value}
use Rattle.cv_pivot.proofs.RoomForTheMost.{enough}
use Rattle.cv_world.proofs.conversions.convert_in.Goals as goal

pub returns-in-Ok-clause-appends : goal.returns-in-Ok-clause-appends
returns-in-Ok-clause-appends c = λ v held.
    let p = c.in-Ok.ensures.appends in
    let w = c.convert_in_stages.new.conversion in
    let out = c.if-capacity-eq0.output-inside in
    let before : take out.used out.bytes.items ≡ c.args.output.now = search rules in
    let both = sym c.index_mut-conversion.ensures.value ∙ held in
    let is : c.index_mut-conversion.result.now ≡ v = cc in (
      w,
      (Updates-with_value c.args.conversions.now c.args.key w c.requires.there).changed,
      rw (← is) (record {
        output = p.output;
        converted = enough _ _ _ _ _ _ _ _ _ c.most_output.ensures c.min-size.ensures p.converted;
        kept = p.kept;
        appended = p.appended ∙ ap (λ (x : List ℕ). x ++ p.output) before;
      }),
    )
