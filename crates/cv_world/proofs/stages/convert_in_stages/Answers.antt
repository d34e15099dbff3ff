use Rattle.std.proofs.Common.{◌-◌, ℕ, length, drop, sym, ap, subst, ◌∙◌, arith}
use Rattle.cv_base.specs.Codecs.{IsReadable}
use Rattle.cv_base.proofs.Front.{rest_is}
use Rattle.cv_pivot.specs.Encodings.{form_of, form_reads}
use Rattle.cv_pivot.specs.declared.conversion.Conversion.{Conversion}
use Rattle.cv_world.specs.Private.Stages.{Appends, sum_of}
use Rattle.cv_world.specs.declared.stages.ConvOutcome.{ConvOutcome}
use Rattle.cv_world.proofs.TwoStages.{wider_stage, two_stages, before_stays, stage_fits}
use Rattle.cv_world.proofs.WrittenFrames.{used_is}
use Rattle.cv_world.proofs.stages.convert_in_stages.Goals.{then-room-size_left-via-then-room-size_left}
use Rattle.cv_world.proofs.stages.convert_in_stages.Goals.{then-room-size_left-via-else-room-size_left+then-has_room}
use Rattle.cv_world.proofs.stages.convert_in_stages.Goals as goal

pub returns-then-room-size_left-clause-appends : goal.returns-then-room-size_left-clause-appends
returns-then-room-size_left-clause-appends c =
    let i = c.loop-part.invariant in
    let v : Conversion = c.loop-part.conversion in
    let w = c.convert_stage.new.conversion in
    let part = c.in_ok-part.part in
    let p = c.in_ok-part.ensures.appends in
    let after = c.convert_stage.new.output in
    let readable : IsReadable (form_reads (form_of v.from)) =
    subst (λ (x : Conversion). IsReadable (form_reads (form_of x.from))) (sym i.kept) c.assert_valid.ensures.readable in
    let whole : Appends v w c.loop-part.rest.now c.loop-part.size_left part c.loop-part.output after =
    elim c.then-room-size_left.branch [
      | then-room-size_left-via-then-room-size_left b ↦
          subst (λ (n : ℕ). Appends v w c.loop-part.rest.now n part c.loop-part.output after) b.if-room-size_left.true p
      | then-room-size_left-via-else-room-size_left+then-has_room b ↦
          wider_stage v w readable _ _ _ c.loop-part.room _ part (b.has_room.ensures b.if-has_room.true) i.room p
    ] in i.rest w part after whole

pub loop-part-preserved : goal.loop-part-preserved
loop-part-preserved c =
    let i = c.loop-part.invariant in
    let v : Conversion = c.loop-part.conversion in
    let mid = c.convert_stage.new.conversion in
    let part = c.in_ok-part.part in
    let p = c.in_ok-part.ensures.appends in
    let text = c.loop-part.rest.now in
    let read = length text - part.left in
    let x = c.loop-part.output in
    let y = c.convert_stage.new.output in
    let was = c.output-in-loop-part in
    let now = c.output-in-loop-part-2 in
    let start = used_is was.inside.used _ _ was.view_is (omega (arith, was.invariant, was.inside.bytes.ok)) in
    let end = used_is now.inside.used _ _ now.view_is (omega (arith, now.invariant, now.inside.bytes.ok)) in
    let left = c.loop-part.size_left - (now.inside.used - was.inside.used) in
    let readable : IsReadable (form_reads (form_of v.from)) =
    subst (λ (x : Conversion). IsReadable (form_reads (form_of x.from))) (sym i.kept) c.assert_valid.ensures.readable in
    let fits = stage_fits v mid text _ _ c.loop-part.room part p in
    record {
      rest = λ w o after q.
          let second : Appends mid w (drop read text) left o y after = rw (rest_is read text) at q in
          let both = two_stages v mid w readable text x y after c.loop-part.room left c.loop-part.size_left read part o
          (omega (arith, c.in_ok-part.ensures.few))
          (omega (arith, fits, i.room, start, end)) p second in
          let told : ℕ → ConvOutcome = λ n. record o { count = n } in
          subst (λ (n : ℕ). Appends c.args.conversion.now w c.args.input.now c.args.size
          (told n) c.args.output.now after) (omega arith) (i.rest w (sum_of part o) after both);
      kept = p.kept ∙ ap (λ (x : Conversion). let y : Conversion = record x { states = mid.states } in y) i.kept;
      before = before_stays _ _ _ _ i.before p.appended;
      room = omega (arith, c.next_room-room.ensures.fits);
      guess = grind (arith, i.guess, i.last, c.if-room-size_left.false);
      last = λ e. c.next_room-room.ensures.last (omega (arith, e));
      count = omega (arith, i.count, i.few, c.in_ok-part.ensures.few, c.requires.short);
      few = omega (arith, i.few, ap length (rest_is read text));
      size = omega (arith, i.size);
    }
