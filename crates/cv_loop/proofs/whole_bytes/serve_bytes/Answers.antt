use Rattle.std.proofs.Common.{◌≡◌, ◌≤◌, ◌++◌, length, ℕ, List, Some, refl, ap, sym, ◌∙◌, subst, arith}
use Rattle.cv_frame.specs.Cut.{messages_of, rest_of}
use Rattle.cv_loop.specs.Serving.{EndsWhere}
use Rattle.cv_loop.proofs.Headline.{other_ending, all_gave, all_took, gave_few, gave_front, same_written}
use Rattle.cv_loop.proofs.whole_bytes.serve_bytes.Goals as goal

pub returns-clause-headline : goal.returns-clause-headline
returns-clause-headline g c t =
    let gave = all_gave _ _ _ c.new-reader.ensures.left
    (c.serve-result.ensures.ends.none_left (sym c.in_memory.ensures.end ∙ t)) in
    let took = all_took _ _ _ (c.new-writer.ensures.held ∙ ap Some c.new.ensures.items) c.into_inner.ensures in
    other_ending _ _ _ _ _ c.in_memory.ensures.unbroken (c.serve-result.ensures.headline _ _ gave took)

pub returns-clause-enough : goal.returns-clause-enough
returns-clause-enough g c e =
    let s = c.serve-result.ensures.serves in
    let few : length s.given ≤ length c.args.frames.now =
    gave_few _ (Some c.serve-result.new.reader.reader.now) c.args.frames.now s.given c.new-reader.ensures.left s.gave in
    omega (arith, s.enough (c.in_memory.ensures.too_many e), few)

pub returns-clause-serves : goal.returns-clause-serves
returns-clause-serves g c =
    let s = c.serve-result.ensures.serves in
    let rest = c.serve-result.new.reader.reader.now in
    let pulls = c.serve-result.new.reader.pulls in
    let front : c.args.frames.now ≡ s.given ++ rest =
    gave_front _ c.args.frames.now rest s.given c.new-reader.ensures.left s.gave in
    let took = all_took _ _ _ (c.new-writer.ensures.held ∙ ap Some c.new.ensures.items) c.into_inner.ensures in
    record {
      given = s.given;
      rest = rest;
      front = front;
      all = λ t. c.serve-result.ensures.ends.none_left (sym c.in_memory.ensures.end ∙ t);
      headline = other_ending _ _ _ _ _ c.in_memory.ensures.unbroken
          (c.serve-result.ensures.headline s.given _ (rest, c.new-reader.ensures.left ∙ ap Some front, refl) took);
      pulls = pulls;
      ends = c.in_memory.ensures.same _ _ _ _ _
          (subst (λ (w : List ℕ). EndsWhere c.serve-result.result (messages_of s.given)
          (rest_of s.given) w pulls c.args.max_reads) (sym (same_written _ _ _ _ took s.took)) s.ends);
    }
