use Rattle.std.proofs.Common.{refl, arith, subst, take, List, ℕ, sym}
use Rattle.std.proofs.lemmas.List.{map-id}
use Rattle.std.specs.Simd.Lanes.{put_chunk}
use Rattle.cv_block.specs.Slack.{IsPutWithSlack}
use Rattle.cv_block.proofs.Slack.{put_front}
use Rattle.cv_transcode.proofs.to_latin1.put_eight.Goals as goal

pub returns : goal.returns
returns c =
    let units = c.args.units in
    subst (λ (x : List ℕ). IsPutWithSlack (take c.args.n units) c.args.out.now c.args.at c.args.n 16
    (put_chunk c.args.at c.args.out.now x)) (sym (map-id units)) (put_front (take c.args.n units) units c.args.out.now
    c.args.at c.args.n 8 c.fits-units.0 c.requires.room c.requires.few (omega (arith, c.requires.few)) refl)
