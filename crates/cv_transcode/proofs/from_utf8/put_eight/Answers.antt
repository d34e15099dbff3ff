use Rattle.std.proofs.Common.{arith, ap, ◌∙◌, ◌*◌, take}
use Rattle.cv_transcode.proofs.Ordered.{bytes_are, first_bytes, eight_few, few_lanes}
use Rattle.cv_block.proofs.Slack.{put_part}
use Rattle.cv_transcode.proofs.from_utf8.put_eight.Goals as goal

pub returns : goal.returns
returns g c slack enough =
    let units = c.args.units in
    let few = eight_few units c.fits-units.1 in
    let is = bytes_are _ 8 units c.ordered-bytes.result (omega arith) (few_lanes units (omega arith) few)
    c.ordered-bytes.ensures in
    put_part _ _ c.args.out.now c.args.at (2 * c.args.n) 16 slack (omega arith) c.requires.room
    (omega (arith, c.requires.few)) (omega (arith, enough)) (ap (take (2 * c.args.n)) is
    ∙ first_bytes _ units c.args.n few)
