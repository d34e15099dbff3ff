use Rattle.std.proofs.Common.{◌≡◌, ◌+◌, ◌*◌, ◌∙◌, ◌<◌, get_or, length, refl, arith, mul-zero, add-one, rules}
use Rattle.std.proofs.Math.Seq.{take-suc-set}
use Rattle.cv_base.specs.Units.{unit_size}
use Rattle.cv_block.specs.AsciiRuns.{characters_in, offset}
use Rattle.cv_block.proofs.AsciiRuns.{unit_more, unit_fits}
use Rattle.cv_block.proofs.unit_blocks.low_bytes.Goals as goal

pub character-requires : goal.character-requires
character-requires g c = omega (arith, unit_fits g.U.Unit.form c.loop-k.k 16 c.loop-k-test.true)

pub loop-k-init : goal.loop-k-init
unfolding characters_in
loop-k-init g c = record { index = rw mul-zero; long = refl; bytes = refl }

pub loop-k-preserved : goal.loop-k-preserved
unfolding characters_in
loop-k-preserved g c =
    let i = c.loop-k.invariant in
    let within : c.loop-k.k < length c.loop-k.low = omega arith in
    let lowest : c.character.result ≡ get_or c.args.units.now
    (unit_size g.U.Unit.form * c.loop-k.k + offset g.U.Unit.form) 0 = rw i.index at c.character.ensures.lowest in
    record {
      index = omega (arith, unit_more g.U.Unit.form c.loop-k.k);
      long = search rules;
      bytes = rw add-one (take-suc-set c.loop-k.low c.loop-k.k c.character.result within ∙ rw (i.bytes, lowest) refl);
    }
