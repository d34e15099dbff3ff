use Rattle.std.proofs.Common.{◌*◌, arith, refl}
use Rattle.cv_base.specs.Units.{unit_size}
use Rattle.cv_block.proofs.FormPrefixes.{none_spelled, front_more}
use Rattle.cv_block.proofs.UnitBytes.{some_bytes}
use Rattle.cv_block.proofs.unit_prefixes.unit_prefix_len.Goals as goal

pub loop-used-init : goal.loop-used-init
loop-used-init g c = record { within = omega arith; prefix = λ bytes_of spells. none_spelled bytes_of c.args.input.now }

pub loop-used-smaller : goal.loop-used-smaller
loop-used-smaller g c = omega (arith, c.size-size.ensures, some_bytes g.U.Unit.form)

pub loop-used-preserved : goal.loop-used-preserved
loop-used-preserved g c =
    let i = c.loop-used.invariant in
    rw c.size-size.ensures (record {
      within = omega (arith, c.size-size.ensures);
      prefix = λ bytes_of spells. front_more bytes_of c.args.input.now c.loop-used.used (unit_size g.U.Unit.form * 16)
          (i.prefix bytes_of spells) (c.if-are_characters.ensures refl bytes_of spells);
    })
