use Rattle.std.proofs.Common.{arith}
use Rattle.cv_base.proofs.SubstitutedLanes.{all_bytes, all_small, marks_few, block_written}
use Rattle.cv_base.proofs.substituting.write_block.Goals as goal

pub overflow_cast-bytes : goal.overflow_cast-bytes
overflow_cast-bytes c = all_bytes 16 c.args.limit c.numbers_of-values.result c.requires.from c.requires.to (omega arith)

pub overflow_cast-small : goal.overflow_cast-small
overflow_cast-small c = all_small 16 c.args.limit c.numbers_of-values.result (omega arith)

pub overflow_sub-result : goal.overflow_sub-result
overflow_sub-result c = marks_few c.args.limit c.numbers_of-values.result (omega arith)

pub returns-clause-written : goal.returns-clause-written
returns-clause-written c = block_written c.args.limit c.args.characters.now c.args.n c.numbers_of-values.result
    c.args.out.now c.args.at c.requires.from (omega arith) c.numbers_of-values.ensures c.requires.room
