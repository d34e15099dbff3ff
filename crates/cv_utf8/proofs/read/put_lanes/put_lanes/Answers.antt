use Rattle.std.proofs.Common.{arith}
use Rattle.cv_utf8.proofs.Utf8PutLanes.{lanes_put}
use Rattle.cv_utf8.proofs.read.put_lanes.put_lanes.Goals as goal

pub put_eight-requires-clause-scalars : goal.put_eight-requires-clause-scalars
put_eight-requires-clause-scalars c = c.requires.scalars.first

pub put_eight-requires-2-clause-scalars : goal.put_eight-requires-2-clause-scalars
put_eight-requires-2-clause-scalars c = c.requires.scalars.second

pub returns-clause-read : goal.returns-clause-read
returns-clause-read c text at is = lanes_put text at c.args.units.now c.args.buffer.now c.put_eight.new.buffer
    c.put_eight-2.new.buffer c.args.n is (omega arith) (omega arith) c.requires.room c.put_eight.ensures.size
    c.put_eight-2.ensures.size c.put_eight.ensures.stand c.put_eight-2.ensures.stand
