use Rattle.cv_utf8.proofs.read.windows.read_short.Goals as goal

pub returns-clause-read : goal.returns-clause-read
returns-clause-read c = c.put_lanes.ensures.read c.args.input.now c.args.at c.short_lanes.ensures.read
