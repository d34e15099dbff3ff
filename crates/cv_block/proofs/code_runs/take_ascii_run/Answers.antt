use Rattle.std.proofs.Common.{◌∙◌}
use Rattle.cv_block.proofs.AsciiRuns.{bytes_put}
use Rattle.cv_block.proofs.code_runs.take_ascii_run.Goals as goal

pub returns-in-Byte-Byte-clause-out : goal.returns-in-Byte-Byte-clause-out
returns-in-Byte-Byte-clause-out c = rw (c.in-Byte-Byte.is-0, c.in-Byte-Byte.is-1) (c.copy_ascii.ensures.out
    ∙ bytes_put c.args.rest.now c.args.out.now c.args.at c.copy_ascii.result c.copy_ascii.ensures.stand)
