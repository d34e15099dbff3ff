use Rattle.std.proofs.Common.{drop, length, ap, ◌∙◌, arith}
use Rattle.cv_loop.proofs.Ranges.{range_forget}
use Rattle.cv_loop.proofs.read_buffer.ReadBuffer.forget.Goals as goal

pub returns : goal.returns
returns c = range_forget c.self.inside.buffer.items c.self.inside.start c.self.inside.end c.args.n
    (omega (arith, c.requires, ap length c.self.view_is)) ∙ ap (drop c.args.n) c.self.view_is
