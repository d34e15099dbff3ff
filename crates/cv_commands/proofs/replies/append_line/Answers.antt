use Rattle.std.proofs.Common.{◌∙◌}
use Rattle.cv_commands.proofs.Words.{line_onto}
use Rattle.cv_commands.proofs.replies.append_line.Goals as goal

pub returns-in-Ok-clause-ok : goal.returns-in-Ok-clause-ok
returns-in-Ok-clause-ok c =
    line_onto (record { caller = c.args.caller; tag = c.args.tag; code = c.args.status; body = c.args.body.now })
    c.args.lines.now.items c.as_bytes.result.now _ (c.as_bytes.ensures.value ∙ c.in_ok-head.ensures) c.in-Ok.ensures.ok
