use Rattle.std.proofs.Common.{◌≡◌, ◌++◌, take}
use Rattle.cv_frame.specs.Message.{joined}
use Rattle.cv_loop.proofs.spelling.push_each.Given as goal

abbrev pub invariant-loop-reply : goal.invariant-loop-reply
invariant-loop-reply l = l.replies ≡ l.fn.replies ++ joined (take l.reply-index l.told)
