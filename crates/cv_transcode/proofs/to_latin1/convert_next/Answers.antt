use Rattle.std.proofs.Common.{arith}
use Rattle.cv_transcode.proofs.ToLatin1.{rest_within, written_within}
use Rattle.cv_transcode.proofs.to_latin1.convert_next.Goals as goal

pub returns-then-is_ascii-clause-within : goal.returns-then-is_ascii-clause-within
returns-then-is_ascii-clause-within c = rest_within _ c.args.text.now _ c.args.from _ _ _
    (omega (arith, c.requires.within)) c.copy_window.ensures

pub returns-then-is_ascii-clause-room : goal.returns-then-is_ascii-clause-room
returns-then-is_ascii-clause-room c = written_within _ _ _ _ _ _ c.copy_window.ensures

pub returns-clause-within : goal.returns-clause-within
returns-clause-within c = rest_within _ c.args.text.now _ c.args.from _ _ _ (omega (arith, c.requires.within))
    c.convert_window.ensures

pub returns-clause-room : goal.returns-clause-room
returns-clause-room c = written_within _ _ _ _ _ _ c.convert_window.ensures
