use Rattle.std.proofs.Common.{length}
use Rattle.cv_commands.proofs.file_uploads.push_upload.Given as goal

abbrev pub decreases-loop-rest : goal.decreases-loop-rest
decreases-loop-rest l = length l.rest
