use Rattle.std.proofs.Common.{refl}
use Rattle.cv_commands.proofs.Sent.{sends}
use Rattle.cv_commands.proofs.requests.send.Goals as goal

pub returns-in-Ok : goal.returns-in-Ok
returns-in-Ok c = sends _ _ _ _ _ _ _ refl c.in-Ok.ensures.fits c.in-Ok.ensures.ok
