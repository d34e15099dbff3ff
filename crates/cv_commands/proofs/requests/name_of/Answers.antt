use Rattle.cv_commands.proofs.Commands.{name_short, name_long}
use Rattle.cv_commands.proofs.requests.name_of.Goals as goal

pub returns-then-word-gt-LONGEST_NAME-clause-says : goal.returns-then-word-gt-LONGEST_NAME-clause-says
returns-then-word-gt-LONGEST_NAME-clause-says c = name_long _ c.if-word-gt-LONGEST_NAME.true

pub returns-clause-says : goal.returns-clause-says
returns-clause-says c = name_short _ c.if-word-gt-LONGEST_NAME.false
