use Rattle.std.proofs.Common.{◌∙◌}
use Rattle.cv_lex.proofs.names.symbol.Goals as goal
use Rattle.cv_lex.proofs.ListedNames.{listed_symbol}

pub returns-in_default : goal.returns-in_default
returns-in_default c = c.listed.ensures ∙ listed_symbol c.args.name.now c.in_default.len_at_least
