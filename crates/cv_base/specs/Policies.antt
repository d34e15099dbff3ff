-- What may be written if the target lacks a character (POSIX iconv(): an implementation-defined conversion).
use Rattle.std.specs.Prelude.{◌≡◌}
use Rattle.cv_base.specs.Chains.{Output}
use Rattle.cv_base.specs.declared.policy.Policy.{Policy}
use Rattle.cv_base.specs.declared.policy.Policy.TheVariants.{Substitute, Strict}

-- Under Strict, `?` may replace no character.
abbrev pub Allows : Policy → Output → Type 0
Allows Substitute o = Unit {0}
Allows Strict o = o.count ≡ 0
