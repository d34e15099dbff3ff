use Rattle.std.proofs.Common.{◌∙◌, sym, ap, nat_eq, arith}
use Rattle.cv_cache.specs.declared.cached_text.CachedText.{CachedText}
use Rattle.cv_cache.proofs.Sizes.{freed, pushed}
use Rattle.cv_cache.proofs.cached_text.put.Goals as goal

pub returns-in-Some-clause-bytes : goal.returns-in-Some-clause-bytes
returns-in-Some-clause-bytes c =
    let gone = ap (freed (λ (k : CachedText). k.size)) (sym c.in-Some.is ∙ c.in_ok-gone.ensures.old) in
    rw c.in_ok-gone.ensures.entries (omega (
      arith,
      pushed (λ (k : CachedText). k.size) nat_eq c.args.entries.now c.args.number c.args.kept c.len.ensures.valid.1
          c.len.ensures.valid.2,
      gone,
    ))

pub returns-in-None-clause-bytes : goal.returns-in-None-clause-bytes
returns-in-None-clause-bytes c =
    let gone = ap (freed (λ (k : CachedText). k.size)) (sym c.in-None.is ∙ c.in_ok-gone.ensures.old) in
    rw c.in_ok-gone.ensures.entries (omega (
      arith,
      pushed (λ (k : CachedText). k.size) nat_eq c.args.entries.now c.args.number c.args.kept c.len.ensures.valid.1
          c.len.ensures.valid.2,
      gone,
    ))
