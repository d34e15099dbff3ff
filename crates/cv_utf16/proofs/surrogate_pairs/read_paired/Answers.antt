use Rattle.std.proofs.Common.{◌≡◌, true, false}
use Rattle.cv_utf16.proofs.SurrogatePairs.{paired_read}
use Rattle.cv_utf16.proofs.surrogate_pairs.read_paired.Goals as goal

pub returns-clause-read : goal.returns-clause-read
returns-clause-read g c = paired_read _ c.args.input.now c.args.at c.args.buffer.now c.args.n _ c.in-Some.numbers _
    c.two.result c.two-2.result c.is_low-2.result c.in-Some.ensures.0 c.in-Some.ensures.1 c.two.ensures
    (λ f. (let g : false ≡ true = c.if-is_low.ensures.1 f in cc g)) c.two-2.ensures c.is_low-2.ensures
    c.requires.room c.put_paired-more.ensures.many c.put_paired-more.ensures.counts c.put_paired-more.ensures.stand
    c.put_paired-more.ensures.size
