use Rattle.std.proofs.Common.{◌+◌, ap, arith}
use Rattle.cv_charmap.proofs.Covering.{covered_set}
use Rattle.cv_charmap.proofs.covered.note.Goals as goal

pub returns-clause-covered : goal.returns-clause-covered
returns-clause-covered c =
    covered_set c.args.trie.now.entries c.args.covered.now c.args.start.now.hex c.args.start.now.first
    c.args.start.now.bytes.now c.args.end c.args.run.at c.args.run.index (c.from.result + c.args.run.at) c.min.result
    c.requires.covered c.requires.has c.requires.is c.requires.below (ap (λ n. n + c.args.run.at) c.from.ensures)
    (omega (arith, c.min.ensures)) (omega (arith, c.requires.long, c.requires.low))
