use Rattle.cv_simd.proofs.SplitRows.{row_at, row_ok}
use Rattle.cv_simd.proofs.SplitStarts.{split_by, size_by}
use Rattle.cv_simd.proofs.double_bytes.split_four.Goals as goal

pub bounds-mask-2 : goal.bounds-mask-2
bounds-mask-2 c = (row_at c.args.mask c.requires.few).pattern

pub swizzle-pairs : goal.swizzle-pairs
swizzle-pairs c = row_ok c.args.mask c.requires.few

pub returns-clause-few : goal.returns-clause-few
returns-clause-few c = (row_at c.args.mask c.requires.few).few

pub returns-clause-split : goal.returns-clause-split
returns-clause-split c =
    split_by c.args.text.now c.args.at c.args.mask c.requires.within c.requires.few c.requires.marked

pub returns-clause-used : goal.returns-clause-used
returns-clause-used c = size_by c.args.text.now c.args.at c.args.mask _ c.requires.few c.requires.marked
    (row_at c.args.mask c.requires.few).size
