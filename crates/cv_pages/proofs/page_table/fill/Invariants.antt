use Rattle.std.proofs.Common.{◌≡◌, length}
use Rattle.cv_pages.specs.Paging.{index_of, NameFirst}
use Rattle.cv_pages.proofs.page_table.fill.Given as goal

abbrev pub invariant-loop-index : goal.invariant-loop-index
invariant-loop-index l = record {
  names : NameFirst (index_of l.stage1 l.stage2.items) l.index l.entries;
  size : length l.stage2.items ≡ l.size;
}
