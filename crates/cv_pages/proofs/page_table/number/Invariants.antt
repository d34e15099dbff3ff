use Rattle.std.proofs.Common.{◌≡◌, ℕ, ◌+◌, ◌-◌, ◌*◌, ◌/◌, ◌≤◌, ◌<◌, get_or, length}
use Rattle.cv_byte_trie.specs.Entries.{character_at}
use Rattle.cv_pages.specs.Private.Numbered.{AreNumbered, ArePaged}
use Rattle.cv_pages.proofs.page_table.number.Given as goal

abbrev pub invariant-loop-index : goal.invariant-loop-index
invariant-loop-index l = record {
  numbered : AreNumbered l.stage1.items l.size;
  paged : ArePaged l.stage1.items l.index l.entries;
  few : l.size ≤ 64 * (l.index + 1);
  some : 0 < length l.stage1.items;
  last : get_or l.stage1.items (length l.stage1.items - 1) 0 ≡ 0;
  reach : (k : ℕ) → k < length l.entries → character_at l.entries k / 64 + 1 < length l.stage1.items;
}
