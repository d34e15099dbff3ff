use Rattle.std.proofs.Common.{◌≡◌, length}
use Rattle.cv_pages.specs.InlineBytes.{AreInline}
use Rattle.cv_pages.proofs.inline_bytes.InlineBytes.of.Given as goal

abbrev pub invariant-loop-cell : goal.invariant-loop-cell
invariant-loop-cell l = record {
  long : length l.bytes.items ≡ length l.stage2;
  sizes : length l.sizes.items ≡ length l.stage2;
  inline : AreInline l.stage2 l.bytes.items l.sizes.items l.entries;
}
