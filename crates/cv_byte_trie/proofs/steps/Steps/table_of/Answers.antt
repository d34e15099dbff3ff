use Rattle.std.proofs.Common.{refl}
use Rattle.cv_byte_trie.proofs.Edges.{fill_start}
use Rattle.cv_byte_trie.proofs.steps.Steps.table_of.Goals as goal

pub loop-at-init : goal.loop-at-init
loop-at-init c = record { filled = fill_start c.args.self.now.edges.items c.args.start; size = refl }
