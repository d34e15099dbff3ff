use Rattle.std.proofs.Common.{arith}
use Rattle.cv_byte_trie.proofs.Agreeing.{agree_begins, agree_flip}
use Rattle.cv_byte_trie.proofs.comparing.compare_bytes.Goals as goal

pub returns-then-common-held : goal.returns-then-common-held
returns-then-common-held c =
    agree_begins c.args.held.now c.args.text.now c.common-common.result c.common-common.ensures c.if-common-held.true

pub returns-then-common-text : goal.returns-then-common-text
returns-then-common-text c = (
  agree_begins c.args.text.now c.args.held.now c.common-common.result
      (agree_flip c.args.held.now c.args.text.now c.common-common.result c.common-common.ensures) c.if-common-text.true,
  omega (arith, c.common-common.ensures.in_left, c.if-common-held.false, c.if-common-text.true),
)
