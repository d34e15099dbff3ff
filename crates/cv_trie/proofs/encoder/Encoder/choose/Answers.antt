use Rattle.cv_base.specs.Scalars.{question}
use Rattle.cv_pages.specs.Paging.{index_of}
use Rattle.cv_pages.proofs.FirstIndices.{index_low}
use Rattle.cv_trie.proofs.Written.{chosen, chosen_substitute, substitute_has}
use Rattle.cv_trie.proofs.encoder.Encoder.choose.Goals as goal

pub returns-then-index-clause-low : goal.returns-then-index-clause-low
returns-then-index-clause-low c =
    let e = c.args.self.now in
    let index = index_of e.pages.now.stage1.items e.pages.now.stage2.items in
    let some = substitute_has e.entries.now index e.names e.map e.substitute e.is_substitute in
    index_low e.entries.now index e.names question e.substitute e.is_substitute some

pub returns-then-index-clause-written : goal.returns-then-index-clause-written
returns-then-index-clause-written c =
    let e = c.args.self.now in
    let index = index_of e.pages.now.stage1.items e.pages.now.stage2.items in
    let some = substitute_has e.entries.now index e.names e.map e.substitute e.is_substitute in
    let is = rw c.value.ensures.number at c.first_index-index.ensures in
    chosen_substitute e.entries.now index e.names c.args.c c.first_index-index.result e.substitute is c.if-index.true
    e.is_substitute some

pub returns-else-index-clause-written : goal.returns-else-index-clause-written
returns-else-index-clause-written c =
    let e = c.args.self.now in
    let index = index_of e.pages.now.stage1.items e.pages.now.stage2.items in
    let is = rw c.value.ensures.number at c.first_index-index.ensures in
    chosen e.entries.now index e.names c.args.c c.first_index-index.result is c.if-index.false
