use Rattle.std.proofs.Common.{◌≡◌, ◌∷◌, [], ◌++◌, List, length, take, get_or, subst, ap, sym, ◌∙◌}
use Rattle.std.proofs.Math.Seq.{take-append_seam}
use Rattle.cv_byte_trie.specs.Entries.{Entry}
use Rattle.cv_byte_trie.specs.Tries.{IsAt}
use Rattle.cv_byte_trie.specs.Tables.{edge_of}
use Rattle.cv_byte_trie.specs.Private.Growth.{SetsEdge, end_code}
use Rattle.cv_byte_trie.specs.Private.Indexed.{IsIndexed}
use Rattle.cv_byte_trie.proofs.Followed.{vacant_meets_none}
use Rattle.cv_byte_trie.proofs.Indexing.{indexed_unchanged, indexed_more, at_more}
use Rattle.cv_byte_trie.proofs.entering.enter.Goals as goal

pub returns-in-Ok-clause-indexed : goal.returns-in-Ok-clause-indexed
returns-in-Ok-clause-indexed c =
    let entries = c.args.entries.now.items in
    let old = c.args.steps.now in
    let new = c.set.new.self in
    let w = c.args.bytes.now in
    let d = c.args.depth in
    let g = c.in-Ok.ensures in
    let place : c.len-index.result ≡ length entries = c.len-index.ensures ∙ c.args.entries.now.ok.0 in
    let code : c.code_of-code.result ≡ end_code (length w) d (length entries) = c.code_of-code.ensures.value
    ∙ ap (end_code (length w) d) place in
    let sets : SetsEdge old new c.args.node (get_or w d 0) (end_code (length w) d (length entries)) =
    rw code at g.sets in
    subst (λ (x : List Entry). IsIndexed x new) (sym (c.in_ok-push.ensures.items ∙ ap (λ (x : Entry). entries ++ x ∷ [])
    c.new.ensures)) (indexed_more entries old new w c.args.character d c.args.node c.requires.indexed c.requires.vacant
    c.requires.short c.value-scalar.ensures.scalar c.requires.room g.sound sets g.nodes g.edges g.tables)

pub returns-in-Ok-clause-at : goal.returns-in-Ok-clause-at
returns-in-Ok-clause-at c =
    let entries = c.args.entries.now.items in
    let old = c.args.steps.now in
    let new = c.set.new.self in
    let w = c.args.bytes.now in
    let d = c.args.depth in
    let g = c.in-Ok.ensures in
    let place : c.len-index.result ≡ length entries = c.len-index.ensures ∙ c.args.entries.now.ok.0 in
    let code : c.code_of-code.result ≡ end_code (length w) d (length entries) = c.code_of-code.ensures.value
    ∙ ap (end_code (length w) d) place in
    let sets : SetsEdge old new c.args.node (get_or w d 0) (end_code (length w) d (length entries)) =
    rw code at g.sets in
    subst (λ (x : List Entry). IsAt (edge_of new) (length new.nodes.items) x w d c.args.node)
    (sym (c.in_ok-push.ensures.items ∙ ap (λ (x : Entry). entries ++ x ∷ []) c.new.ensures)) (at_more entries old new w
    c.args.character d c.args.node c.requires.indexed c.requires.vacant c.requires.room sets g.nodes)

pub returns-in-Err-clause-indexed : goal.returns-in-Err-clause-indexed
returns-in-Err-clause-indexed c =
    let entries = c.args.entries.now.items in
    let place : c.len-index.result ≡ length entries = c.len-index.ensures ∙ c.args.entries.now.ok.0 in
    let same : c.truncate.new.self.items ≡ entries = c.truncate.ensures.items ∙ ap
    (take c.len-index.result) c.in_ok-push.ensures.items ∙ rw place (take-append_seam entries (c.new.result ∷ [])) in
    indexed_unchanged entries c.truncate.new.self.items c.args.steps.now c.set.new.self c.requires.indexed same
    c.in-Err.ensures.err

pub returns-in-Ok-clause-apart : goal.returns-in-Ok-clause-apart
returns-in-Ok-clause-apart c =
    vacant_meets_none c.args.entries.now.items c.requires.indexed.apart (edge_of c.args.steps.now)
    (length c.args.steps.now.nodes.items) c.args.bytes.now c.args.depth c.args.node c.requires.vacant

pub returns-in-Err-clause-apart : goal.returns-in-Err-clause-apart
returns-in-Err-clause-apart c =
    vacant_meets_none c.args.entries.now.items c.requires.indexed.apart (edge_of c.args.steps.now)
    (length c.args.steps.now.nodes.items) c.args.bytes.now c.args.depth c.args.node c.requires.vacant

pub returns-in_err-push-clause-apart : goal.returns-in_err-push-clause-apart
returns-in_err-push-clause-apart c =
    vacant_meets_none c.args.entries.now.items c.requires.indexed.apart (edge_of c.args.steps.now)
    (length c.args.steps.now.nodes.items) c.args.bytes.now c.args.depth c.args.node c.requires.vacant

pub returns-in-Ok-clause-others : goal.returns-in-Ok-clause-others
returns-in-Ok-clause-others c = λ b l other.
    c.in-Ok.ensures.sets.same c.args.node b c.requires.vacant.here.low l (λ p. other p.1)
