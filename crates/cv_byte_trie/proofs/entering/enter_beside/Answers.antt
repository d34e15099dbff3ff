use Rattle.std.proofs.Common.{◌≡◌, ◌∷◌, [], ◌++◌, ◌+◌, List, ℕ, length, take, drop, get_or, subst, ap, sym, ◌∙◌, arith}
use Rattle.std.proofs.Math.Seq.{take-append_seam}
use Rattle.cv_byte_trie.specs.Entries.{Entry, bytes_at}
use Rattle.cv_byte_trie.specs.Tables.{edge_of}
use Rattle.cv_byte_trie.specs.Private.Growth.{Splits, end_code}
use Rattle.cv_byte_trie.specs.Private.Indexed.{IsIndexed}
use Rattle.cv_byte_trie.proofs.Agreeing.{part_is}
use Rattle.cv_byte_trie.proofs.ReadEntries.{entry_bytes}
use Rattle.cv_byte_trie.proofs.Followed.{tail_low}
use Rattle.cv_byte_trie.proofs.Indexing.{indexed_unchanged, indexed_beside, between_some, between_apart}
use Rattle.cv_byte_trie.proofs.Indexing.{beside_meets_none}
use Rattle.cv_byte_trie.proofs.entering.enter_beside.Goals as goal

pub split_edge-requires-clause-some : goal.split_edge-requires-clause-some
split_edge-requires-clause-some c =
    let entries = c.args.entries.now.items in
    let tail = c.args.tail in
    let v = bytes_at entries tail.index in
    let low =
    tail_low entries c.requires.indexed.apart (edge_of c.args.steps.now) _ c.args.bytes.now tail c.requires.tail in
    let mine = entry_bytes entries tail.index c.index.result.now low c.index.ensures in
    let held : take (length v) c.padded.result.now ≡ v = rw mine c.padded.ensures.bytes in
    let part = part_is c.padded.result.now v (length v) tail.depth c.args.common held c.requires.held c.requires.deep in
    rw part (between_some entries c.requires.indexed.apart c.args.steps.now c.args.steps.now c.args.bytes.now tail
    c.requires.tail c.args.common c.requires.agree c.requires.held c.requires.more)

pub split_edge-requires-clause-apart : goal.split_edge-requires-clause-apart
split_edge-requires-clause-apart c =
    let entries = c.args.entries.now.items in
    let tail = c.args.tail in
    let v = bytes_at entries tail.index in
    let low =
    tail_low entries c.requires.indexed.apart (edge_of c.args.steps.now) _ c.args.bytes.now tail c.requires.tail in
    let mine = entry_bytes entries tail.index c.index.result.now low c.index.ensures in
    let held : take (length v) c.padded.result.now ≡ v = rw mine c.padded.ensures.bytes in
    let part = part_is c.padded.result.now v (length v) tail.depth c.args.common held c.requires.held c.requires.deep in
    rw part (between_apart entries c.requires.indexed.apart c.args.steps.now c.args.steps.now c.args.bytes.now tail
    c.requires.tail c.args.common c.requires.agree c.requires.held c.requires.more)

pub returns-in-Ok-clause-indexed : goal.returns-in-Ok-clause-indexed
returns-in-Ok-clause-indexed c =
    let entries = c.args.entries.now.items in
    let old = c.args.steps.now in
    let new = c.split_edge.new.self in
    let w = c.args.bytes.now in
    let tail = c.args.tail in
    let l = c.args.common in
    let v = bytes_at entries tail.index in
    let g = c.in-Ok.ensures in
    let low = tail_low entries c.requires.indexed.apart (edge_of old) _ w tail c.requires.tail in
    let mine = entry_bytes entries tail.index c.index.result.now low c.index.ensures in
    let mine_again = entry_bytes entries tail.index c.index-2.result.now low c.index-2.ensures in
    let held : take (length v) c.padded.result.now ≡ v = rw mine c.padded.ensures.bytes in
    let part = part_is c.padded.result.now v (length v) tail.depth l held c.requires.held c.requires.deep in
    let place : c.len-end.result ≡ length entries = c.len-end.ensures ∙ c.args.entries.now.ok.0 in
    let size : c.len.result ≡ length v = c.len.ensures ∙ ap length (sym mine_again) in
    let first : c.code_of-code.result ≡ end_code (length v) l tail.index = c.code_of-code.ensures.value
    ∙ ap (λ (n : ℕ). end_code n l tail.index) size in
    let second : c.code_of-other_code.result ≡ end_code (length w) l (length entries) =
    c.code_of-other_code.ensures.value ∙ ap (end_code (length w) l) place in
    let forks : Splits old new tail.node (get_or w tail.depth 0) (drop (tail.depth + 1) (take (l + 1) v))
    (end_code (length v) l tail.index) (get_or w l 0) (end_code (length w) l (length entries)) =
    rw (part, first, second) at g.splits in
    subst (λ (x : List Entry). IsIndexed x new) (sym (c.in_ok-push.ensures.items ∙ ap (λ (x : Entry). entries ++ x ∷ [])
    c.new.ensures)) (indexed_beside entries c.requires.indexed.apart old new w tail c.requires.tail l c.requires.agree
    c.requires.held c.requires.more c.args.character c.requires.indexed c.requires.short c.value-scalar.ensures.scalar
    c.requires.room (let h = c.type_inv.bytes l in omega arith) g.sound forks g.edges g.tables)

pub returns-in-Err-clause-indexed : goal.returns-in-Err-clause-indexed
returns-in-Err-clause-indexed c =
    let entries = c.args.entries.now.items in
    let place : c.len-end.result ≡ length entries = c.len-end.ensures ∙ c.args.entries.now.ok.0 in
    let same : c.truncate.new.self.items ≡ entries = c.truncate.ensures.items
    ∙ ap (take c.len-end.result) c.in_ok-push.ensures.items ∙ rw place (take-append_seam entries (c.new.result ∷ [])) in
    indexed_unchanged entries c.truncate.new.self.items c.args.steps.now c.split_edge.new.self c.requires.indexed same
    c.in-Err.ensures.err

pub returns-in-Ok-clause-apart : goal.returns-in-Ok-clause-apart
returns-in-Ok-clause-apart c =
    beside_meets_none c.args.entries.now.items c.requires.indexed.apart c.args.steps.now c.args.steps.now
    c.args.bytes.now c.args.tail c.requires.tail c.args.common c.requires.agree c.requires.held c.requires.more

pub returns-in-Err-clause-apart : goal.returns-in-Err-clause-apart
returns-in-Err-clause-apart c =
    beside_meets_none c.args.entries.now.items c.requires.indexed.apart c.args.steps.now c.args.steps.now
    c.args.bytes.now c.args.tail c.requires.tail c.args.common c.requires.agree c.requires.held c.requires.more

pub returns-in_err-push-clause-apart : goal.returns-in_err-push-clause-apart
returns-in_err-push-clause-apart c =
    beside_meets_none c.args.entries.now.items c.requires.indexed.apart c.args.steps.now c.args.steps.now
    c.args.bytes.now c.args.tail c.requires.tail c.args.common c.requires.agree c.requires.held c.requires.more
