use Rattle.std.proofs.Common.{◌≡◌, List, ℕ, length, drop, sym, subst, ap}
use Rattle.std.proofs.lemmas.List.{take_rest}
use Rattle.cv_base.specs.Items.{Begins}
use Rattle.cv_trie.specs.Private.Followed.{IsFound}
use Rattle.cv_trie.proofs.Following.{begins_test, begun_found}
use Rattle.cv_trie.proofs.reading.whole.Goals as goal

pub returns-then-starts_with-clause-found : goal.returns-then-starts_with-clause-found
returns-then-starts_with-clause-found c =
    let entries = c.args.entries.now in
    let text = drop c.args.used c.args.input.now in
    let x = c.index-entries-index.result in
    let front : Begins c.bytes-bytes.result.now text = begins_test c.bytes-bytes.result.now text c.starts_with.result
    (rw (take_rest c.args.input.now c.args.used) at c.starts_with.ensures.value) c.if-starts_with.true in
    let size : length x.0 ≡ length c.bytes-bytes.result.now = ap length (sym c.bytes-bytes.ensures.value) in
    subst (λ (n : ℕ). IsFound entries text n c.args.index) size (begun_found entries text c.args.index x c.requires.low
    c.index-entries-index.is (subst (λ (w : List ℕ). Begins w text) c.bytes-bytes.ensures.value front))
