use Rattle.std.proofs.Common.{◌≡◌, ℕ, List, [], ◌++◌, length, take, drop, sym, ap, subst, ◌∙◌, arith}
use Rattle.std.proofs.lemmas.List.{append-nil, take_all}
use Rattle.std.proofs.Math.ListN.{drop_of_length-le}
use Rattle.std.specs.Prelude.{OnErr}
use Rattle.cv_frame.specs.Message.{Message}
use Rattle.cv_machine.specs.Machine.{Runs}
use Rattle.cv_loop.specs.Replying.{AppendsReplies}
use Rattle.cv_loop.proofs.Replying.{nothing_ran, pushed_some}
use Rattle.cv_world.specs.Requests.{turn}
use Rattle.cv_pool.specs.Pools.{pool_tables}
use Rattle.cv_pool.specs.declared.shard.Shard.{Shard}
use Rattle.cv_pool.proofs.pool.Pool.batch_into.Goals as goal

-- all shards that were borrowed are given back
given_back : (len : ℕ) (xs lent old : List Shard) → length xs ≡ length lent → length lent ≡ len → lent ≡ old
    → take len (xs ++ drop (length xs) old) ≡ xs
given_back len xs lent old kept many is =
    let same : length lent ≡ length old = ap length is in
    let none : drop (length xs) old ≡ [] = drop_of_length-le old (omega (arith, same, kept)) in
    ap (λ (ys : List Shard). take len (xs ++ ys)) none ∙ ap (take len) (append-nil xs)
    ∙ take_all len xs (omega (arith, kept, many))

pub returns-in_err-told-clause-err : goal.returns-in_err-told-clause-err
returns-in_err-told-clause-err g c =
    let lent = c.as_mut_slice-shards.ensures in
    let back = given_back _ c.answer_by_threads.new.shards _ _ c.answer_by_threads.auto.shards lent.len lent.value in
    nothing_ran turn c.from_residual.result _ _ _ _
    (ap pool_tables back ∙ c.in_err-told.ensures.err ∙ ap pool_tables lent.value)

pub returns-then-want_threads-clause-err : goal.returns-then-want_threads-clause-err
returns-then-want_threads-clause-err g c =
    let lent = c.as_mut_slice-shards.ensures in
    let items = c.args.self.now.shards.items in
    let back = given_back _ c.answer_by_threads.new.shards _ _ c.answer_by_threads.auto.shards lent.len lent.value in
    let was : Runs turn (pool_tables items) c.args.requests.now c.in_ok-told.told.items (pool_tables
    c.answer_by_threads.new.shards) = subst (λ (ws : List Shard). Runs turn (pool_tables ws) c.args.requests.now
    c.in_ok-told.told.items (pool_tables c.answer_by_threads.new.shards)) lent.value c.in_ok-told.ensures.runs in
    let told : Runs turn (pool_tables items) c.args.requests.now c.deref.result.now (pool_tables
    c.answer_by_threads.new.shards) = subst (λ (ms : List Message). Runs turn (pool_tables items) c.args.requests.now ms
    (pool_tables c.answer_by_threads.new.shards)) (sym c.deref.ensures.value) was in
    pushed_some turn c.push_each.result _ _ _ c.deref.result.now _ _
    (subst (λ (ws : List Shard). Runs turn (pool_tables items) c.args.requests.now c.deref.result.now (pool_tables ws))
    (sym back) told) c.push_each.ensures.err

pub returns-clause-err : goal.returns-clause-err
returns-clause-err g c =
    let lent = c.as_mut_slice-shards.ensures in
    let items = c.args.self.now.shards.items in
    let new = c.answer_sequentially_into.new.shards in
    let back = given_back _ new _ _ c.answer_sequentially_into.auto.shards lent.len lent.value in
    let so = subst (λ (ws : List Shard). OnErr c.answer_sequentially_into.result ((later : List Message)
    × (missing : List ℕ) × AppendsReplies turn (pool_tables ws) c.args.requests.now later c.args.replies.now
    c.answer_sequentially_into.new.replies missing (pool_tables new)))
    lent.value c.answer_sequentially_into.ensures.err in
    subst (λ (ws : List Shard). OnErr c.answer_sequentially_into.result ((later : List Message) × (missing : List ℕ)
    × AppendsReplies turn (pool_tables items) c.args.requests.now later c.args.replies.now
    c.answer_sequentially_into.new.replies missing (pool_tables ws))) (sym back) so
