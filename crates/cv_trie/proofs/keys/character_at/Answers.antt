use Rattle.std.proofs.Common.{ℕ, refl, arith}
use Rattle.cv_trie.proofs.KeyBytes.{key_long}
use Rattle.cv_trie.proofs.keys.character_at.Goals as goal

pub returns : goal.returns
returns g c = λ _. (
    let entry = c.index-entries-index.result in
    let n : ℕ = g.C.KeyCell.KEY in
    let scalar = rw c.character.ensures at c.value.ensures.scalar in
    rw (c.value.ensures.number, c.character.ensures) (key_long c.args.entries.now entry _ c.padded.result.now
    c.args.input.now c.args.used n (omega arith) c.index-entries-index.is scalar (omega arith) (omega arith)
    c.padded.ensures.bytes (omega arith) (c.if-not-are_there.ensures refl)))
