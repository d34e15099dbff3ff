use Rattle.std.proofs.Common.{◌≡◌, ◌+◌, ◌-◌, ◌∙◌, ℕ, length, ap, arith}
use Rattle.cv_byte_trie.specs.Tables.{edge_of}
use Rattle.cv_byte_trie.proofs.Chains.{chain_off}
use Rattle.cv_byte_trie.proofs.steps.Steps.branch.Goals as goal

pub set-requires-clause-vacant : goal.set-requires-clause-vacant
set-requires-clause-vacant c =
    let t = c.args.self.now in
    let bytes = c.args.fork.now.bytes.now in
    let last : length bytes - 1 - 0 ≡ length bytes - 1 = omega arith in
    let at : c.len-last.result ≡ length t.nodes.items + 0 = omega (arith, c.len-last.ensures, t.nodes.ok.0) in
    ap (λ (n : ℕ). edge_of c.add_chain.new.self n c.args.fork.now.other_byte) at ∙ chain_off t c.add_chain.new.self
    bytes c.args.fork.now.code c.in_ok-first.ensures.leads 0 c.args.fork.now.other_byte c.requires.some
    (rw last c.requires.apart)
