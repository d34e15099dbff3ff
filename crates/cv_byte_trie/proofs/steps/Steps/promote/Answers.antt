use Rattle.std.proofs.Common.{◌≡◌, ◌+◌, ◌*◌, ◌/◌, ◌∙◌, ℕ, [], length, sym, ap, arith, refl, append-nil}
use Rattle.std.specs.Vec.{with_item}
use Rattle.cv_byte_trie.specs.declared.node.Node.TheVariants.{Few, Table}
use Rattle.cv_byte_trie.specs.declared.steps.Steps.{Steps}
use Rattle.cv_byte_trie.proofs.GrownBlocks.{new_table, not_root}
use Rattle.cv_byte_trie.proofs.Keeping.{node_keeps}
use Rattle.cv_byte_trie.proofs.steps.Steps.promote.Goals as goal

pub returns-clause-sound : goal.returns-clause-sound
returns-clause-sound c =
    let t = c.args.self.now in
    let s = c.requires.sound in
    let k = c.len.result / 256 in
    let full = s.full in
    let u : Steps = record {
      nodes = with_item t.nodes c.args.node (Table k);
      edges = t.edges;
      tables = c.extend_from_slice.new.self;
    } in
    let rows = c.table_of-table.result in
    let pushed = c.in_ok-extend_from_slice.ensures.items in
    let at : length t.tables.items ≡ k * 256 = sym full
    ∙ ap (λ (n : ℕ). n / 256 * 256) (sym (c.len.ensures ∙ t.tables.ok.0)) in
    let more : length u.tables.items ≡ length t.tables.items + 256 =
    omega (arith, c.in_ok-extend_from_slice.ensures.len, c.extend_from_slice.new.self.ok.0, t.tables.ok.0) in
    node_keeps t u s c.args.node c.requires.low
    (Table k) refl (not_root t s c.args.node (Few c.args.size c.args.start) c.requires.few (λ j e. absurd (cc))) []
    (sym (append-nil t.edges.items)) rows pushed (omega arith) (new_table t u k at more)
