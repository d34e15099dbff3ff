use Rattle.std.proofs.Common.{◌∙◌, List, length, get_or, sym, ap, arith, refl}
use Rattle.std.specs.Vec.{with_item}
use Rattle.cv_byte_trie.specs.declared.node.Edge.{Edge}
use Rattle.cv_byte_trie.specs.declared.node.Node.TheVariants.{Few}
use Rattle.cv_byte_trie.specs.declared.steps.Steps.{Steps}
use Rattle.cv_byte_trie.proofs.GrownBlocks.{nothing, to_block_sets, to_block_sound}
use Rattle.cv_byte_trie.proofs.steps.Steps.to_block.Goals.{then-own-eq0, else-own-eq0}
use Rattle.cv_byte_trie.proofs.steps.Steps.to_block.Goals as goal

pub returns-clause-sets : goal.returns-clause-sets
returns-clause-sets c =
    let t = c.args.self.now in
    let u : Steps = record {
      nodes = with_item t.nodes c.args.node (Few 2 c.len-start.result);
      edges = c.extend_from_slice.new.self;
      tables = t.tables;
    } in
    let more = c.if-own-eq0.block in
    let pushed = c.in_ok-extend_from_slice.ensures.items in
    let sets = to_block_sets t u c.requires.sound c.args.node c.requires.low more pushed refl c.len-start.result
    (sym (c.len-start.ensures ∙ t.edges.ok.0)) c.args.own c.args.led c.args.byte c.args.code in
    elim c.if-own-eq0.branch [
      | then-own-eq0 w ↦ sets 1 c.requires.one (omega arith) c.requires.other c.requires.leads
          (omega arith) (ap length w.block-is) (ap (λ (x : List Edge). get_or x 1 nothing) w.block-is)
          (ap (λ (x : List Edge). get_or x 0 nothing) w.block-is) refl
      | else-own-eq0 w ↦ sets 0 c.requires.one (omega arith) c.requires.other c.requires.leads
          (omega arith) (ap length w.block-is) (ap (λ (x : List Edge). get_or x 0 nothing) w.block-is)
          (ap (λ (x : List Edge). get_or x 1 nothing) w.block-is) refl
    ]

pub returns-clause-sound : goal.returns-clause-sound
returns-clause-sound c =
    let t = c.args.self.now in
    let u : Steps = record {
      nodes = with_item t.nodes c.args.node (Few 2 c.len-start.result);
      edges = c.extend_from_slice.new.self;
      tables = t.tables;
    } in
    let more = c.if-own-eq0.block in
    let pushed = c.in_ok-extend_from_slice.ensures.items in
    let sound = to_block_sound t u c.requires.sound c.args.node c.requires.low more pushed refl c.len-start.result
    (sym (c.len-start.ensures ∙ t.edges.ok.0)) c.args.own c.args.led c.args.byte c.args.code in
    elim c.if-own-eq0.branch [
      | then-own-eq0 w ↦ sound 1 c.requires.one (omega arith) c.requires.other c.requires.leads
          (omega arith) (ap length w.block-is) (ap (λ (x : List Edge). get_or x 1 nothing) w.block-is)
          (ap (λ (x : List Edge). get_or x 0 nothing) w.block-is) refl
      | else-own-eq0 w ↦ sound 0 c.requires.one (omega arith) c.requires.other c.requires.leads
          (omega arith) (ap length w.block-is) (ap (λ (x : List Edge). get_or x 0 nothing) w.block-is)
          (ap (λ (x : List Edge). get_or x 1 nothing) w.block-is) refl
    ]
