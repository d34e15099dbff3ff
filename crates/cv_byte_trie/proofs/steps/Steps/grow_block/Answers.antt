use Rattle.std.proofs.Common.{◌≡◌, ◌<◌, ◌+◌, ◌*◌, ◌-◌, ◌∙◌, ◌++◌, ℕ, List, take, drop, bit_and, sym, ap, arith, refl}
use Rattle.std.proofs.lemmas.Nat.{and_le_r}
use Rattle.std.specs.Vec.{with_item}
use Rattle.cv_byte_trie.specs.declared.node.Edge.{Edge}
use Rattle.cv_byte_trie.specs.declared.node.Node.TheVariants.{Few}
use Rattle.cv_byte_trie.specs.declared.steps.Steps.{Steps}
use Rattle.cv_byte_trie.proofs.GrownBlocks.{doubled, doubled_size, doubled_new, doubled_old, doubled_room}
use Rattle.cv_byte_trie.proofs.GrownBlocks.{grow_block_sets, grow_block_sound}
use Rattle.cv_byte_trie.proofs.steps.Steps.grow_block.Goals as goal

pub returns-clause-sets : goal.returns-clause-sets
returns-clause-sets c =
    let t = c.args.self.now in
    let size = c.args.size in
    let from = c.args.start in
    let e : Edge = record { byte = c.args.byte; code = c.args.code } in
    let u : Steps = record {
      nodes = with_item t.nodes c.args.node (Few (2 * size) c.len-new_start.result);
      edges = c.extend_from_slice.new.self;
      tables = t.tables;
    } in
    let some = c.requires.sound.filled c.args.node size from c.requires.low c.requires.few in
    let within = c.requires.sound.within c.args.node size from c.requires.low c.requires.few in
    let x = bit_and c.args.byte (size - 1) in
    let below : x < size = omega (arith, and_le_r c.args.byte (size - 1)) in
    let width : from + size - from ≡ size = omega arith in
    let source : c.copy_from_slice.new.self ≡ take size (drop from t.edges.items) =
    c.copy_from_slice.ensures.after ∙ ap (λ (n : ℕ). take n (drop from c.deref.result.now)) width
    ∙ ap (λ (x : List Edge). take size (drop from x)) c.deref.ensures.value in
    let pushed : u.edges.items ≡ t.edges.items ++ doubled t.edges.items from size x e within c.requires.small below =
    rw source at c.in_ok-extend_from_slice.ensures.items in
    grow_block_sets t u c.requires.sound c.args.node c.requires.low (doubled t.edges.items from size x e within
    c.requires.small below) pushed refl c.len-new_start.result (sym (c.len-new_start.ensures ∙ t.edges.ok.0))
    size from c.args.byte c.args.code (size + x) c.requires.few c.requires.small c.requires.lacks (omega arith)
    c.requires.leads (omega arith) (omega arith) (doubled_size t.edges.items from size x e within c.requires.small
    below) (doubled_new t.edges.items from size x e within c.requires.small below) (doubled_old t.edges.items from size
    x e within c.requires.small below) (doubled_room t.edges.items from size x e within c.requires.small below) refl

pub returns-clause-sound : goal.returns-clause-sound
returns-clause-sound c =
    let t = c.args.self.now in
    let size = c.args.size in
    let from = c.args.start in
    let e : Edge = record { byte = c.args.byte; code = c.args.code } in
    let u : Steps = record {
      nodes = with_item t.nodes c.args.node (Few (2 * size) c.len-new_start.result);
      edges = c.extend_from_slice.new.self;
      tables = t.tables;
    } in
    let some = c.requires.sound.filled c.args.node size from c.requires.low c.requires.few in
    let within = c.requires.sound.within c.args.node size from c.requires.low c.requires.few in
    let x = bit_and c.args.byte (size - 1) in
    let below : x < size = omega (arith, and_le_r c.args.byte (size - 1)) in
    let width : from + size - from ≡ size = omega arith in
    let source : c.copy_from_slice.new.self ≡ take size (drop from t.edges.items) =
    c.copy_from_slice.ensures.after ∙ ap (λ (n : ℕ). take n (drop from c.deref.result.now)) width
    ∙ ap (λ (x : List Edge). take size (drop from x)) c.deref.ensures.value in
    let pushed : u.edges.items ≡ t.edges.items ++ doubled t.edges.items from size x e within c.requires.small below =
    rw source at c.in_ok-extend_from_slice.ensures.items in
    grow_block_sound t u c.requires.sound c.args.node c.requires.low (doubled t.edges.items from size x e within
    c.requires.small below) pushed refl c.len-new_start.result (sym (c.len-new_start.ensures ∙ t.edges.ok.0))
    size from c.args.byte c.args.code (size + x) c.requires.few c.requires.small c.requires.lacks (omega arith)
    c.requires.leads (omega arith) (omega arith) (doubled_size t.edges.items from size x e within c.requires.small
    below) (doubled_new t.edges.items from size x e within c.requires.small below) (doubled_old t.edges.items from size
    x e within c.requires.small below) (doubled_room t.edges.items from size x e within c.requires.small below) refl
