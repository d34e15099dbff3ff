use Rattle.std.proofs.Common.{◌≡◌, ◌<◌, ◌*◌, ◌-◌, ◌++◌, bit_and, sym, arith, refl}
use Rattle.std.proofs.lemmas.Nat.{and_le_r}
use Rattle.std.specs.Vec.{with_item}
use Rattle.cv_byte_trie.specs.declared.node.Edge.{Edge}
use Rattle.cv_byte_trie.specs.declared.node.Node.TheVariants.{Few}
use Rattle.cv_byte_trie.specs.declared.steps.Steps.{Steps}
use Rattle.cv_byte_trie.proofs.GrownInPlace.{one_more, one_more_size, one_more_new, one_more_room, grown_sets}
use Rattle.cv_byte_trie.proofs.GrownInPlace.{grown_sound}
use Rattle.cv_byte_trie.proofs.steps.Steps.grow_in_place.Goals as goal

pub returns-clause-sets : goal.returns-clause-sets
returns-clause-sets c =
    let t = c.args.self.now in
    let size = c.args.size in
    let start = c.args.start in
    let e : Edge = record { byte = c.args.byte; code = c.args.code } in
    let u : Steps = record {
      nodes = with_item t.nodes c.args.node (Few (2 * size) start);
      edges = c.extend_from_slice.new.self;
      tables = t.tables;
    } in
    let some = c.requires.sound.filled c.args.node size start c.requires.low c.requires.few in
    let x = bit_and c.args.byte (size - 1) in
    let below : x < size = omega (arith, and_le_r c.args.byte (size - 1)) in
    let pushed : u.edges.items ≡ t.edges.items ++ one_more size x e c.requires.small below =
    c.in_ok-extend_from_slice.ensures.items in
    grown_sets t u c.requires.sound c.args.node c.requires.low (one_more size x e c.requires.small below) pushed refl
    size start c.args.byte c.args.code x c.requires.few (sym c.requires.last) c.requires.small c.requires.lacks
    (omega arith) c.requires.leads below (one_more_size size x e c.requires.small below)
    (one_more_new size x e c.requires.small below) (one_more_room size x e c.requires.small below) refl

pub returns-clause-sound : goal.returns-clause-sound
returns-clause-sound c =
    let t = c.args.self.now in
    let size = c.args.size in
    let start = c.args.start in
    let e : Edge = record { byte = c.args.byte; code = c.args.code } in
    let u : Steps = record {
      nodes = with_item t.nodes c.args.node (Few (2 * size) start);
      edges = c.extend_from_slice.new.self;
      tables = t.tables;
    } in
    let some = c.requires.sound.filled c.args.node size start c.requires.low c.requires.few in
    let x = bit_and c.args.byte (size - 1) in
    let below : x < size = omega (arith, and_le_r c.args.byte (size - 1)) in
    let pushed : u.edges.items ≡ t.edges.items ++ one_more size x e c.requires.small below =
    c.in_ok-extend_from_slice.ensures.items in
    grown_sound t u c.requires.sound c.args.node c.requires.low (one_more size x e c.requires.small below) pushed refl
    size start c.args.byte c.args.code x c.requires.few (sym c.requires.last) c.requires.small c.requires.lacks
    (omega arith) c.requires.leads below (one_more_size size x e c.requires.small below)
    (one_more_new size x e c.requires.small below) (one_more_room size x e c.requires.small below) refl
