use Rattle.std.proofs.Common.{◌+◌, ◌<◌, arith, get_or}
use Rattle.cv_trie.specs.Private.Ones.{no_character}
use Rattle.cv_trie.proofs.OneByte.{one_long, one_more}
use Rattle.cv_trie.proofs.decoder.Decoder.read_eight_singles.Goals as goal

pub known-requires : goal.known-requires
known-requires c =
    let at = c.args.read.used + c.loop-k.k in
    let decoder = c.args.self.now in
    let cell = c.single_cells-cells.ensures.cells c.loop-k.k c.loop-k-test.true in
    let low : get_or c.single_cells-cells.result c.loop-k.k 0 < no_character =
    omega (arith, c.any_bits.ensures c.loop-k.k c.loop-k-test.true) in
    rw cell (one_long decoder.trie.now.entries _ c.args.input.now at decoder.singles_are
    (let h = c.type_inv.input at in omega arith) (omega arith) (rw cell at low)).scalar

pub loop-k-preserved : goal.loop-k-preserved
loop-k-preserved c =
    let read = c.args.read in
    let decoder = c.args.self.now in
    let cell = c.single_cells-cells.ensures.cells c.loop-k.k c.loop-k-test.true in
    let low : get_or c.single_cells-cells.result c.loop-k.k 0 < no_character =
    omega (arith, c.any_bits.ensures c.loop-k.k c.loop-k-test.true) in
    rw (c.known.ensures, cell) (one_more decoder.trie.now.entries _ c.args.input.now c.loop-k.buffer read.n read.used
    c.loop-k.k decoder.singles_are c.loop-k.invariant (omega (arith, c.loop-k.auto.buffer)) (omega arith)
    (let h = c.type_inv.input (read.used + c.loop-k.k) in omega arith) (rw cell at low))
