use Rattle.std.proofs.Common.{◌≡◌, ◌+◌, ◌<◌, length, arith, get_or}
use Rattle.cv_simd.specs.Splits.{start_of}
use Rattle.cv_simd.proofs.SplitStarts.{start_first, start_le}
use Rattle.cv_trie.specs.Private.Ones.{no_character}
use Rattle.cv_trie.proofs.EightAtOnce.{number_long, window_more}
use Rattle.cv_trie.proofs.decoder.Decoder.read_eight.Goals as goal

pub known-requires : goal.known-requires
known-requires c =
    let decoder = c.args.self.now in
    let begins = decoder.offsets_are c.requires.offsets in
    let rows : 0 < length decoder.rows.now = omega (arith, begins.within 0 (omega arith)) in
    let number = c.window_at-window.ensures.cells c.loop-k.k c.loop-k-test.true in
    let low : get_or c.window_at-window.result.cells c.loop-k.k 0 < no_character =
    omega (arith, c.any_bits.ensures c.loop-k.k c.loop-k-test.true) in
    rw number (number_long decoder.trie.now.entries _ _ _ c.args.input.now decoder.singles_are (decoder.rows_are rows)
    begins (λ i. (let h = c.type_inv.input i in omega arith)) (start_of c.args.input.now c.args.read.used c.loop-k.k)
    (omega (arith, start_le c.args.input.now c.args.read.used c.loop-k.k)) (rw number at low)).scalar

pub loop-k-init : goal.loop-k-init
loop-k-init c =
    let n : c.args.read.n + 0 ≡ c.args.read.n = omega arith in
    rw (n, start_first c.args.input.now c.args.read.used) c.requires.read

pub loop-k-preserved : goal.loop-k-preserved
loop-k-preserved c =
    let decoder = c.args.self.now in
    let begins = decoder.offsets_are c.requires.offsets in
    let rows : 0 < length decoder.rows.now = omega (arith, begins.within 0 (omega arith)) in
    let number = c.window_at-window.ensures.cells c.loop-k.k c.loop-k-test.true in
    let low : get_or c.window_at-window.result.cells c.loop-k.k 0 < no_character =
    omega (arith, c.any_bits.ensures c.loop-k.k c.loop-k-test.true) in
    rw (c.known.ensures, number) (window_more decoder.trie.now.entries _ _ _ c.args.input.now decoder.singles_are
    (decoder.rows_are rows) begins (λ i. (let h = c.type_inv.input i in omega arith)) c.loop-k.buffer c.args.read.n
    c.args.read.used c.loop-k.k c.loop-k.invariant (omega (arith, c.loop-k.auto.buffer))
    (omega (arith, start_le c.args.input.now c.args.read.used c.loop-k.k)) (rw number at low))

pub overflow_add-result-2 : goal.overflow_add-result-2
overflow_add-result-2 c = omega (arith, start_le c.args.input.now c.args.read.used 8, c.window_at-window.ensures.used)

pub returns-clause-more : goal.returns-clause-more
returns-clause-more c = omega (arith, start_le c.args.input.now c.args.read.used 8, c.window_at-window.ensures.used)
