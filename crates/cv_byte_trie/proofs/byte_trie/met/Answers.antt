use Rattle.std.proofs.Common.{◌≡◌, length, sym, ap, ◌∙◌, refl, arith}
use Rattle.cv_base.proofs.Front.{Begins-length, Begins-same, Begins-refl}
use Rattle.cv_byte_trie.specs.Entries.{bytes_at}
use Rattle.cv_byte_trie.proofs.ReadEntries.{entry_bytes}
use Rattle.cv_byte_trie.proofs.byte_trie.met.Goals as goal

pub returns-then-len-bytes : goal.returns-then-len-bytes
returns-then-len-bytes c = λ _.
    (let v = bytes_at c.args.entries.now c.args.index in
    let x = c.args.bytes.now in
    let size : length v ≡ length x = ap length (entry_bytes c.args.entries.now c.args.index c.index-entries-index.result
    c.requires.low c.index-entries-index.is) ∙ sym c.len.ensures ∙ c.if-len-bytes.true in
    (c.requires.low, Begins-same v x x c.requires.prefix (Begins-refl x) size, refl))

pub returns-else-len-bytes : goal.returns-else-len-bytes
returns-else-len-bytes c = λ _.
    (let v = bytes_at c.args.entries.now c.args.index in
    let size : length v ≡ c.len.result = ap length (entry_bytes c.args.entries.now c.args.index
    c.index-entries-index.result c.requires.low c.index-entries-index.is) ∙ sym c.len.ensures in (
      c.requires.low,
      c.requires.prefix,
      omega (arith, size, c.if-len-bytes.false, Begins-length v c.args.bytes.now c.requires.prefix),
      refl,
    ))
