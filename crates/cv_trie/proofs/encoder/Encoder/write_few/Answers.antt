use Rattle.std.proofs.Common.{◌≡◌, ◌∙◌, refl, arith}
use Rattle.cv_byte_trie.specs.Entries.{bytes_at}
use Rattle.cv_byte_trie.proofs.ReadEntries.{entry_bytes}
use Rattle.cv_trie.specs.Charmaps.{map_writes}
use Rattle.cv_trie.proofs.Written.{written_more}
use Rattle.cv_trie.proofs.encoder.Encoder.write_few.Goals as goal

pub loop-k-init : goal.loop-k-init
loop-k-init c =
    let before = c.requires.written in
    record { written = before.prefix; short = before.short; few = before.few; long = refl }

pub loop-k-preserved : goal.loop-k-preserved
loop-k-preserved c =
    let i = c.loop-k.invariant in
    let chose = c.choose-index.ensures in
    let put = c.put_entry-used.ensures in
    let entries = c.args.self.now.entries.now in
    let k = c.loop-k.k in
    let index = c.choose-index.result.0 in
    let entry = c.index-entries-index.result in
    let e : bytes_at entries index ≡ entry.0 = entry_bytes entries index entry chose.low c.index-entries-index.is in
    record {
      written = written_more (map_writes entries) c.args.characters.now c.loop-k.buffer c.put_entry-used.new.buffer
          entry.0 k c.loop-k.used c.loop-k.count c.choose-index.result.1 c.index-characters-k.result
          c.put_entry-used.result i.written (omega (arith, c.loop-k-test.true, c.requires.within))
          c.index-characters-k.is (rw e at chose.written) put.size put.stand;
      short = omega (arith, i.short, put.few);
      few = omega (arith, i.few, chose.few);
      long = put.long ∙ i.long;
    }

pub returns-clause-written : goal.returns-clause-written
returns-clause-written c =
    let i = c.loop-k.invariant in
    let all : c.loop-k.k ≡ c.args.end = omega (arith, c.loop-k-test.false, c.loop-k.auto.k-end, c.requires.order) in
    record {
      prefix = rw all at i.written;
      within = c.requires.within;
      short = omega (arith, i.short);
      few = omega (arith, i.few);
      room = omega (arith, i.long, c.requires.written.room);
    }
