use Rattle.std.proofs.Common.{◌≡◌, ◌∙◌, ◌+◌, ◌<◌, ◌++◌, ℕ, List, [], get_or, length, take, refl, sym, ap, arith}
use Rattle.std.proofs.lemmas.Grind.{get_or_default_zero}
use Rattle.std.proofs.lemmas.List.{take-take}
use Rattle.cv_byte_trie.specs.Entries.{bytes_at}
use Rattle.cv_pages.specs.Paging.{cell_of, index_of}
use Rattle.cv_pages.specs.InlineBytes.{not_inline}
use Rattle.cv_trie.specs.Charmaps.{map_writes}
use Rattle.cv_trie.proofs.ReadyBytes.{ready_written}
use Rattle.cv_trie.proofs.Written.{written_more, written_same}
use Rattle.cv_trie.proofs.encoder.Encoder.write_ready.Goals as goal

pub loop-k-init : goal.loop-k-init
loop-k-init c =
    let none : c.args.before.n + 0 ≡ c.args.before.n = omega arith in
    record {
      long = refl;
      from = omega arith;
      reach = omega arith;
      stays = refl;
      written = λ _. rw none c.requires.written.prefix;
    }

pub loop-k-preserved : goal.loop-k-preserved
loop-k-preserved c =
    let i = c.loop-k.invariant in
    let put = c.put-used.ensures in
    let before = c.args.before in
    let encoder = c.args.self.now in
    let entries = encoder.entries.now in
    let characters = c.args.characters.now in
    let pages = encoder.pages.now in
    let stage1 = pages.stage1.items in
    let stage2 = pages.stage2.items in
    let bytes = pages.inline.bytes.items in
    let sizes = pages.inline.sizes.items in
    let at : ℕ = before.n + c.loop-k.k in
    let character : ℕ = get_or characters at 0 in
    let inside : at < length characters = omega (arith, c.requires.within, c.loop-k-test.true) in
    let read = c.index-characters-before.is
    ∙ get_or_default_zero characters at c.index-characters-before.result inside in
    let value : c.value.result ≡ character = c.value.ensures.number ∙ read in
    let cell : c.low_cell-cell.result ≡ cell_of stage1 character = rw value at c.low_cell-cell.ensures.is in
    let size : c.put-used.result ≡ get_or sizes (cell_of stage1 character) not_inline = rw cell at put.size in
    let ready = ready_written entries stage1 stage2 bytes sizes encoder.names encoder.inline character in
    record {
      long = put.long ∙ i.long;
      from = omega (arith, i.from);
      reach = omega (arith, i.reach, size, encoder.inline.least (cell_of stage1 character));
      stays = sym (take-take before.used c.loop-k.used c.put-used.new.buffer i.from)
          ∙ rw put.stays (take-take before.used c.loop-k.used c.loop-k.buffer i.from ∙ i.stays);
      written = λ less.
          let small : get_or sizes (cell_of stage1 character) not_inline < not_inline =
          omega (arith, less, i.from, size) in
          let r = ready small in
          let four = get_or bytes (cell_of stage1 character) [] in
          let w = bytes_at entries (index_of stage1 stage2 character) in
          let stand = (rw cell at put.stand (omega (arith, size, r.few)))
          ∙ ap (λ (x : List ℕ). take c.loop-k.used c.loop-k.buffer ++ x) (ap (λ (m : ℕ). take m four) size ∙ r.is) in
          let more = written_more (map_writes entries) characters c.loop-k.buffer c.put-used.new.buffer w
          at c.loop-k.used before.count 0 character c.put-used.result (i.written (omega (arith, less))) inside
          (sym (get_or_default_zero characters at character inside)) r.written (size ∙ r.long) stand in
          let next : at + 1 ≡ before.n + (c.loop-k.k + 1) = omega arith in
          let same : before.count + 0 ≡ before.count = omega arith in
          rw (next, same) at more;
    }

pub returns-then-used-before-clause-written : goal.returns-then-used-before-clause-written
returns-then-used-before-clause-written c =
    let before = c.requires.written in
    let same = written_same (map_writes c.args.self.now.entries.now) (take c.args.before.n c.args.characters.now) in
    record {
      prefix = same c.args.buffer.now c.loop-k.buffer c.args.before.used c.args.before.count c.loop-k.invariant.stays
          before.prefix;
      within = before.within;
      short = before.short;
      few = before.few;
      room = omega (arith, c.loop-k.invariant.long, before.room);
    }

pub returns-clause-written : goal.returns-clause-written
returns-clause-written c =
    let i = c.loop-k.invariant in
    let before = c.requires.written in
    let all : c.loop-k.k ≡ 8 = omega (arith, c.loop-k-test.false, c.loop-k.auto.k-end) in
    let less : c.loop-k.used < c.args.before.used + 33 = omega (arith, i.from, c.if-used-before.false) in
    record {
      prefix = rw all at (i.written less);
      within = c.requires.within;
      short = omega (arith, less, before.short);
      few = omega (arith, before.few);
      room = omega (arith, i.long, before.room);
    }
