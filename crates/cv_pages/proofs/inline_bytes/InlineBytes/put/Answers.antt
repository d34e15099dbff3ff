use Rattle.std.proofs.Common.{◌≡◌, ◌∙◌, [], get_or, length, ap, arith}
use Rattle.std.proofs.lemmas.List.{get_or_read}
use Rattle.cv_pages.proofs.ReadyBytes.{stands_at}
use Rattle.cv_pages.proofs.inline_bytes.InlineBytes.put.Goals as goal

pub returns-clause-stand : goal.returns-clause-stand
returns-clause-stand c = λ few.
    let bytes = c.args.self.now.bytes.items in
    let four = get_or bytes c.args.cell [] in
    let word : c.copy_from_slice.new.self ≡ four = c.copy_from_slice.ensures.after
    ∙ get_or_read bytes c.args.cell c.index.result.now c.requires.long c.index.ensures [] in
    let long : length four ≡ 4 = omega (arith, ap length word, c.copy_from_slice.ensures.len, c.requires.room) in
    rw word (stands_at c.args.buffer.now four c.args.used c.index-2.result.now _ (omega (arith, c.requires.room))
    (omega (arith, few, long)))
