use Rattle.std.proofs.lemmas.List.{get_or_read}
use Rattle.cv_utf7.proofs.WriteSteps.{always_put, writes_put}
use Rattle.cv_utf7.proofs.write.sequences.write_one.Goals as goal

pub unreachable-requires : goal.unreachable-requires
unreachable-requires c = always_put c.args.from.next c.index-characters-from.result c.args.from.end c.args.out.now
    c.put_at.result c.put_at.new.out c.requires.room c.put_at.ensures c.in-NoRoom.is

pub returns-clause-one : goal.returns-clause-one
returns-clause-one c =
    let e = get_or_read c.args.characters.now c.args.from.n c.index-characters-from.result c.requires.some
    c.index-characters-from.is 0 in
    writes_put c.args.characters.now c.args.from _ c.args.out.now _ _ c.requires.some (rw e at c.in-Wrote.ensures)
