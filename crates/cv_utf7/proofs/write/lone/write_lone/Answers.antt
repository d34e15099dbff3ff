use Rattle.std.proofs.Common.{arith, sym, ◌∙◌, ◌+◌}
use Rattle.std.proofs.lemmas.List.{get_or_read}
use Rattle.cv_utf7.proofs.Groups.{writes_lone}
use Rattle.cv_utf7.proofs.SetMembers.{written_lt}
use Rattle.cv_utf7.proofs.write.lone.write_lone.Goals as goal

pub overflow_cast-last : goal.overflow_cast-last
overflow_cast-last c = omega (arith, written_lt _ (sym c.if-not-stands.ensures))

pub returns-clause-written : goal.returns-clause-written
returns-clause-written c = λ _.
    let characters = c.args.characters.now in
    let e = c.value-unit.ensures.number ∙ get_or_read characters c.args.n c.index-characters-n.result (omega arith)
    c.index-characters-n.is 0 in
    writes_lone characters c.args.n c.args.at c.value-unit.result c.value-last.result c.digit_for-first.result
    c.digit_for-second.result c.digit_for-third.result c.args.out.now c.write_slice.new.out c.requires.some e
    (c.value-last.ensures.number ∙ get_or_read characters (c.args.n + 1) c.index-characters-n-2.result (omega arith)
    c.index-characters-n-2.is 0)
    (omega (arith, e, c.requires.long)) (omega (arith, e, c.requires.unit)) (sym c.if-not-stands.ensures)
    c.digit_for-first.ensures c.digit_for-second.ensures c.digit_for-third.ensures c.write_slice.ensures
