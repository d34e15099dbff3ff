use Rattle.cv_utf8.proofs.utf8.Utf8Codec.item.Goals as goal

pub returns-then-first-ge224 : goal.returns-then-first-ge224
returns-then-first-ge224 c = c.long_item.ensures c.args._state
