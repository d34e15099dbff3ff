use Rattle.std.proofs.Common.{arith, ◌∙◌}
use Rattle.cv_block.proofs.LastForms.{written_padded, written_none}
use Rattle.cv_block.proofs.form_writing.write_last.Goals as goal

pub overflow_sub-result-2 : goal.overflow_sub-result-2
overflow_sub-result-2 g c = (written_padded _ c.args.characters.now c.args.n c.args.out.now c.args.at _ _ _ _ _ _
    c.requires.within c.requires.few c.copy_from_slice.ensures.after c.known-sixteen.ensures
    (c.ZERO_SIZE.ensures ∙ c.assert_short.ensures.zero) (omega arith) c.write_many-many.ensures.written).0

pub returns : goal.returns
returns g c = record {
  bytes = (written_padded _ c.args.characters.now c.args.n c.args.out.now c.args.at _ _ _ _ _ _ c.requires.within
      c.requires.few c.copy_from_slice.ensures.after c.known-sixteen.ensures
      (c.ZERO_SIZE.ensures ∙ c.assert_short.ensures.zero) (omega arith) c.write_many-many.ensures.written).1;
}

pub returns-then-many-lt-LANES : goal.returns-then-many-lt-LANES
returns-then-many-lt-LANES g c = record {
  bytes = written_none _ c.args.characters.now c.args.n c.args.out.now c.args.at _ _ _ _ c.requires.within
      c.write_many-many.ensures.written;
}
