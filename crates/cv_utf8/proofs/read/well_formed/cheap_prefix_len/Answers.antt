use Rattle.std.proofs.lemmas.List.{take_rest}
use Rattle.cv_utf8.proofs.Utf8Front.{more_well_formed}
use Rattle.cv_utf8.proofs.read.well_formed.cheap_prefix_len.Goals as goal

pub returns-clause-well_formed : goal.returns-clause-well_formed
returns-clause-well_formed c = more_well_formed c.args.text.now c.short_prefix_len-short.result _
    c.short_prefix_len-short.ensures.well_formed
    (rw (take_rest c.args.text.now c.short_prefix_len-short.result) at c.windows_prefix_len.ensures.well_formed)
