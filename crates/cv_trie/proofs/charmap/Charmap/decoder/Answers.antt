use Rattle.cv_trie.proofs.charmap.Charmap.decoder.Goals as goal

pub invariant_of-result : goal.invariant_of-result
invariant_of-result c =
    let i = c.self.invariant in
    rw (c.as_slice.ensures.value, c.as_slice-2.ensures.value, c.as_slice-3.ensures.value) (record {
      long = i.long;
      within = λ some. (i.doubles some).within;
      singles_are = i.singles;
      rows_are = i.doubles;
      offsets_are = i.begins;
    })
