use Rattle.std.proofs.Common.{◌≡◌, ◌≤◌, ◌+◌, ◌-◌, ◌++◌, [], ◌∷◌, ℕ, List, length, take, get_or, sym, ap, ◌∙◌, arith}
use Rattle.std.proofs.Common.{length-append}
use Rattle.std.specs.Prelude.{slice_set}
use Rattle.std.proofs.lemmas.List.{length-set, length-take-le, get_or-set_same, get_or-take}
use Rattle.cv_byte_trie.specs.Runs.{run_of}
use Rattle.cv_byte_trie.specs.Tables.{edge_of}
use Rattle.cv_byte_trie.proofs.Counted.{run_size, run_more, at_other, word_stays, word_front, word_whole}
use Rattle.cv_byte_trie.proofs.running.enter_run.Goals as goal

pub enter-requires-clause-vacant : goal.enter-requires-clause-vacant
enter-requires-clause-vacant c =
    let l = c.loop-added in
    let bytes = c.args.bytes.now in
    let d = length bytes - 1 in
    let y = get_or bytes d 0 + l.added in
    let low = c.requires.short in
    let text = take (d + 1) (slice_set l.word d y) in
    let cut : d + 1 ≤ length (slice_set l.word d y) = omega (arith, length-set l.word d y, l.invariant.size) in
    let here = at_other (edge_of l.steps) (length l.steps.nodes.items) l.entries.items bytes text d c.args.node
    l.invariant.at (omega arith) (word_front l.word bytes d y l.invariant.word) in
    let read : get_or text d 0 ≡ y = get_or-take (d + 1) (slice_set l.word d y) d 0 (omega arith)
    ∙ get_or-set_same l.word d y 0 (omega (arith, l.invariant.size)) in
    record {
      here = here;
      more = omega (arith, length-take-le (d + 1) (slice_set l.word d y) cut);
      byte = (let few = c.free_from-free.ensures.few in omega (arith, read, c.requires.bytes, c.loop-added-test.true));
      vacant = ap (edge_of l.steps c.args.node) read
          ∙ l.invariant.free y (omega arith) (omega (arith, c.loop-added-test.true));
    }

pub enter-requires-clause-room : goal.enter-requires-clause-room
enter-requires-clause-room c =
    let l = c.loop-added in
    let more = run_of c.args.bytes.now c.args.character l.added in
    let few = c.free_from-free.ensures.few in
    omega (
      arith,
      ap length l.invariant.run,
      length-append c.args.entries.now.items more,
      run_size c.args.bytes.now c.args.character l.added,
      c.requires.room,
      c.loop-added-test.true,
    )

pub loop-added-preserved : goal.loop-added-preserved
loop-added-preserved c =
    let l = c.loop-added in
    let i = l.invariant in
    let bytes = c.args.bytes.now in
    let d = length bytes - 1 in
    let y = get_or bytes d 0 + l.added in
    let low = c.requires.short in
    let text : take (d + 1) (slice_set l.word d y) ≡ take d bytes ++ y ∷ [] =
    word_whole l.word bytes d y i.word (omega (arith, i.size)) in
    let next : c.known-next.result ≡ c.args.character + l.added = c.known-next.ensures
    ∙ ap (λ (n : ℕ). n + l.added) c.value.ensures.number in
    let now = l.entries.items in
    let e = c.in-Ok.ensures in
    let cut : d + 1 ≤ length (slice_set l.word d y) = omega (arith, length-set l.word d y, i.size) in
    let read : get_or (take (d + 1) (slice_set l.word d y)) d 0 ≡ y = get_or-take (d + 1) (slice_set l.word d y) d 0
    (omega arith) ∙ get_or-set_same l.word d y 0 (omega (arith, i.size)) in
    record {
      few = omega (arith, c.loop-added-test.true);
      indexed = c.enter.ensures.indexed;
      run = run_more c.args.entries.now.items now c.enter.new.entries.items bytes c.args.character l.added i.run
          (e.ok ∙ ap (λ (x : List ℕ). now ++ (x, c.known-next.result) ∷ []) text
          ∙ ap (λ (n : ℕ). now ++ (take d bytes ++ y ∷ [], n) ∷ []) next);
      at = at_other (edge_of c.enter.new.steps) (length c.enter.new.steps.nodes.items) c.enter.new.entries.items
          (take (d + 1) (slice_set l.word d y)) bytes d c.args.node e.at
          (omega (arith, length-take-le (d + 1) (slice_set l.word d y) cut)) (sym (word_front l.word bytes d y i.word));
      free = λ b from to. (
          let few = c.free_from-free.ensures.few in
          e.others b (omega (arith, c.requires.bytes)) (λ same. omega (arith, same, read, from))
          ∙ i.free b (omega (arith, from)) to);
      word = word_stays l.word bytes d y i.word;
      size = length-set l.word d y ∙ i.size;
    }
