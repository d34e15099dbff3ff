use Rattle.std.proofs.Common.{◌≡◌, ◌∷◌, ◌∙◌, ◌<◌, ap, arith, drop, length-take, take}
use Rattle.std.proofs.lemmas.List.{take_rest}
use Rattle.std.specs.List.{prefix_len}
use Rattle.std.specs.Prelude.{Ok}
use Rattle.cv_lex.specs.Mappings.{One, mapping_of}
use Rattle.cv_lex.specs.Words.{is_blank}
use Rattle.cv_lex.proofs.PlainLines.{one_of, mapping_is, mapping_some, reading_is}
use Rattle.cv_lex.proofs.plain.read_plain.Goals as goal

mapped : (c : goal.In_ok-n) → mapping_of c.args.marks.now.escape (60 ∷ drop 1 c.args.line.now)
    ≡ Ok (One c.in-Ok.c (take c.in_ok-n.n c.put_bytes.new.bytes))
mapped c =
    let line = c.args.line.now in
    let rest = c.in_ok-number.rest.now in
    let has = rw (take_rest line 1) at c.in_ok-number.ensures in
    let blanks : 0 < prefix_len is_blank rest = omega (arith, c.blanks_at-blanks.ensures.value) in
    let bytes =
    rw (take_rest rest c.blanks_at-blanks.result, c.blanks_at-blanks.ensures.value) at c.in_ok-n.ensures.bytes in
    mapping_is c.args.marks.now.escape (c.is_apart.ensures c.if-not-is_apart.false) (drop 1 line) rest
    (take c.in_ok-n.n c.put_bytes.new.bytes) c.in_ok-number.number c.in-Ok.c has c.in-Ok.ensures blanks bytes

pub returns-clause-some : goal.returns-clause-some
returns-clause-some c = omega (
  arith,
  mapping_some c.args.marks.now.escape (drop 1 c.args.line.now) (take c.in_ok-n.n c.put_bytes.new.bytes) c.in-Ok.c
      (mapped c),
  length-take c.in_ok-n.n c.put_bytes.new.bytes,
)

pub returns-clause-reading : goal.returns-clause-reading
returns-clause-reading c =
    let line = c.args.line.now in
    let cut : line ≡ 60 ∷ drop 1 line = one_of line c.in-len1-up.len_at_least
    ∙ ap (λ b. b ∷ drop 1 line) c.if-open-ne60.false in
    rw cut
    (reading_is c.args.marks.now (drop 1 line) (take c.in_ok-n.n c.put_bytes.new.bytes) c.in-Ok.c c.requires (mapped c))
