use Rattle.std.proofs.Common.{◌≡◌, ◌+◌, ◌*◌, ◌<◌, sym, ◌∙◌, get_or, take, arith}
use Rattle.std.proofs.lemmas.List.{take_rest, length-set}
use Rattle.std.specs.Char.{digit_value}
use Rattle.cv_lex.proofs.PlainLines.{word, gathers_none, gathers_more, all_bytes, word_at, word_none}
use Rattle.cv_lex.proofs.plain.put_bytes.Goals as goal

pub loop-rest-init : goal.loop-rest-init
loop-rest-init c = record {
  gathered = gathers_none c.args.escape (word c.args.text.now);
  few = omega arith;
  long = c.told-bytes;
}

pub loop-rest-preserved : goal.loop-rest-preserved
loop-rest-preserved c =
    let rest = c.loop-rest.rest.now in
    let own = c.loop-rest.invariant in
    let high : digit_value (get_or rest 2 0) < 16 = omega (arith, c.digit-high.ensures) in
    let low : digit_value (get_or rest 3 0) < 16 = omega (arith, c.digit-low.ensures) in
    let room : c.loop-rest.n < 8 = omega (arith, own.few) in
    let is : 16 * c.digit-high.result + c.digit-low.result ≡ 16 * digit_value (get_or rest 2 0)
    + digit_value (get_or rest 3 0) = omega (arith, c.digit-high.ensures, c.digit-low.ensures) in
    record {
      gathered = rw (take_rest rest 4) (gathers_more c.args.escape c.args.text.now rest c.loop-rest.bytes c.loop-rest.n
          (16 * c.digit-high.result + c.digit-low.result) c.requires.visible own.gathered c.in-len4-up.len_at_least
          c.if-mark-escape-2.false c.if-letter-ne120-2.false high low room (omega (arith, own.long)) is);
      few = omega arith;
      long = length-set c.loop-rest.bytes c.loop-rest.n (16 * c.digit-high.result + c.digit-low.result) ∙ own.long;
    }

pub returns-in-empty-clause-bytes : goal.returns-in-empty-clause-bytes
returns-in-empty-clause-bytes c = all_bytes c.args.escape c.args.text.now c.loop-rest.rest.now
    (take c.loop-rest.n c.loop-rest.bytes) c.loop-rest.n c.requires.visible c.loop-rest.invariant.gathered
    c.in-len2-up.len_at_least c.if-mark-escape.false c.if-letter-ne120.false
    (word_none c.loop-rest.rest.now c.in-empty.len_below) c.loop-rest.invariant.few

pub returns-then-is_blank-clause-bytes : goal.returns-then-is_blank-clause-bytes
returns-then-is_blank-clause-bytes c = all_bytes c.args.escape c.args.text.now c.loop-rest.rest.now
    (take c.loop-rest.n c.loop-rest.bytes) c.loop-rest.n c.requires.visible c.loop-rest.invariant.gathered
    c.in-len2-up.len_at_least c.if-mark-escape.false c.if-letter-ne120.false (word_at c.loop-rest.rest.now
    c.in-len1-up.len_at_least (sym c.is_blank.ensures ∙ c.if-is_blank.true)) c.loop-rest.invariant.few
