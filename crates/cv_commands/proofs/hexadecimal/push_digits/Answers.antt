use Rattle.std.proofs.Common.{◌≡◌, ℕ, ◌+◌, ◌*◌, ◌-◌, ◌/◌, length, take, drop, flat_map, ap, ◌∙◌, arith}
use Rattle.std.specs.Prelude.{replicate}
use Rattle.std.proofs.lemmas.List.{take_rest}
use Rattle.std.proofs.lemmas.Slice.{take-put_mid}
use Rattle.cv_commands.specs.Lines.{hexadecimal}
use Rattle.cv_commands.proofs.SixteenBytes.{last_long, sixteen_more, last_more}
use Rattle.cv_commands.proofs.hexadecimal.push_digits.Goals as goal

pub loop-block-preserved : goal.loop-block-preserved
loop-block-preserved c =
    let n = 16 * c.loop-block.block in
    let size : n + 16 - n ≡ 16 = omega arith in
    let next : 16 * (c.loop-block.block + 1) ≡ n + 16 = omega arith in
    record {
      items = sixteen_more c.args.line.now.items _ _ c.args.bytes.now c.sixteen_digits.result n
          (16 * (c.loop-block.block + 1)) c.loop-block.invariant.items (c.sixteen_digits.ensures ∙ ap (λ (i : ℕ).
          flat_map hexadecimal (take i (drop n c.args.bytes.now))) size) c.in_ok-extend_from_slice.ensures.items next;
      room = omega (arith, c.in_ok-extend_from_slice.ensures.len, c.extend_from_slice.ensures.capacity);
    }

pub returns-clause-ok : goal.returns-clause-ok
returns-clause-ok c =
    let bytes = c.args.bytes.now in
    let n = 16 * (length bytes / 16) in
    let last = take (length bytes - n) (drop n bytes) in
    let written = take-put_mid 0 (2 * length last) (replicate 32 0) c.write_digits.new.digits (2 * length last)
    (last_long last _ c.write_digits.ensures) (omega arith) in
    last_more c.args.line.now.items c.loop-block.line.items _ bytes _ _ n c.loop-block.invariant.items
    (written ∙ c.write_digits.ensures ∙ ap (flat_map hexadecimal) (take_rest bytes n))
    c.in_ok-extend_from_slice-2.ensures.items (omega arith)
