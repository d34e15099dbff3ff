use Rattle.std.proofs.Common.{arith, ℕ, ◌≡◌, ◌∙◌, List, length, map}
use Rattle.std.proofs.lemmas.List.{length-map, take_all}
use Rattle.cv_block.proofs.Slack.{put_front}
use Rattle.cv_utf8.proofs.Utf8Written.{ascii_are}
use Rattle.cv_utf8.proofs.write.one_byte.write_one_byte.Goals as goal

pub returns-clause-put : goal.returns-clause-put
returns-clause-put c =
    let units = c.args.units in
    let bytes : List ℕ = map (λ (u : ℕ). u) units in
    let long : length bytes ≡ 16 = omega (arith, length-map units (λ (u : ℕ). u)) in
    put_front _ bytes c.args.out.now c.args.at 16 16 long c.requires.room (omega arith) (omega arith)
    (take_all 16 bytes (omega arith) ∙ ascii_are units (λ k h. c.requires.ascii k (omega arith)))
