use Rattle.std.proofs.Common.{subst, ℕ, List}
use Rattle.std.specs.List.{flat_map}
use Rattle.std.proofs.lemmas.List.{map-id}
use Rattle.cv_block.specs.Slack.{IsPutWithSlack}
use Rattle.cv_utf8.specs.Utf8.{utf8_bytes}
use Rattle.cv_transcode.proofs.utf8.Utf8WindowWindowWriter.write_window.Goals as goal

pub returns-then-are_below-2-clause-put : goal.returns-then-are_below-2-clause-put
returns-then-are_below-2-clause-put g c = subst (λ (l : List ℕ). IsPutWithSlack (flat_map utf8_bytes l) c.args.out.now
    c.args.at c.write_latin1.result 16 c.write_latin1.new.out) (map-id c.args.units) c.write_latin1.ensures.put
