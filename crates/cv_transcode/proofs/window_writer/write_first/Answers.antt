use Rattle.std.proofs.Common.{arith, subst, ℕ, ◌-◌, List, take}
use Rattle.std.specs.List.{flat_map}
use Rattle.cv_block.specs.Slack.{IsPutWithSlack}
use Rattle.cv_transcode.proofs.Parts.{zeros_cut}
use Rattle.cv_transcode.proofs.window_writer.write_first.Goals as goal

pub overflow_sub-result-2 : goal.overflow_sub-result-2
overflow_sub-result-2 g c =
    let to = g.T.WindowWriter.bytes_of in
    let put = subst (λ (units : List ℕ). IsPutWithSlack (flat_map to units) c.args.out.now c.args.at
    c.write_window-wrote.result 16 c.write_window-wrote.new.out) c.first_units.ensures
    c.write_window-wrote.ensures.put in
    (zeros_cut to (take c.args.n c.args.units) c.args.out.now (16 - c.args.n) c.zero_size.result c.args.at
    c.write_window-wrote.result _ c.zero_size.ensures.size c.zero_size.ensures.few (omega arith) put).enough

pub returns-clause-put : goal.returns-clause-put
returns-clause-put g c =
    let to = g.T.WindowWriter.bytes_of in
    let put = subst (λ (units : List ℕ). IsPutWithSlack (flat_map to units) c.args.out.now c.args.at
    c.write_window-wrote.result 16 c.write_window-wrote.new.out) c.first_units.ensures
    c.write_window-wrote.ensures.put in
    (zeros_cut to (take c.args.n c.args.units) c.args.out.now (16 - c.args.n) c.zero_size.result c.args.at
    c.write_window-wrote.result _ c.zero_size.ensures.size c.zero_size.ensures.few (omega arith) put).put
