use Rattle.std.proofs.Common.{arith, refl, ◌∙◌}
use Rattle.std.proofs.lemmas.List.{take_rest}
use Rattle.cv_block.proofs.AsciiRuns.{bytes_run}
use Rattle.cv_block.proofs.CopiedBytes.{copy_more, copy_one_more, below_more, below_behind, below_one_more}
use Rattle.cv_block.proofs.ascii_bytes.copy_ascii.Goals as goal

pub loop-n-init : goal.loop-n-init
loop-n-init c =
    let long = c.copy_blocks-long.result in
    let more = c.copy_blocks.result in
    let within = c.copy_blocks-long.ensures.within in
    let ascii = rw (take_rest c.args.rest.now long) at c.copy_blocks.ensures.ascii in
    let out = rw (take_rest c.args.rest.now long) at c.copy_blocks.ensures.out in
    record {
      within = omega (arith, c.copy_blocks.ensures.within, within);
      ascii = below_more c.args.rest.now long more c.copy_blocks-long.ensures.ascii
          (below_behind c.args.rest.now long more ascii);
      out = copy_more c.args.rest.now c.args.out.now c.args.at long more _ c.copy_blocks-long.new.out
          c.copy_blocks.new.out refl (omega (arith, c.copy_blocks.ensures.within, within))
          (omega (arith, c.copy_blocks.ensures.within, within)) c.copy_blocks-long.ensures.out out;
    }

pub loop-n-preserved : goal.loop-n-preserved
loop-n-preserved c =
    let i = c.loop-n.invariant in
    record {
      within = omega arith;
      ascii = below_one_more c.args.rest.now c.loop-n.n i.ascii c.if-rest-n-lt128.true;
      out = copy_one_more c.args.rest.now c.args.out.now c.args.at c.loop-n.n c.loop-n.out (omega arith) (omega arith)
          (c.loop-n.auto.out ∙ c.copy_blocks.auto.out ∙ c.copy_blocks-long.auto.out) i.out;
    }

pub returns-else-rest-n-lt128-clause-ascii : goal.returns-else-rest-n-lt128-clause-ascii
returns-else-rest-n-lt128-clause-ascii c =
    bytes_run 128 c.args.rest.now _ (omega (arith, c.loop-n.invariant.within)) c.loop-n.invariant.ascii

pub returns-after-loop-n-clause-ascii : goal.returns-after-loop-n-clause-ascii
returns-after-loop-n-clause-ascii c =
    bytes_run 128 c.args.rest.now _ (omega (arith, c.loop-n.invariant.within)) c.loop-n.invariant.ascii
