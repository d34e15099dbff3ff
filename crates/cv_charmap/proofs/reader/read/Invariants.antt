use Rattle.std.proofs.Common.{◌≡◌}
use Rattle.cv_lex.specs.Lines.{lines_of}
use Rattle.cv_charmap.specs.Private.Runs.{run_of, lines_run, finish_run, ◌>>=◌}
use Rattle.cv_charmap.specs.Private.Seen.{state_seen}
use Rattle.cv_charmap.proofs.reader.read.Given as goal

abbrev pub invariant-loop-line : goal.invariant-loop-line
invariant-loop-line l = run_of (lines_of l.text)
    ≡ lines_run (state_seen l.state.header l.pairs l.state.phase l.number) (lines_of l.line-iterator) >>= finish_run
