use Rattle.gate_refusals.proofs.engines.lines.Given as goal

-- the engine can answer the next batch
abbrev pub invariant-loop-batch : goal.invariant-loop-batch
invariant-loop-batch g l = g.E.Engine.ready l.engine
