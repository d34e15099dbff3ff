use Rattle.gate_refusals.proofs.engines.answer.Given as goal

-- the engine can answer a request that is made again
abbrev pub invariant-loop-request : goal.invariant-loop-request
invariant-loop-request g l = g.E.Engine.ready l.engine
