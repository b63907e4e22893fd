use Rattle.memory_vectors.proofs.bench.answer_all.Given as goal

abbrev pub invariant-loop-command : goal.invariant-loop-command
invariant-loop-command g l = g.P.ProgramMemory.sound l.program × g.D.DataMemory.sound l.«data»
