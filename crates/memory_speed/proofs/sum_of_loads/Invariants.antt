use Rattle.memory_speed.proofs.sum_of_loads.Given as goal

abbrev pub invariant-loop-i : goal.invariant-loop-i
invariant-loop-i g l = g.D.DataMemory.sound l.memory
