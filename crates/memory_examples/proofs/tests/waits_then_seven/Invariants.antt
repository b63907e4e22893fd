use Rattle.memory_examples.proofs.tests.waits_then_seven.Given as goal

abbrev pub invariant-loop-access : goal.invariant-loop-access
invariant-loop-access g l = g.D.DataMemory.sound l.memory
