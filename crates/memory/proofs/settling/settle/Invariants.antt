use Rattle.memory.proofs.Asking.{Asking}
use Rattle.memory.proofs.settling.settle.Given as goal

abbrev pub invariant-loop-value : goal.invariant-loop-value
invariant-loop-value g l = Asking g.M.Memory l.asked l.initial.memory l.memory

abbrev pub decreases-loop-value : goal.decreases-loop-value
decreases-loop-value g l = g.M.Memory.waits l.memory l.asked
