use Rattle.memory.proofs.Asking.{settled_fetch}
use Rattle.memory.proofs.settling.settle_fetch.Goals as goal

pub returns : goal.returns
returns g c = settled_fetch _ g.met.P.ProgramMemory.fetches _ _ _ _ c.settle.ensures
