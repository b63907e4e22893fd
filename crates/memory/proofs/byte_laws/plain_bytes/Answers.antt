use Rattle.memory.proofs.Gathering.{byte_laws}
use Rattle.memory.proofs.byte_laws.plain_bytes.Goals as goal

pub returns : goal.returns
returns c = byte_laws
