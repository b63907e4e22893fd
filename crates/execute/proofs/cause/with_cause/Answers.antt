use Rattle.std.proofs.Common.{rules}
use Rattle.execute.proofs.Interrupting.{bit_set}
use Rattle.execute.proofs.cause.with_cause.Goals as goal

pub returns-clause-law : goal.returns-clause-law
returns-clause-law c = rw (← c.number.ensures) (bit_set c.number.result c.args.causes (search rules))
