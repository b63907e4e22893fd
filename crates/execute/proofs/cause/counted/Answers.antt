use Rattle.std.proofs.Common.{rules}
use Rattle.execute.proofs.Interrupting.{counts}
use Rattle.execute.proofs.cause.counted.Goals as goal

pub returns-clause-law : goal.returns-clause-law
returns-clause-law c = search (rules, counts c.args.causes c.args.status)
