use Rattle.std.proofs.Common.{rules}
use Rattle.execute.proofs.Interrupting.{lowest}
use Rattle.execute.proofs.cause.level.Goals as goal

pub returns-clause-law : goal.returns-clause-law
returns-clause-law c = search (rules, lowest c.args.counted c.ranges.counted.fits)
