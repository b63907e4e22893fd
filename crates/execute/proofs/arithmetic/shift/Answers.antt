use Rattle.std.proofs.Common.{rules}
use Rattle.execute.proofs.Shifting.{moves_bits}
use Rattle.execute.proofs.arithmetic.shift.Goals as goal

pub returns-in-Left-clause-law : goal.returns-in-Left-clause-law
returns-in-Left-clause-law c = moves_bits _ c.args.a c.args.by _ (search rules) (search rules)

pub returns-in-Right-clause-law : goal.returns-in-Right-clause-law
returns-in-Right-clause-law c = moves_bits _ c.args.a c.args.by _ (search rules) (search rules)

pub returns-in-RightArithmetic-clause-law : goal.returns-in-RightArithmetic-clause-law
returns-in-RightArithmetic-clause-law c = moves_bits _ c.args.a c.args.by _ (search rules) (search rules)
