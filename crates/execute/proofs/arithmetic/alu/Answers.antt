use Rattle.std.proofs.Common.{rules}
use Rattle.execute.proofs.Results.{alu_law}
use Rattle.execute.proofs.arithmetic.alu.Goals as goal

pub returns-clause-law : goal.returns-clause-law
returns-clause-law c = simp (c.result.ensures, c.overflows.ensures) (alu_law c.args.a c.args.b (search rules) (search rules) c.args.op)
