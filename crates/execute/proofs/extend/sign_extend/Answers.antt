use Rattle.std.proofs.Common.{◌≡◌, ◌-◌, arith, rules}
use Rattle.execute.specs.Extension.{sign_extended}
use Rattle.execute.proofs.Signs.{sign_extends, copies_sign}
use Rattle.execute.proofs.extend.sign_extend.Goals as goal

value : (c : goal.After-cast_unsigned) → c.cast_unsigned.result ≡ sign_extended c.args.width c.args.value
value c =
    sign_extends c.args.width c.args.value (search rules) (search rules) (32 - c.args.width) (omega arith) c.cast_unsigned.result (search rules) (search rules)

pub returns-clause-value : goal.returns-clause-value
returns-clause-value c = value c

pub returns-clause-law : goal.returns-clause-law
returns-clause-law c = rw (value c) (copies_sign c.args.width c.args.value (search rules) (search rules))
