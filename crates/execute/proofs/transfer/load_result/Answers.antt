use Rattle.execute.proofs.Signs.{masked}
use Rattle.execute.proofs.transfer.load_result.Goals as goal

pub returns-in-ByteUnsigned-clause-law : goal.returns-in-ByteUnsigned-clause-law
returns-in-ByteUnsigned-clause-law c = rw c.in-ByteUnsigned.is (masked 8 c.args.value)

pub returns-in-HalfUnsigned-clause-law : goal.returns-in-HalfUnsigned-clause-law
returns-in-HalfUnsigned-clause-law c = rw c.in-HalfUnsigned.is (masked 16 c.args.value)
