use Rattle.std.proofs.Common.{arith}
use Rattle.image.proofs.Cover.{bytes_put}
use Rattle.image.proofs.loader.put_bytes.Goals as goal

pub returns : goal.returns
returns c = bytes_put c.args.data.now c.copy_from_slice.new.self c.args.payload.now c.args.at _ c.copy_from_slice.ensures.after (omega arith)
