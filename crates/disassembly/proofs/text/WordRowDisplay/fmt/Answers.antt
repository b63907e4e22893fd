use Rattle.std.proofs.Common.{sym, ◌∙◌, arith}
use Rattle.disassembly.proofs.Hex.{hex_eight}
use Rattle.disassembly.proofs.text.WordRowDisplay.fmt.Goals as goal

pub returns-in-Some-clause-writes : goal.returns-in-Some-clause-writes
returns-in-Some-clause-writes g c =
    let address = hex_eight c.args.self.now.address (omega arith) in
    let word = hex_eight c.args.self.now.word (omega arith) in
    rw (sym c.decode.ensures.value ∙ c.in-Some.is)
    (rw (c.laid_out.ensures, c.in_radix.ensures, c.laid_out-in-Some.ensures, c.in_radix-in-Some.ensures, address, word) at c.write.ensures.writes)

pub returns-in-None-clause-writes : goal.returns-in-None-clause-writes
returns-in-None-clause-writes g c =
    let address = hex_eight c.args.self.now.address (omega arith) in
    let word = hex_eight c.args.self.now.word (omega arith) in
    rw (sym c.decode.ensures.value ∙ c.in-None.is)
    (rw (c.laid_out-in-None.ensures, c.in_radix-in-None.ensures, c.laid_out-in-None-2.ensures, c.in_radix-in-None-2.ensures, address, word) at c.write-in-None.ensures.writes)
