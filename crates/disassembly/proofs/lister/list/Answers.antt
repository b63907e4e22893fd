use Rattle.std.proofs.Common.{rules}
use Rattle.disassembly.proofs.Law.{listed_law}
use Rattle.disassembly.proofs.lister.list.Goals as goal

pub returns-clause-law : goal.returns-clause-law
returns-clause-law c =
    listed_law c.args.image.now c.load.new.program c.load.new.data
    (record { blocks = c.in_ok-blocks.blocks; words = c.word_rows.new.words; data_bytes = c.covered_bytes-data_bytes.result })
    (search rules)
