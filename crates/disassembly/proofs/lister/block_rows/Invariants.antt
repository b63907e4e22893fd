use Rattle.std.proofs.Common.{◌≡◌, Some, vec_items}
use Rattle.image.specs.declared.reader.Reader.{Reader}
use Rattle.image.specs.Blocks.{reader_of}
use Rattle.image.specs.Reading.{reader_place}
use Rattle.image.proofs.Walk.{Walked}
use Rattle.disassembly.specs.Rows.{block_rows}
use Rattle.disassembly.proofs.lister.block_rows.Given as goal

-- the walk goes on, and the blocks before the reader's place have their rows
abbrev pub invariant-loop-block : goal.invariant-loop-block
invariant-loop-block l =
    (s : Reader)
    × (reader_of l.block-iterator ≡ Some s)
    × Walked l.image l.fn.ends s
    × (vec_items l.rows ≡ block_rows l.image (reader_place s))
