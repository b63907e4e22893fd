use Rattle.std.proofs.Common.{◌≡◌, Some}
use Rattle.image.specs.declared.reader.Reader.{Reader}
use Rattle.image.specs.Blocks.{reader_of}
use Rattle.image.specs.Reading.{reader_place}
use Rattle.image.specs.Load.{ends_of, words_after, bytes_after}
use Rattle.image.proofs.Walk.{Walked}
use Rattle.image.proofs.loader.put_blocks.Given as goal

-- the walk goes on, and the blocks before the reader's place are put
abbrev pub invariant-loop-block : goal.invariant-loop-block
invariant-loop-block l =
    (s : Reader)
    × (reader_of l.block-iterator ≡ Some s)
    × Walked l.image (ends_of l.initial.program l.initial.«data») s
    × (l.program ≡ words_after l.image (reader_place s) l.initial.program)
    × (l.«data» ≡ bytes_after l.image (reader_place s) l.initial.«data»)
