use Rattle.std.proofs.Common.{◌≡◌, Some}
use Rattle.image.specs.declared.reader.Reader.{Reader}
use Rattle.image.specs.Blocks.{reader_of}
use Rattle.image.proofs.Walk.{Walked}
use Rattle.image.proofs.reader.check.Given as goal

abbrev pub invariant-loop-block : goal.invariant-loop-block
invariant-loop-block l = (s : Reader) × (reader_of l.block-iterator ≡ Some s) × Walked l.image l.fn.ends s
