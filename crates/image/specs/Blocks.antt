-- What the blocks of a reader give, one after the other.
use Rattle.std.specs.Prelude.{ℕ, ◌-◌, Some, None, Ok, Err, Option, Result}
use Rattle.std.specs.Iterator.{Count, at_most}
use Rattle.image.specs.declared.Refusal.{Refusal}
use Rattle.image.specs.declared.block.Block.{Block}
use Rattle.image.specs.declared.reader.Reader.{Reader}
use Rattle.image.specs.declared.reader.Blocks.{Blocks}
use Rattle.image.specs.Format.{block_count}
use Rattle.image.specs.Reading.{reader_image, reader_place, Stepped}

-- The reader, which is gone after its last block and after a refusal.
abbrev pub reader_of : Blocks → Option Reader
reader_of blocks = blocks.reader

-- A step of the reader, or nothing where it is gone.
abbrev pub YieldedBy : Option Reader → Option (Result Block Refusal) → Option Reader → Type 0
YieldedBy (Some s) (Some (Ok block)) (Some t) = Stepped s (Ok (Some block)) t
YieldedBy (Some s) (Some (Err r)) None = (t : Reader) × Stepped s (Err r) t
YieldedBy (Some s) None None = (t : Reader) × Stepped s (Ok None) t
YieldedBy None None None = Unit {0}
YieldedBy _ _ _ = ⊥

abbrev pub Yielded : Blocks → Option (Result Block Refusal) → Blocks → Type 0
Yielded blocks item rest = YieldedBy (reader_of blocks) item (reader_of rest)

-- At most one item comes for each block that is left.
abbrev pub left_of : Option Reader → ℕ
left_of None = 0
left_of (Some s) = block_count (reader_image s) - reader_place s

abbrev pub blocks_left : Blocks → Count
blocks_left blocks = at_most (left_of (reader_of blocks))
