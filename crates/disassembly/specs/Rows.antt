-- The rows of a listing: one for each block, and one for each program word that a block wrote.
use Rattle.std.specs.Prelude.{◌≡◌, ℕ, zero, suc, ◌+◌, ◌*◌, ◌/◌, ◌%◌, ◌^◌, Bool, if◌then◌else◌, ◌&&◌, List, [], ◌∷◌, ◌++◌, length, Some, None, Ok, Err, vec_items, Result, Vec, ◌==◌, count_by, nat_le, nat_lt, slice_index}
use Rattle.std.specs.List.{list_any, range_with_len}
use Rattle.std.specs.declared.alloc.Global.{Global}
use Rattle.image.specs.Format.{block_at, block_count, kind_byte, kind_number, address_of, count_of}
use Rattle.image.specs.Load.{Loaded}
use Rattle.image.specs.Rules.{first_refusal}
use Rattle.image.specs.declared.Ends.{Ends}
use Rattle.image.specs.declared.block.Block.{Block}
use Rattle.image.specs.declared.Kind.{Kind}
use Rattle.image.specs.declared.Kind.TheVariants.{Program, Data, End}
use Rattle.disassembly.specs.declared.rows.BlockRow.{BlockRow}
use Rattle.disassembly.specs.declared.rows.WordRow.{WordRow}
use Rattle.disassembly.specs.declared.rows.Listing.{Listing}
use Rattle.disassembly.specs.declared.rows.ListError.{ListError}
use Rattle.disassembly.specs.declared.rows.ListError.TheVariants.{Refused, OutOfMemory}

-- the kind that a byte says, in a block that breaks no rule
abbrev pub kind_of : ℕ → Kind
kind_of byte = if byte == 1 then Program else (if byte == 2 then Data else End)

-- the row of a block
abbrev pub row_of : Block → BlockRow
row_of block = record {
  place = block.place;
  kind = block.kind;
  address = block.address;
  count = length block.payload.now;
}

-- the row of the block at a place
abbrev pub block_row : List ℕ → ℕ → BlockRow
block_row image place = record {
  place = place;
  kind = kind_of (kind_byte (block_at image place));
  address = address_of (block_at image place);
  count = count_of (block_at image place);
}

-- the rows of the first n blocks, in file order
unfoldable pub block_rows : List ℕ → ℕ → List BlockRow
block_rows image zero = []
block_rows image (suc n) = block_rows image n ++ block_row image n ∷ []

-- the rows of all blocks, or the refusal that the image gets, or want of memory
abbrev pub BlocksListed : List ℕ → Ends → Result (Vec BlockRow Global) ListError → Type 0
BlocksListed image ends (Ok rows) = (first_refusal image ends ≡ None) × (vec_items rows ≡ block_rows image (block_count image))
BlocksListed image ends (Err (Refused refusal)) = first_refusal image ends ≡ Some refusal
BlocksListed image ends (Err OutOfMemory) = Unit {0}

-- the bytes of a cell of the memory that a kind of block is for
abbrev pub cell_bytes : Kind → ℕ
cell_bytes Program = 4
cell_bytes Data = 1
cell_bytes End = 1

-- whether a block of a kind covers the cell k of its memory, which has cells of `unit` bytes
abbrev pub covers : Kind → (unit : ℕ) → ℕ → BlockRow → Bool
covers kind unit k row =
    (kind_number row.kind == kind_number kind)
    && (nat_le (row.address / unit) k && nat_lt k (row.address / unit + row.count / unit))

-- whether one of some blocks does
abbrev pub covered : Kind → (unit : ℕ) → ℕ → List BlockRow → Bool
covered kind unit k = list_any (covers kind unit k)

-- the covered ones among the first n program words, in address order
unfoldable pub word_rows : List BlockRow → List ℕ → ℕ → List WordRow
word_rows rows words zero = []
word_rows rows words (suc n) =
    word_rows rows words n ++ (if covered Program 4 n rows then record { address = 4 * n % 2 ^ 32; word = slice_index words n } ∷ [] else [])

-- how many of the first n data bytes are covered
unfoldable pub covered_bytes : List BlockRow → ℕ → ℕ
covered_bytes rows n = count_by (λ k. covered Data 1 k rows) (range_with_len 0 n)

-- the listing of an image, with what its program words and data bytes hold after loading
pub record Lists (image program bytes : List ℕ) (listing : Listing) : Type 0 where
  pub blocks_are : vec_items listing.blocks ≡ block_rows image (block_count image)
  pub words_are : vec_items listing.words ≡ word_rows (block_rows image (block_count image)) program (length program)
  pub bytes_are : listing.data_bytes ≡ covered_bytes (block_rows image (block_count image)) (length bytes)

-- an image is loaded and listed, or refused; a refusal and want of memory change nothing
abbrev pub Listed : List ℕ → List ℕ → List ℕ → Result Listing ListError → List ℕ → List ℕ → Type 0
Listed image program bytes (Ok listing) program' bytes' =
    Loaded image program bytes (Ok tt) program' bytes' × Lists image program' bytes' listing
Listed image program bytes (Err (Refused refusal)) program' bytes' = Loaded image program bytes (Err refusal) program' bytes'
Listed image program bytes (Err OutOfMemory) program' bytes' = (program' ≡ program) × (bytes' ≡ bytes)
