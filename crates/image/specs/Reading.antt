-- What the reader of an image answers, block by block.
use Rattle.std.specs.Prelude.{◌≡◌, ℕ, ◌+◌, ◌<◌, ◌≤◌, Bool, true, false, List, length, Some, None, Ok, Err, Option, Result}
use Rattle.image.specs.declared.Ends.{Ends}
use Rattle.image.specs.declared.Fault.{Fault}
use Rattle.image.specs.declared.Fault.TheVariants.{Size, Kind as KindFault}
use Rattle.image.specs.declared.Kind.{Kind}
use Rattle.image.specs.declared.Refusal.{Refusal}
use Rattle.image.specs.declared.block.Block.{Block}
use Rattle.image.specs.declared.reader.Reader.{Reader}
use Rattle.image.specs.Format.{block_count, block_at, kind_byte, kind_number, count_of, address_of, payload_of}
use Rattle.image.specs.Rules.{wrong_size, wrong_kind, fault_of, fault_at, refusing}

-- The parts of a reader: its image, the memories' ends, and the place of the next block.
abbrev pub reader_image : Reader → List ℕ
reader_image s = s.image.now

abbrev pub reader_ends : Reader → Ends
reader_ends s = s.ends

abbrev pub reader_place : Reader → ℕ
reader_place s = s.place

-- A block is what the bytes at its place say.
pub record Holds (bytes : List ℕ) (at : ℕ) (block : Block) : Type 0 where
  pub placed : block.place ≡ at
  pub kind_is : kind_number block.kind ≡ kind_byte bytes
  pub address_is : block.address ≡ address_of bytes
  pub payload_is : block.payload.now ≡ payload_of bytes
  pub count_is : length block.payload.now ≡ count_of bytes

-- What the look at one rule answers: what it reads, where the rule is kept, or the rule's fault.
abbrev pub Ruled : {T : Type 0} → Bool → Fault → (T → Type 0) → Result T Fault → Type 0
Ruled wrong fault Reads (Ok value) = (wrong ≡ false) × Reads value
Ruled wrong fault Reads (Err f) = (wrong ≡ true) × (f ≡ fault)

-- The kind that a byte says, where it says one.
abbrev pub ReadsKind : ℕ → Result Kind Fault → Type 0
ReadsKind byte = Ruled (wrong_kind byte 0) KindFault (λ kind. kind_number kind ≡ byte)

-- A block read from its bytes, or the first rule that it breaks.
abbrev pub Parsed : List ℕ → ℕ → Bool → Ends → Result Block Fault → Type 0
Parsed bytes place last ends (Ok block) = (fault_of bytes place last ends ≡ None) × Holds bytes place block
Parsed bytes place last ends (Err f) = fault_of bytes place last ends ≡ Some f

-- A reader that is opened on an image stands at its first block. An image of a wrong size is refused.
pub record OpenedAt (image : List ℕ) (ends : Ends) (s : Reader) : Type 0 where
  pub sized : wrong_size image ≡ false
  pub over : reader_image s ≡ image
  pub against : reader_ends s ≡ ends
  pub at_first : reader_place s ≡ 0

abbrev pub Opened : List ℕ → Ends → Result Reader Refusal → Type 0
Opened image ends (Ok s) = OpenedAt image ends s
Opened image ends (Err r) = (wrong_size image ≡ true) × (refusing 0 (Some Size) ≡ Some r)

-- A step from the reader s to t keeps the image and the ends, and leaves the reader at a place.
pub record Moved (s t : Reader) (place : ℕ) : Type 0 where
  pub same_image : reader_image t ≡ reader_image s
  pub same_ends : reader_ends t ≡ reader_ends s
  pub at_place : reader_place t ≡ place

-- It gives the block at the reader's place, which breaks no rule, and goes on.
pub record Gave (s t : Reader) (block : Block) : Type 0 where
  pub inside : reader_place s < block_count (reader_image s)
  pub unbroken : fault_at (reader_image s) (reader_ends s) (reader_place s) ≡ None
  pub holds : Holds (block_at (reader_image s) (reader_place s)) (reader_place s) block
  pub moved : Moved s t (reader_place s + 1)

-- Or it refuses that block by the first rule that it breaks, and stays.
pub record Refusing (s t : Reader) (r : Refusal) : Type 0 where
  pub inside : reader_place s < block_count (reader_image s)
  pub broken : refusing (reader_place s) (fault_at (reader_image s) (reader_ends s) (reader_place s)) ≡ Some r
  pub stayed : Moved s t (reader_place s)

-- Or the last block is passed.
pub record Done (s t : Reader) : Type 0 where
  pub past : block_count (reader_image s) ≤ reader_place s
  pub stayed : Moved s t (reader_place s)

abbrev pub Stepped : Reader → Result (Option Block) Refusal → Reader → Type 0
Stepped s (Ok (Some block)) t = Gave s t block
Stepped s (Ok None) t = Done s t
Stepped s (Err r) t = Refusing s t r
