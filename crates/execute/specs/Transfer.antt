-- Loads and stores: their widths, and what a load leaves in its register.
use Rattle.std.specs.Prelude.{◌≡◌, ℕ, ◌*◌, ◌%◌, ◌^◌, Bool, ◌==◌}
use Rattle.std.specs.Int.{bit_at}
use Rattle.instruction.specs.declared.operation.LoadKind.{LoadKind}
use Rattle.instruction.specs.declared.operation.LoadKind.TheVariants as load
use Rattle.instruction.specs.declared.operation.StoreKind.{StoreKind}
use Rattle.instruction.specs.declared.operation.StoreKind.TheVariants as store
use Rattle.execute.specs.Words.{plus}
use Rattle.execute.specs.Extension.{sign_extended, FilledWith}
use Rattle.execute.specs.declared.transfer.Width.{Width}
use Rattle.execute.specs.declared.transfer.Width.TheVariants.{Byte, Half, Word}

-- how many bytes a width has
abbrev pub width_bytes : Width → ℕ
width_bytes Byte = 1
width_bytes Half = 2
width_bytes Word = 4

-- whether an address is a multiple of a width, as a test
abbrev pub width_divides : Width → (address : ℕ) → Bool
width_divides width address = address % width_bytes width == 0

-- n is a multiple of m, as a statement
abbrev pub Multiple : (m n : ℕ) → Type 0
Multiple m n = (q : ℕ) × (q * m ≡ n)

-- the width of lb and lbu, of lh and lhu, and of lw
abbrev pub load_width : LoadKind → Width
load_width load.Byte = Byte
load_width load.Half = Half
load_width load.Word = Word
load_width load.ByteUnsigned = Byte
load_width load.HalfUnsigned = Half

-- the width of sb, of sh, and of sw
abbrev pub store_width : StoreKind → Width
store_width store.Byte = Byte
store_width store.Half = Half
store_width store.Word = Word

-- where a load or a store goes
abbrev pub address_of : (base constant : ℕ) → ℕ
address_of base constant = plus base constant

-- what a load leaves in its register, from the loaded bytes as one number, the byte at the lowest address in bits 7 to 0
abbrev pub load_result : LoadKind → (value : ℕ) → ℕ
load_result load.Byte value = sign_extended 8 value
load_result load.Half value = sign_extended 16 value
load_result load.Word value = value
load_result load.ByteUnsigned value = value % 2 ^ 8
load_result load.HalfUnsigned value = value % 2 ^ 16

-- what a load puts into the bits above those it loaded: copies of the highest one, or 0
abbrev pub filling : LoadKind → (value : ℕ) → ℕ
filling load.Byte value = bit_at value 7
filling load.Half value = bit_at value 15
filling load.Word value = 0
filling load.ByteUnsigned value = 0
filling load.HalfUnsigned value = 0

-- the law of the loads: as many low bits as were loaded, and the filling above them
abbrev pub Loaded : LoadKind → (value r : ℕ) → Type 0
Loaded kind value r = FilledWith (filling kind value) (8 * width_bytes (load_width kind)) value r
