-- The code of each operation. Groups that stand in both forms count from their group's first code.
use Rattle.std.specs.Prelude.{ℕ, ◌+◌, ◌*◌, ◌/◌, ◌%◌, Bool, true, false, List, [], ◌∷◌, find, Option, option_map, ◌==◌}
use Rattle.instruction.specs.declared.operation.LoadKind.{LoadKind}
use Rattle.instruction.specs.declared.operation.LoadKind.TheVariants as load
use Rattle.instruction.specs.declared.operation.StoreKind.{StoreKind}
use Rattle.instruction.specs.declared.operation.StoreKind.TheVariants as store
use Rattle.instruction.specs.declared.operation.AluOp.{AluOp}
use Rattle.instruction.specs.declared.operation.AluOp.TheVariants as alu
use Rattle.instruction.specs.declared.operation.ShiftOp.{ShiftOp}
use Rattle.instruction.specs.declared.operation.ShiftOp.TheVariants as shift
use Rattle.instruction.specs.declared.operation.Condition.{Condition}
use Rattle.instruction.specs.declared.operation.Condition.TheVariants as condition
use Rattle.instruction.specs.declared.operation.Relations.{Relations}
use Rattle.instruction.specs.declared.operation.SpecialRegister.{SpecialRegister}
use Rattle.instruction.specs.declared.operation.SpecialRegister.TheVariants.{Sr, Esr, Eca, Epc, Edpc, Edata}

-- opcodes of loads: lb, lh, lw, lbu, lhu
abbrev pub load_code : LoadKind → ℕ
load_code load.Byte = 0x20
load_code load.Half = 0x21
load_code load.Word = 0x23
load_code load.ByteUnsigned = 0x24
load_code load.HalfUnsigned = 0x25

-- opcodes of stores: sb, sh, sw
abbrev pub store_code : StoreKind → ℕ
store_code store.Byte = 0x28
store_code store.Half = 0x29
store_code store.Word = 0x2b

-- opcodes of branches: beqz, bnez
abbrev pub branch_code : Condition → ℕ
branch_code condition.Zero = 0x04
branch_code condition.NotZero = 0x05

-- from addi, 0x08, and from add, 0x20
abbrev pub alu_code : AluOp → ℕ
alu_code alu.Add = 0
alu_code alu.AddUnsigned = 1
alu_code alu.Sub = 2
alu_code alu.SubUnsigned = 3
alu_code alu.And = 4
alu_code alu.Or = 5
alu_code alu.Xor = 6

-- from slli, 0x00, and from sll, 0x04
abbrev pub shift_code : ShiftOp → ℕ
shift_code shift.Left = 0
shift_code shift.Right = 2
shift_code shift.RightArithmetic = 3

abbrev pub bit : Bool → ℕ
bit false = 0
bit true = 1

-- from the first test, 0x18 and 0x28: bit 0 asks for greater, bit 1 for equal, bit 2 for less
abbrev pub relations_code : Relations → ℕ
relations_code asked = bit asked.greater + 2 * bit asked.equal + 4 * bit asked.less

abbrev pub relations_at : ℕ → Relations
relations_at code = record { greater = (code % 2 == 1); equal = (code / 2 % 2 == 1); less = (code / 4 % 2 == 1) }

-- special registers by number
abbrev pub special_number : SpecialRegister → ℕ
special_number Sr = 0
special_number Esr = 1
special_number Eca = 2
special_number Epc = 3
special_number Edpc = 4
special_number Edata = 5

-- what stands beside n in a table, if n does
abbrev pub found : {X : Type 0} → ℕ → List (ℕ × X) → Option X
found {X} n rows = option_map (λ (row : ℕ × X). row.1) (find (λ (row : ℕ × X). row.0 == n) rows)

-- the special register that has a number, if one has it
abbrev pub special_of : ℕ → Option SpecialRegister
special_of n = find (λ special. special_number special == n) (Sr ∷ Esr ∷ Eca ∷ Epc ∷ Edpc ∷ Edata ∷ [])
