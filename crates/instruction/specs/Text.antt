-- Registers and operations as text, in bytes.
use Rattle.std.specs.Prelude.{ℕ, Bool, true, false, List, ◌++◌, codes, decimal}
use Rattle.instruction.specs.declared.field.Register.{Register}
use Rattle.instruction.specs.declared.operation.LoadKind.{LoadKind}
use Rattle.instruction.specs.declared.operation.LoadKind.TheVariants as load
use Rattle.instruction.specs.declared.operation.StoreKind.{StoreKind}
use Rattle.instruction.specs.declared.operation.StoreKind.TheVariants as store
use Rattle.instruction.specs.declared.operation.AluOp.{AluOp}
use Rattle.instruction.specs.declared.operation.AluOp.TheVariants as alu
use Rattle.instruction.specs.declared.operation.ShiftOp.{ShiftOp}
use Rattle.instruction.specs.declared.operation.ShiftOp.TheVariants as shift
use Rattle.instruction.specs.declared.operation.Condition.{Condition}
use Rattle.instruction.specs.declared.operation.Condition.TheVariants as condition
use Rattle.instruction.specs.declared.operation.Relations.{Relations}
use Rattle.instruction.specs.declared.operation.SpecialRegister.{SpecialRegister}
use Rattle.instruction.specs.declared.operation.SpecialRegister.TheVariants.{Sr, Esr, Eca, Epc, Edpc, Edata}

-- r0 to r31
unfoldable pub register_text : Register → List ℕ
register_text r = codes "r" ++ decimal r.index

abbrev pub special_text : SpecialRegister → List ℕ
special_text Sr = codes "sr"
special_text Esr = codes "esr"
special_text Eca = codes "eca"
special_text Epc = codes "epc"
special_text Edpc = codes "edpc"
special_text Edata = codes "edata"

-- mnemonics; those of the form with an immediate have an i besides

abbrev pub load_text : LoadKind → List ℕ
load_text load.Byte = codes "lb"
load_text load.Half = codes "lh"
load_text load.Word = codes "lw"
load_text load.ByteUnsigned = codes "lbu"
load_text load.HalfUnsigned = codes "lhu"

abbrev pub store_text : StoreKind → List ℕ
store_text store.Byte = codes "sb"
store_text store.Half = codes "sh"
store_text store.Word = codes "sw"

abbrev pub alu_text : AluOp → List ℕ
alu_text alu.Add = codes "add"
alu_text alu.AddUnsigned = codes "addu"
alu_text alu.Sub = codes "sub"
alu_text alu.SubUnsigned = codes "subu"
alu_text alu.And = codes "and"
alu_text alu.Or = codes "or"
alu_text alu.Xor = codes "xor"

abbrev pub shift_text : ShiftOp → List ℕ
shift_text shift.Left = codes "sll"
shift_text shift.Right = codes "srl"
shift_text shift.RightArithmetic = codes "sra"

abbrev pub branch_text : Condition → List ℕ
branch_text condition.Zero = codes "beqz"
branch_text condition.NotZero = codes "bnez"

-- by whether the test asks for greater, for equal, for less
abbrev pub asking_text : (greater equal less : Bool) → List ℕ
asking_text false false false = codes "clr"
asking_text true false false = codes "sgr"
asking_text false true false = codes "seq"
asking_text true true false = codes "sge"
asking_text false false true = codes "sls"
asking_text true false true = codes "sne"
asking_text false true true = codes "sle"
asking_text true true true = codes "set"

abbrev pub test_text : Relations → List ℕ
test_text asked = asking_text asked.greater asked.equal asked.less
