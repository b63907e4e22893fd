-- The table of instructions: by its opcode and, where that is 0, its function, a word reads as an instruction or is illegal.
use Rattle.std.specs.Prelude.{ℕ, ◌/◌, Bool, true, false, if◌then◌else◌, List, [], ◌∷◌, Some, Option, option_map, option_and_then, ◌==◌}
use Rattle.instruction.specs.Fields.{in_field, opcode_field, rs1_field, rd_i_field, rs2_field, rd_r_field, sa_field, function_field, register_at, amount_at, immediate_of, offset_of}
use Rattle.instruction.specs.Codes.{relations_at, found, special_of}
use Rattle.instruction.specs.declared.instruction.Instruction.{Instruction}
use Rattle.instruction.specs.declared.instruction.Instruction.TheVariants.{Load, Store, AluImmediate, LoadHighImmediate, TestImmediate, Branch, JumpRegister, Jump, Trap, ReturnFromException, ShiftImmediate, Shift, ReadSpecial, WriteSpecial, Alu, LoadHigh, Test}
use Rattle.instruction.specs.declared.operation.LoadKind.{LoadKind}
use Rattle.instruction.specs.declared.operation.LoadKind.TheVariants as load
use Rattle.instruction.specs.declared.operation.StoreKind.{StoreKind}
use Rattle.instruction.specs.declared.operation.StoreKind.TheVariants as store
use Rattle.instruction.specs.declared.operation.AluOp.{AluOp}
use Rattle.instruction.specs.declared.operation.AluOp.TheVariants as alu
use Rattle.instruction.specs.declared.operation.ShiftOp.{ShiftOp}
use Rattle.instruction.specs.declared.operation.ShiftOp.TheVariants as shift
use Rattle.instruction.specs.declared.operation.Condition.{Condition}
use Rattle.instruction.specs.declared.operation.Condition.TheVariants as condition

-- what a row makes of a word
abbrev pub Reader : Type 0
Reader = ℕ → Option Instruction

-- by the row of a code, if there is one
abbrev pub read_by : List (ℕ × Reader) → ℕ → Reader
read_by rows code w = option_and_then (λ (read : Reader). read w) (found code rows)

-- rows of the I and J forms

abbrev pub loads : LoadKind → Reader
loads kind w = Some (Load kind (register_at rd_i_field w) (register_at rs1_field w) (immediate_of w))

abbrev pub stores : StoreKind → Reader
stores kind w = Some (Store kind (register_at rd_i_field w) (register_at rs1_field w) (immediate_of w))

abbrev pub alus_immediate : AluOp → Reader
alus_immediate op w = Some (AluImmediate op (register_at rd_i_field w) (register_at rs1_field w) (immediate_of w))

abbrev pub loads_high_immediate : Reader
loads_high_immediate w = Some (LoadHighImmediate (register_at rd_i_field w) (immediate_of w))

abbrev pub tests_immediate : ℕ → Reader
tests_immediate code w = Some (TestImmediate (relations_at code) (register_at rd_i_field w) (register_at rs1_field w) (immediate_of w))

abbrev pub branches : Condition → Reader
branches condition w = Some (Branch condition (register_at rs1_field w) (immediate_of w))

abbrev pub jumps_register : Bool → Reader
jumps_register link w = Some (JumpRegister link (register_at rs1_field w))

abbrev pub jumps : Bool → Reader
jumps link w = Some (Jump link (offset_of w))

abbrev pub traps : Reader
traps w = Some (Trap (offset_of w))

abbrev pub returns : Reader
returns w = Some ReturnFromException

abbrev pub opcodes : List (ℕ × Reader)
opcodes =
    (0x02, jumps false) ∷ (0x03, jumps true)
    ∷ (0x04, branches condition.Zero) ∷ (0x05, branches condition.NotZero)
    ∷ (0x08, alus_immediate alu.Add) ∷ (0x09, alus_immediate alu.AddUnsigned)
    ∷ (0x0a, alus_immediate alu.Sub) ∷ (0x0b, alus_immediate alu.SubUnsigned)
    ∷ (0x0c, alus_immediate alu.And) ∷ (0x0d, alus_immediate alu.Or) ∷ (0x0e, alus_immediate alu.Xor)
    ∷ (0x0f, loads_high_immediate)
    ∷ (0x16, jumps_register false) ∷ (0x17, jumps_register true)
    ∷ (0x20, loads load.Byte) ∷ (0x21, loads load.Half) ∷ (0x23, loads load.Word)
    ∷ (0x24, loads load.ByteUnsigned) ∷ (0x25, loads load.HalfUnsigned)
    ∷ (0x28, stores store.Byte) ∷ (0x29, stores store.Half) ∷ (0x2b, stores store.Word)
    ∷ (0x3e, traps) ∷ (0x3f, returns) ∷ []

-- rows of the R form

abbrev pub shifts_immediate : ShiftOp → Reader
shifts_immediate op w = Some (ShiftImmediate op (register_at rd_r_field w) (register_at rs1_field w) (amount_at sa_field w))

abbrev pub shifts : ShiftOp → Reader
shifts op w = Some (Shift op (register_at rd_r_field w) (register_at rs1_field w) (register_at rs2_field w))

-- where no special register has the number that SA holds, the word is illegal

abbrev pub reads_special : Reader
reads_special w = option_map (λ special. ReadSpecial (register_at rd_r_field w) special) (special_of (in_field sa_field w))

abbrev pub writes_special : Reader
writes_special w = option_map (λ special. WriteSpecial special (register_at rs1_field w)) (special_of (in_field sa_field w))

abbrev pub alus : AluOp → Reader
alus op w = Some (Alu op (register_at rd_r_field w) (register_at rs1_field w) (register_at rs2_field w))

abbrev pub loads_high : Reader
loads_high w = Some (LoadHigh (register_at rd_r_field w) (register_at rs2_field w))

abbrev pub tests : ℕ → Reader
tests code w = Some (Test (relations_at code) (register_at rd_r_field w) (register_at rs1_field w) (register_at rs2_field w))

abbrev pub functions : List (ℕ × Reader)
functions =
    (0x00, shifts_immediate shift.Left) ∷ (0x02, shifts_immediate shift.Right) ∷ (0x03, shifts_immediate shift.RightArithmetic)
    ∷ (0x04, shifts shift.Left) ∷ (0x06, shifts shift.Right) ∷ (0x07, shifts shift.RightArithmetic)
    ∷ (0x10, reads_special) ∷ (0x11, writes_special)
    ∷ (0x20, alus alu.Add) ∷ (0x21, alus alu.AddUnsigned) ∷ (0x22, alus alu.Sub) ∷ (0x23, alus alu.SubUnsigned)
    ∷ (0x24, alus alu.And) ∷ (0x25, alus alu.Or) ∷ (0x26, alus alu.Xor)
    ∷ (0x27, loads_high) ∷ []

-- the eight tests stand at 0x28 to 0x2f of the functions, and at 0x18 to 0x1f of the opcodes

abbrev pub by_function : ℕ → Reader
by_function code w = if code / 8 == 5 then tests code w else read_by functions code w

abbrev pub by_opcode : ℕ → Reader
by_opcode code w =
    if code == 0 then by_function (in_field function_field w) w
    else if code / 8 == 3 then tests_immediate code w else read_by opcodes code w

-- the instruction of a word, or none where the word is illegal
unfoldable pub decoded_of : Reader
decoded_of w = by_opcode (in_field opcode_field w) w
