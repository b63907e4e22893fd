-- The assembly notation: the text of an instruction, as bytes.
use Rattle.std.specs.Prelude.{ℕ, ◌-◌, ◌*◌, ◌^◌, if◌then◌else◌, List, [], ◌∷◌, ◌++◌, codes, decimal, nat_lt}
use Rattle.instruction.specs.Text.{register_text, special_text, load_text, store_text, alu_text, shift_text, branch_text, test_text}
use Rattle.instruction.specs.declared.field.Immediate.{Immediate}
use Rattle.instruction.specs.declared.field.Offset.{Offset}
use Rattle.instruction.specs.declared.field.Register.{Register}
use Rattle.instruction.specs.declared.instruction.Instruction.{Instruction}
use Rattle.instruction.specs.declared.instruction.Instruction.TheVariants.{Load, Store, AluImmediate, LoadHighImmediate, TestImmediate, Branch, JumpRegister, Jump, Trap, ReturnFromException, ShiftImmediate, Shift, ReadSpecial, WriteSpecial, Alu, LoadHigh, Test}
use Rattle.instruction.specs.declared.operation.AluOp.{AluOp}
use Rattle.instruction.specs.declared.operation.AluOp.TheVariants as alu
use Rattle.instruction.specs.declared.operation.ShiftOp.{ShiftOp}
use Rattle.instruction.specs.declared.operation.Relations.{Relations}

-- bits as a signed number, in decimal: from the half of their range on they mean a negative one
unfoldable pub signed_text : (half bits : ℕ) → List ℕ
signed_text half bits = if nat_lt bits half then decimal bits else codes "-" ++ decimal (2 * half - bits)

abbrev pub immediate_text : Immediate → List ℕ
immediate_text imm = signed_text (2 ^ 15) imm.bits

abbrev pub offset_text : Offset → List ℕ
offset_text offset = signed_text (2 ^ 25) offset.bits

-- parts of a text one after another

abbrev followed : List ℕ → List (List ℕ) → List ℕ
followed part [] = part
followed part (next ∷ parts) = part ++ followed next parts

abbrev pub text_of : List (List ℕ) → List ℕ
text_of [] = []
text_of (part ∷ parts) = followed part parts

-- the operand of a load or a store
abbrev pub indexed_text : Immediate → Register → List ℕ
indexed_text imm base = text_of (immediate_text imm ∷ codes "(" ∷ register_text base ∷ codes ")" ∷ [])

-- mnemonics of the form with an immediate; the i stands before the u

abbrev pub alu_immediate_text : AluOp → List ℕ
alu_immediate_text alu.Add = codes "addi"
alu_immediate_text alu.AddUnsigned = codes "addiu"
alu_immediate_text alu.Sub = codes "subi"
alu_immediate_text alu.SubUnsigned = codes "subiu"
alu_immediate_text alu.And = codes "andi"
alu_immediate_text alu.Or = codes "ori"
alu_immediate_text alu.Xor = codes "xori"

abbrev pub test_immediate_text : Relations → List ℕ
test_immediate_text asked = test_text asked ++ codes "i"

abbrev pub shift_immediate_text : ShiftOp → List ℕ
shift_immediate_text op = shift_text op ++ codes "i"

-- a mnemonic with one, two and three operands

abbrev pub one : (name a : List ℕ) → List ℕ
one name a = text_of (name ∷ codes " " ∷ a ∷ [])

abbrev pub two : (name a b : List ℕ) → List ℕ
two name a b = text_of (name ∷ codes " " ∷ a ∷ codes ", " ∷ b ∷ [])

abbrev pub three : (name a b c : List ℕ) → List ℕ
three name a b c = text_of (name ∷ codes " " ∷ a ∷ codes ", " ∷ b ∷ codes ", " ∷ c ∷ [])

-- the text of an instruction
abbrev pub notation_of : Instruction → List ℕ
notation_of (Load kind rd rs1 imm) = two (load_text kind) (register_text rd) (indexed_text imm rs1)
notation_of (Store kind rd rs1 imm) = two (store_text kind) (indexed_text imm rs1) (register_text rd)
notation_of (AluImmediate op rd rs1 imm) = three (alu_immediate_text op) (register_text rd) (register_text rs1) (immediate_text imm)
notation_of (LoadHighImmediate rd imm) = two (codes "lhgi") (register_text rd) (decimal imm.bits)
notation_of (TestImmediate asked rd rs1 imm) = three (test_immediate_text asked) (register_text rd) (register_text rs1) (immediate_text imm)
notation_of (Branch condition rs1 imm) = two (branch_text condition) (register_text rs1) (immediate_text imm)
notation_of (JumpRegister link rs1) = one (if link then codes "jalr" else codes "jr") (register_text rs1)
notation_of (Jump link offset) = one (if link then codes "jal" else codes "j") (offset_text offset)
notation_of (Trap offset) = one (codes "trap") (offset_text offset)
notation_of ReturnFromException = codes "rfe"
notation_of (ShiftImmediate op rd rs1 amount) = three (shift_immediate_text op) (register_text rd) (register_text rs1) (decimal amount.bits)
notation_of (Shift op rd rs1 rs2) = three (shift_text op) (register_text rd) (register_text rs1) (register_text rs2)
notation_of (ReadSpecial rd special) = two (codes "movs2i") (register_text rd) (special_text special)
notation_of (WriteSpecial special rs1) = two (codes "movi2s") (special_text special) (register_text rs1)
notation_of (Alu op rd rs1 rs2) = three (alu_text op) (register_text rd) (register_text rs1) (register_text rs2)
notation_of (LoadHigh rd rs2) = two (codes "lhg") (register_text rd) (register_text rs2)
notation_of (Test asked rd rs1 rs2) = three (test_text asked) (register_text rd) (register_text rs1) (register_text rs2)
