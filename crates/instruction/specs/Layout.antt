-- How an instruction stands in a word: which fields it uses, and what each holds. Every other bit of its word is 0.
use Rattle.std.specs.Prelude.{ℕ, ◌+◌, ◌*◌, ◌^◌, List, [], ◌∷◌}
use Rattle.instruction.specs.Fields.{Field, in_field, opcode_field, rs1_field, rd_i_field, immediate_field, rs2_field, rd_r_field, sa_field, function_field, offset_field}
use Rattle.instruction.specs.Codes.{load_code, store_code, branch_code, alu_code, shift_code, relations_code, special_number, bit}
use Rattle.instruction.specs.declared.instruction.Instruction.{Instruction}
use Rattle.instruction.specs.declared.instruction.Instruction.TheVariants.{Load, Store, AluImmediate, LoadHighImmediate, TestImmediate, Branch, JumpRegister, Jump, Trap, ReturnFromException, ShiftImmediate, Shift, ReadSpecial, WriteSpecial, Alu, LoadHigh, Test}

-- the fields of each form, the highest first, with their values; an R form with no shift amount

abbrev pub i_fields : (opcode rs1 rd imm : ℕ) → List (Field × ℕ)
i_fields opcode rs1 rd imm = (opcode_field, opcode) ∷ (rs1_field, rs1) ∷ (rd_i_field, rd) ∷ (immediate_field, imm) ∷ []

abbrev pub r_fields : (rs1 rs2 rd function : ℕ) → List (Field × ℕ)
r_fields rs1 rs2 rd function = (opcode_field, 0) ∷ (rs1_field, rs1) ∷ (rs2_field, rs2) ∷ (rd_r_field, rd) ∷ (function_field, function) ∷ []

abbrev pub j_fields : (opcode offset : ℕ) → List (Field × ℕ)
j_fields opcode offset = (opcode_field, opcode) ∷ (offset_field, offset) ∷ []

-- the fields that an instruction uses, the highest first, each with its value
abbrev pub layout : Instruction → List (Field × ℕ)
layout (Load kind rd rs1 imm) = i_fields (load_code kind) rs1.index rd.index imm.bits
layout (Store kind rd rs1 imm) = i_fields (store_code kind) rs1.index rd.index imm.bits
layout (AluImmediate op rd rs1 imm) = i_fields (0x08 + alu_code op) rs1.index rd.index imm.bits
layout (LoadHighImmediate rd imm) = (opcode_field, 0x0f) ∷ (rd_i_field, rd.index) ∷ (immediate_field, imm.bits) ∷ []
layout (TestImmediate asked rd rs1 imm) = i_fields (0x18 + relations_code asked) rs1.index rd.index imm.bits
layout (Branch condition rs1 imm) = (opcode_field, branch_code condition) ∷ (rs1_field, rs1.index) ∷ (immediate_field, imm.bits) ∷ []
layout (JumpRegister link rs1) = (opcode_field, 0x16 + bit link) ∷ (rs1_field, rs1.index) ∷ []
layout (Jump link offset) = j_fields (0x02 + bit link) offset.bits
layout (Trap offset) = j_fields 0x3e offset.bits
layout ReturnFromException = (opcode_field, 0x3f) ∷ []
layout (ShiftImmediate op rd rs1 amount) = (opcode_field, 0) ∷ (rs1_field, rs1.index) ∷ (rd_r_field, rd.index) ∷ (sa_field, amount.bits) ∷ (function_field, shift_code op) ∷ []
layout (Shift op rd rs1 rs2) = r_fields rs1.index rs2.index rd.index (0x04 + shift_code op)
layout (ReadSpecial rd special) = (opcode_field, 0) ∷ (rd_r_field, rd.index) ∷ (sa_field, special_number special) ∷ (function_field, 0x10) ∷ []
layout (WriteSpecial special rs1) = (opcode_field, 0) ∷ (rs1_field, rs1.index) ∷ (sa_field, special_number special) ∷ (function_field, 0x11) ∷ []
layout (Alu op rd rs1 rs2) = r_fields rs1.index rs2.index rd.index (0x20 + alu_code op)
layout (LoadHigh rd rs2) = (opcode_field, 0) ∷ (rs2_field, rs2.index) ∷ (rd_r_field, rd.index) ∷ (function_field, 0x27) ∷ []
layout (Test asked rd rs1 rs2) = r_fields rs1.index rs2.index rd.index (0x28 + relations_code asked)

-- the word that has each value in its field, and 0 elsewhere
abbrev pub placed : List (Field × ℕ) → ℕ
placed [] = 0
placed (part ∷ parts) = part.1 * 2 ^ part.0.low + placed parts

-- what is left of w where the bits of some fields are kept and every other bit is put to 0
abbrev pub kept : List (Field × ℕ) → ℕ → ℕ
kept [] w = 0
kept (part ∷ parts) w = in_field part.0 w * 2 ^ part.0.low + kept parts w

-- the word of an instruction
unfoldable pub word_of : Instruction → ℕ
word_of i = placed (layout i)
