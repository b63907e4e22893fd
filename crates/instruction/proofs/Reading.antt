-- A word that reads as an instruction is decoded as it: its code has a row, and the row takes the same fields.
use Rattle.std.proofs.Common.{◌≡◌, ℕ, ◌+◌, Some, option_map, ap, ◌∙◌, rules}
use Rattle.instruction.specs.Codes.{load_code, store_code, branch_code, alu_code, shift_code, relations_code, special_number, special_of, bit}
use Rattle.instruction.specs.Fields.{in_field, opcode_field, rs1_field, rd_i_field, immediate_field, rd_r_field, sa_field, function_field, offset_field, register_at, amount_at, immediate_of, offset_of}
use Rattle.instruction.specs.Table.{by_opcode, by_function, decoded_of}
use Rattle.instruction.specs.Laws.{Reads}
use Rattle.instruction.specs.declared.instruction.Instruction.{Instruction}
use Rattle.instruction.specs.declared.instruction.Instruction.TheVariants.{Load, Store, AluImmediate, LoadHighImmediate, TestImmediate, Branch, JumpRegister, Jump, Trap, ReturnFromException, ShiftImmediate, Shift, ReadSpecial, WriteSpecial, Alu, LoadHigh, Test}
use Rattle.instruction.specs.declared.operation.SpecialRegister.{SpecialRegister}
use Rattle.instruction.specs.declared.field.Register.{Register}
use Rattle.instruction.specs.declared.field.Immediate.{Immediate}
use Rattle.instruction.specs.declared.field.ShiftAmount.{ShiftAmount}
use Rattle.instruction.specs.declared.field.Offset.{Offset}
use Rattle.instruction.proofs.Same.{register_same, immediate_same, amount_same, offset_same}
use Rattle.instruction.proofs.Codes.{load_row, store_row, branch_row, alu_immediate_row, alu_row, shift_immediate_row, shift_row, jump_register_row, jump_row, special_row, test_rows}

module _ (w : ℕ) where
  -- a field that holds a value is the field that was made with it

  rs1_is : (r : Register) → in_field rs1_field w ≡ r.index → register_at rs1_field w ≡ r
  unfolding register_at
  rs1_is r e = register_same _ _ e

  -- RD of the I form and RS2 of the R form stand in one place
  rd_is : (r : Register) → in_field rd_i_field w ≡ r.index → register_at rd_i_field w ≡ r
  unfolding register_at
  rd_is r e = register_same _ _ e

  target_is : (r : Register) → in_field rd_r_field w ≡ r.index → register_at rd_r_field w ≡ r
  unfolding register_at
  target_is r e = register_same _ _ e

  amount_is : (a : ShiftAmount) → in_field sa_field w ≡ a.bits → amount_at sa_field w ≡ a
  unfolding amount_at
  amount_is a e = amount_same _ _ e

  immediate_is : (i : Immediate) → in_field immediate_field w ≡ i.bits → immediate_of w ≡ i
  unfolding immediate_of
  immediate_is i e = immediate_same _ _ e

  offset_is : (o : Offset) → in_field offset_field w ≡ o.bits → offset_of w ≡ o
  unfolding offset_of
  offset_is o e = offset_same _ _ e

  -- by the opcode, and by the function where the opcode is 0

  pub by_opcode_lem : (code : ℕ) → in_field opcode_field w ≡ code → decoded_of w ≡ by_opcode code w
  unfolding decoded_of
  by_opcode_lem code e = ap (λ (c : ℕ). by_opcode c w) e

  by_function_lem : (code : ℕ) → in_field opcode_field w ≡ 0 → in_field function_field w ≡ code → decoded_of w ≡ by_function code w
  by_function_lem code z e = by_opcode_lem 0 z ∙ ap (λ (c : ℕ). by_function c w) e

  special_is : (s : SpecialRegister) (f : SpecialRegister → Instruction) → in_field sa_field w ≡ special_number s → option_map f (special_of (in_field sa_field w)) ≡ Some (f s)
  special_is s f e = ap (λ (n : ℕ). option_map f (special_of n)) e ∙ ap (option_map f) (special_row s)

  -- each of these
  ruleset same = (rules, rs1_is, rd_is, target_is, amount_is, immediate_is, offset_is)

  pub reads : (i : Instruction) → Reads w i → decoded_of w ≡ Some i
  reads (Load k rd rs1 imm) h = by_opcode_lem (load_code k) h.0 ∙ load_row k w ∙ search same
  reads (Store k rd rs1 imm) h = by_opcode_lem (store_code k) h.0 ∙ store_row k w ∙ search same
  reads (AluImmediate op rd rs1 imm) h = by_opcode_lem (0x08 + alu_code op) h.0 ∙ alu_immediate_row op w ∙ search same
  reads (LoadHighImmediate rd imm) h = by_opcode_lem 0x0f h.0 ∙ search same
  reads (TestImmediate r rd rs1 imm) h = by_opcode_lem (0x18 + relations_code r) h.0 ∙ (test_rows r w).0 ∙ search same
  reads (Branch k rs1 imm) h = by_opcode_lem (branch_code k) h.0 ∙ branch_row k w ∙ search same
  reads (JumpRegister link rs1) h = by_opcode_lem (0x16 + bit link) h.0 ∙ jump_register_row link w ∙ search same
  reads (Jump link offset) h = by_opcode_lem (0x02 + bit link) h.0 ∙ jump_row link w ∙ search same
  reads (Trap offset) h = by_opcode_lem 0x3e h.0 ∙ search same
  reads ReturnFromException h = by_opcode_lem 0x3f h.0
  reads (ShiftImmediate op rd rs1 amount) h = by_function_lem (shift_code op) h.0 h.1.1.1.1.0 ∙ shift_immediate_row op w ∙ search same
  reads (Shift op rd rs1 rs2) h = by_function_lem (0x04 + shift_code op) h.0 h.1.1.1.1.0 ∙ shift_row op w ∙ search same
  reads (ReadSpecial rd s) h = by_function_lem 0x10 h.0 h.1.1.1.0 ∙ special_is s (λ special. ReadSpecial (register_at rd_r_field w) special) h.1.1.0 ∙ search same
  reads (WriteSpecial s rs1) h = by_function_lem 0x11 h.0 h.1.1.1.0 ∙ special_is s (λ special. WriteSpecial special (register_at rs1_field w)) h.1.1.0 ∙ search same
  reads (Alu op rd rs1 rs2) h = by_function_lem (0x20 + alu_code op) h.0 h.1.1.1.1.0 ∙ alu_row op w ∙ search same
  reads (LoadHigh rd rs2) h = by_function_lem 0x27 h.0 h.1.1.1.0 ∙ search same
  reads (Test r rd rs1 rs2) h = by_function_lem (0x28 + relations_code r) h.0 h.1.1.1.1.0 ∙ (test_rows r w).1 ∙ search same
