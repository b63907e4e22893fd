-- Each code has its own row in the table.
use Rattle.std.proofs.Common.{◌≡◌, ℕ, ◌+◌, Bool, true, false, Some, refl, rules, arith}
use Rattle.instruction.specs.Codes.{load_code, store_code, branch_code, alu_code, shift_code, relations_code, special_number, special_of, bit}
use Rattle.instruction.specs.Fields.{rs1_field, rd_i_field, rs2_field, rd_r_field, register_at, immediate_of}
use Rattle.instruction.specs.Table.{by_opcode, by_function, loads, stores, alus_immediate, branches, jumps_register, jumps, shifts_immediate, shifts, alus}
use Rattle.instruction.specs.declared.instruction.Instruction.TheVariants.{TestImmediate, Test}
use Rattle.instruction.specs.declared.operation.LoadKind.{LoadKind}
use Rattle.instruction.specs.declared.operation.StoreKind.{StoreKind}
use Rattle.instruction.specs.declared.operation.AluOp.{AluOp}
use Rattle.instruction.specs.declared.operation.AluOp.TheVariants as alu
use Rattle.instruction.specs.declared.operation.ShiftOp.{ShiftOp}
use Rattle.instruction.specs.declared.operation.Condition.{Condition}
use Rattle.instruction.specs.declared.operation.Relations.{Relations}
use Rattle.instruction.specs.declared.operation.SpecialRegister.{SpecialRegister}

pub load_row : (k : LoadKind) (w : ℕ) → by_opcode (load_code k) w ≡ loads k w
load_row k w = search rules

pub store_row : (k : StoreKind) (w : ℕ) → by_opcode (store_code k) w ≡ stores k w
store_row k w = search rules

pub branch_row : (k : Condition) (w : ℕ) → by_opcode (branch_code k) w ≡ branches k w
branch_row k w = search rules

pub alu_immediate_row : (k : AluOp) (w : ℕ) → by_opcode (0x08 + alu_code k) w ≡ alus_immediate k w
alu_immediate_row alu.Add w = refl
alu_immediate_row alu.AddUnsigned w = refl
alu_immediate_row alu.Sub w = refl
alu_immediate_row alu.SubUnsigned w = refl
alu_immediate_row alu.And w = refl
alu_immediate_row alu.Or w = refl
alu_immediate_row alu.Xor w = refl

pub alu_row : (k : AluOp) (w : ℕ) → by_function (0x20 + alu_code k) w ≡ alus k w
alu_row alu.Add w = refl
alu_row alu.AddUnsigned w = refl
alu_row alu.Sub w = refl
alu_row alu.SubUnsigned w = refl
alu_row alu.And w = refl
alu_row alu.Or w = refl
alu_row alu.Xor w = refl

pub shift_immediate_row : (k : ShiftOp) (w : ℕ) → by_function (shift_code k) w ≡ shifts_immediate k w
shift_immediate_row k w = search rules

pub shift_row : (k : ShiftOp) (w : ℕ) → by_function (0x04 + shift_code k) w ≡ shifts k w
shift_row k w = grind arith

pub jump_register_row : (k : Bool) (w : ℕ) → by_opcode (0x16 + bit k) w ≡ jumps_register k w
jump_register_row true w = refl
jump_register_row false w = refl

pub jump_row : (k : Bool) (w : ℕ) → by_opcode (0x02 + bit k) w ≡ jumps k w
jump_row true w = refl
jump_row false w = refl

pub special_row : (s : SpecialRegister) → special_of (special_number s) ≡ Some s
special_row s = search rules

-- both rows of a test, by the relations that it asks for

abbrev asked : Bool → Bool → Bool → Relations
asked g e l = record { greater = g; equal = e; less = l }

abbrev TestRows : Relations → ℕ → Type 0
TestRows r w =
    (by_opcode (0x18 + relations_code r) w ≡ Some (TestImmediate r (register_at rd_i_field w) (register_at rs1_field w) (immediate_of w)))
    × (by_function (0x28 + relations_code r) w ≡ Some (Test r (register_at rd_r_field w) (register_at rs1_field w) (register_at rs2_field w)))

by_relations : (g e l : Bool) (w : ℕ) → TestRows (asked g e l) w
by_relations true true true w = (refl, refl)
by_relations true true false w = (refl, refl)
by_relations true false true w = (refl, refl)
by_relations true false false w = (refl, refl)
by_relations false true true w = (refl, refl)
by_relations false true false w = (refl, refl)
by_relations false false true w = (refl, refl)
by_relations false false false w = (refl, refl)

pub test_rows : (r : Relations) (w : ℕ) → TestRows r w
test_rows r w = by_relations r.greater r.equal r.less w
