-- Worked examples of execution.
use Rattle.std.specs.Prelude.{◌≡◌, ℕ, ◌^◌, ◌<◌, true, Some}
use Rattle.std.proofs.Common.{lit<}
use Rattle.instruction.specs.Table.{decoded_of}
use Rattle.instruction.specs.Worked.{register}
use Rattle.instruction.specs.declared.instruction.Instruction.{Instruction}
use Rattle.instruction.specs.declared.instruction.Instruction.TheVariants.{AluImmediate, Jump}
use Rattle.instruction.specs.declared.operation.AluOp.TheVariants.{Add, And}
use Rattle.execute.specs.Extension.{constant_of}
use Rattle.execute.specs.Arithmetic.{alu_value, alu_overflows}
use Rattle.execute.specs.Branch.{flow_of, link_of, next_pair_of}
use Rattle.execute.specs.Causes.{with_cause, counted_of, level_of}
use Rattle.execute.specs.declared.cause.Cause.TheVariants.{Trap, Overflow}

-- andi r2, r1, -1
abbrev pub copy : Instruction
copy = AluImmediate And (register 2 (lit< tt)) (register 1 (lit< tt)) (record { bits = 0xFFFF; ok = lit< tt })

-- jal 0x20
abbrev pub call : Instruction
call = Jump true (record { bits = 0x20; ok = lit< tt })

pub record Worked : Type 0 where
  -- 0x3022FFFF copies register 1 to register 2: its constant leaves every word as it is
  pub copy_read : decoded_of 0x3022FFFF ≡ Some copy
  pub copied : (a : ℕ) → a < 2 ^ 32 → alu_value And a (constant_of copy) ≡ a
  -- 0x7FFFFFFF + 1 overflows, and under a status of 64 alone cause 6 is the level
  pub sum : alu_value Add 0x7FFFFFFF 1 ≡ 0x80000000
  pub overflows : alu_overflows Add 0x7FFFFFFF 1 ≡ true
  pub overflow_counts : counted_of (with_cause 0 Overflow) 64 ≡ 64
  pub overflow_level : level_of 64 ≡ Some 6
  -- jal 0x20 at the pair (0x100, 0x104)
  pub links : link_of 0x104 ≡ 0x108
  pub calls : (operand : ℕ) (saved : ℕ × ℕ) → next_pair_of (flow_of call) 0x104 operand (constant_of call) saved ≡ (0x104, 0x124)
  -- a trap while line 7 is pending, under a status of 0x80
  pub trap_counts : counted_of (with_cause (2 ^ 7) Trap) 0x80 ≡ 0xA0
  pub trap_level : level_of 0xA0 ≡ Some 5
