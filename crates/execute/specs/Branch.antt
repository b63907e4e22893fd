-- The next pair of addresses: (PC', target), or (PC', PC' + 4) without a target, or the saved pair of an rfe.
-- `next` is PC', the second address of the pair of now; `operand` is the word of RS1, and `constant` the number s.
use Rattle.std.specs.Prelude.{ℕ, if◌then◌else◌, List, [], ◌∷◌, Some, None, Option, unwrap_or, ◌==◌}
use Rattle.instruction.specs.Codes.{found}
use Rattle.instruction.specs.Fields.{Field}
use Rattle.instruction.specs.Layout.{layout}
use Rattle.instruction.specs.declared.instruction.Instruction.{Instruction}
use Rattle.instruction.specs.declared.instruction.Instruction.TheVariants.{Branch, JumpRegister, Jump, ReturnFromException}
use Rattle.instruction.specs.declared.operation.Condition.TheVariants.{Zero, NotZero}
use Rattle.execute.specs.Words.{plus}
use Rattle.execute.specs.declared.control.Flow.{Flow}
use Rattle.execute.specs.declared.control.Flow.TheVariants as flow

-- how each instruction goes on: those that are not named go straight on
abbrev pub flow_of : Instruction → Flow
flow_of (Branch condition rs1 imm) = flow.Branch condition
flow_of (JumpRegister link rs1) = flow.Register
flow_of (Jump link offset) = flow.Relative
flow_of ReturnFromException = flow.Return
flow_of instruction = flow.Straight

-- the same by opcode: the instructions that transfer control, and all others go straight on
abbrev pub control_transfers : List (ℕ × Flow)
control_transfers =
    (0x02, flow.Relative) ∷ (0x03, flow.Relative) ∷ (0x04, flow.Branch Zero) ∷ (0x05, flow.Branch NotZero)
    ∷ (0x16, flow.Register) ∷ (0x17, flow.Register) ∷ (0x3f, flow.Return) ∷ []

abbrev pub flow_by_opcode : (opcode : ℕ) → Flow
flow_by_opcode opcode = unwrap_or (found opcode control_transfers) flow.Straight

-- the opcode is the first field of every instruction
abbrev pub first_value : List (Field × ℕ) → ℕ
first_value [] = 0
first_value (part ∷ parts) = part.1

abbrev pub opcode_of : Instruction → ℕ
opcode_of instruction = first_value (layout instruction)

-- what jal and jalr leave in register 31
abbrev pub link_of : (next : ℕ) → ℕ
link_of next = plus next 4

-- the target of an instruction, if it has one; a branch has one only where it is taken
abbrev pub target_of : Flow → (next operand constant : ℕ) → Option ℕ
target_of flow.Straight next operand constant = None
target_of (flow.Branch Zero) next operand constant = if operand == 0 then Some (plus next constant) else None
target_of (flow.Branch NotZero) next operand constant = if operand == 0 then None else Some (plus next constant)
target_of flow.Register next operand constant = Some operand
target_of flow.Relative next operand constant = Some (plus next constant)
target_of flow.Return next operand constant = None

-- the pair of an instruction that goes to its target, or on by 4 without one
abbrev pub pair_to : (next : ℕ) → Option ℕ → ℕ × ℕ
pair_to next None = (next, plus next 4)
pair_to next (Some target) = (next, target)

-- the next pair of an instruction that goes on in this way
abbrev pub next_pair_of : Flow → (next operand constant : ℕ) (saved : ℕ × ℕ) → ℕ × ℕ
next_pair_of flow.Return next operand constant saved = saved
next_pair_of way next operand constant saved = pair_to next (target_of way next operand constant)
