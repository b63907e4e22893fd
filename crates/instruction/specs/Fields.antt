-- The fields of an instruction word: where each stands, and what a word holds there.
-- A word is a number below 2 ^ 32; bit 0 is its lowest.
use Rattle.std.specs.Prelude.{ℕ, ◌/◌, ◌%◌, ◌^◌, ◌<◌}
use Rattle.std.proofs.Common.{mod-lt, pow_pos}
use Rattle.instruction.specs.declared.field.Register.{Register}
use Rattle.instruction.specs.declared.field.ShiftAmount.{ShiftAmount}
use Rattle.instruction.specs.declared.field.Immediate.{Immediate}
use Rattle.instruction.specs.declared.field.Offset.{Offset}

-- a field: its lowest bit, and how many bits it has
pub record Field : Type 0 where
  pub low : ℕ
  pub width : ℕ

-- what w holds in a field
abbrev pub in_field : Field → ℕ → ℕ
in_field f w = w / 2 ^ f.low % 2 ^ f.width

-- every form begins with the opcode, bits 31 to 26
abbrev pub opcode_field : Field
opcode_field = record { low = 26; width = 6 }

-- the I form: RS1 25 to 21, RD 20 to 16, immediate 15 to 0
abbrev pub rs1_field : Field
rs1_field = record { low = 21; width = 5 }

abbrev pub rd_i_field : Field
rd_i_field = record { low = 16; width = 5 }

abbrev pub immediate_field : Field
immediate_field = record { low = 0; width = 16 }

-- the R form, opcode 0: RS1 25 to 21, RS2 20 to 16, RD 15 to 11, SA 10 to 6, function 5 to 0
abbrev pub rs2_field : Field
rs2_field = record { low = 16; width = 5 }

abbrev pub rd_r_field : Field
rd_r_field = record { low = 11; width = 5 }

abbrev pub sa_field : Field
sa_field = record { low = 6; width = 5 }

abbrev pub function_field : Field
function_field = record { low = 0; width = 6 }

-- the J form: offset 25 to 0
abbrev pub offset_field : Field
offset_field = record { low = 0; width = 26 }

-- what a field holds fits the field
pub held_below : (f : Field) (w : ℕ) → in_field f w < 2 ^ f.width
held_below f w = mod-lt (w / 2 ^ f.low) (pow_pos f.width)

-- the field of five bits that begins at f's place, as a register or a shift amount; the immediate; the offset

unfoldable pub register_at : Field → ℕ → Register
register_at f w = record { index = w / 2 ^ f.low % 2 ^ 5; ok = mod-lt (w / 2 ^ f.low) (pow_pos 5) }

unfoldable pub amount_at : Field → ℕ → ShiftAmount
amount_at f w = record { bits = w / 2 ^ f.low % 2 ^ 5; ok = mod-lt (w / 2 ^ f.low) (pow_pos 5) }

unfoldable pub immediate_of : ℕ → Immediate
immediate_of w = record { bits = in_field immediate_field w; ok = held_below immediate_field w }

unfoldable pub offset_of : ℕ → Offset
offset_of w = record { bits = in_field offset_field w; ok = held_below offset_field w }
