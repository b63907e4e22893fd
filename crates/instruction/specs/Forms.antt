-- What a word holds in the fields of each form.
use Rattle.std.specs.Prelude.{ℕ}
use Rattle.instruction.specs.Fields.{rs1_field, rd_i_field, rs2_field, rd_r_field, sa_field, register_at, amount_at, immediate_of, offset_of}
use Rattle.instruction.specs.declared.form.IForm.{IForm}
use Rattle.instruction.specs.declared.form.RForm.{RForm}
use Rattle.instruction.specs.declared.form.JForm.{JForm}

abbrev pub i_form_of : ℕ → IForm
i_form_of w = record { rs1 = register_at rs1_field w; rd = register_at rd_i_field w; imm = immediate_of w }

abbrev pub r_form_of : ℕ → RForm
r_form_of w = record { rs1 = register_at rs1_field w; rs2 = register_at rs2_field w; rd = register_at rd_r_field w; sa = amount_at sa_field w }

abbrev pub j_form_of : ℕ → JForm
j_form_of w = record { offset = offset_of w }
