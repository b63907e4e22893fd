-- Two fields with one value are one field: the bound beside the value is a proposition.
use Rattle.std.proofs.Common.{◌≡◌, ℕ, ◌^◌, ◌<◌, ap}
use mathlib.Core.HLevel.{Σ_prop_path}
use native.Mathlib.Bridge.{le_prop}
use Rattle.instruction.specs.declared.field.Register.{Register}
use Rattle.instruction.specs.declared.field.ShiftAmount.{ShiftAmount}
use Rattle.instruction.specs.declared.field.Immediate.{Immediate}
use Rattle.instruction.specs.declared.field.Offset.{Offset}
use Rattle.instruction.specs.declared.form.IForm.{IForm}
use Rattle.instruction.specs.declared.form.RForm.{RForm}
use Rattle.instruction.specs.declared.form.JForm.{JForm}

abbrev Below : ℕ → Type 0
Below n = (k : ℕ) × (k < n)

-- a type that is made of a number below n
same : {F : Type 0} {n : ℕ} (make : Below n → F) (a b : Below n) → a.0 ≡ b.0 → make a ≡ make b
same make a b e = ap make (Σ_prop_path (λ _. le_prop) e)

pub register_same : (a b : Register) → a.index ≡ b.index → a ≡ b
register_same a b = same {F = Register} {n = 2 ^ 5} (λ p. record { index = p.0; ok = p.1 }) (a.index, a.ok) (b.index, b.ok)

pub amount_same : (a b : ShiftAmount) → a.bits ≡ b.bits → a ≡ b
amount_same a b = same {F = ShiftAmount} {n = 2 ^ 5} (λ p. record { bits = p.0; ok = p.1 }) (a.bits, a.ok) (b.bits, b.ok)

pub immediate_same : (a b : Immediate) → a.bits ≡ b.bits → a ≡ b
immediate_same a b = same {F = Immediate} {n = 2 ^ 16} (λ p. record { bits = p.0; ok = p.1 }) (a.bits, a.ok) (b.bits, b.ok)

pub offset_same : (a b : Offset) → a.bits ≡ b.bits → a ≡ b
offset_same a b = same {F = Offset} {n = 2 ^ 26} (λ p. record { bits = p.0; ok = p.1 }) (a.bits, a.ok) (b.bits, b.ok)

-- and so are two forms whose fields have the same values

pub i_form_same : (a b : IForm) → a.rs1 ≡ b.rs1 → a.rd ≡ b.rd → a.imm.bits ≡ b.imm.bits → a ≡ b
i_form_same a b p q r = λ i. record { rs1 = p i; rd = q i; imm = immediate_same a.imm b.imm r i }

pub r_form_same : (a b : RForm) → a.rs1 ≡ b.rs1 → a.rs2 ≡ b.rs2 → a.rd ≡ b.rd → a.sa.bits ≡ b.sa.bits → a ≡ b
r_form_same a b p q r s = λ i. record { rs1 = p i; rs2 = q i; rd = r i; sa = amount_same a.sa b.sa s i }

pub j_form_same : (a b : JForm) → a.offset.bits ≡ b.offset.bits → a ≡ b
j_form_same a b p = λ i. record { offset = offset_same a.offset b.offset p i }
