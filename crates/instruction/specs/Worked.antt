-- Worked words.
use Rattle.std.specs.Prelude.{◌≡◌, ℕ, ◌^◌, ◌<◌, Some, None}
use Rattle.std.proofs.Common.{lit<}
use Rattle.instruction.specs.Table.{decoded_of}
use Rattle.instruction.specs.declared.field.Register.{Register}
use Rattle.instruction.specs.declared.instruction.Instruction.TheVariants.{Alu}
use Rattle.instruction.specs.declared.operation.AluOp.TheVariants.{Add}

-- the register with a number
abbrev pub register : (n : ℕ) → n < 2 ^ 5 → Register
register n fits = record { index = n; ok = fits }

-- 0x00211020 is add with RD 2 and both sources 1, and 0x04000000 is illegal
abbrev pub Worked : Type 0
Worked =
    (decoded_of 0x00211020 ≡ Some (Alu Add (register 2 (lit< tt)) (register 1 (lit< tt)) (register 1 (lit< tt))))
    × (decoded_of 0x04000000 ≡ None)
