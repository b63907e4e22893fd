-- Reading by a table.
use Rattle.std.proofs.Common.{◌≡◌, ℕ, List, [], ◌∷◌, None, Option, sym, inl, inr}
use Rattle.std.proofs.lemmas.Bool.{cases_eq, eq-eqb, ne_eqb}
use Rattle.instruction.specs.Table.{Reader, read_by}
use Rattle.instruction.specs.declared.instruction.Instruction.{Instruction}

-- what holds of None, and of what each row reads under its own code, holds of what the table reads
abbrev pub Each : (Option Instruction → Type 0) → List (ℕ × Reader) → ℕ → ℕ → Type 0
Each P [] code w = P None
Each P (row ∷ rows) code w = (code ≡ row.0 → P (row.1 w)) × Each P rows code w

pub each_read : (P : Option Instruction → Type 0) (rows : List (ℕ × Reader)) (code w : ℕ) → Each P rows code w → P (read_by rows code w)
each_read P [] code w h = h
each_read P (row ∷ rows) code w h =
    elim (cases_eq row.0 code) [
      | inl e ↦ rw (eq-eqb row.0 code e) (h.0 (sym e))
      | inr n ↦ rw (ne_eqb row.0 code n) (each_read P rows code w h.1)
    ]
