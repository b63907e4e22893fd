-- What reading and writing promise, without the table and without the arithmetic of a word.
use Rattle.std.specs.Prelude.{◌≡◌, ℕ, ◌+◌, ◌<◌, ◌≤◌, ◌⊎◌, List, [], ◌∷◌, Option, MatchOption}
use Rattle.instruction.specs.Fields.{Field, in_field}
use Rattle.instruction.specs.Layout.{layout, kept, word_of}
use Rattle.instruction.specs.declared.instruction.Instruction.{Instruction}

-- w holds each value in its field
abbrev pub Holds : List (Field × ℕ) → ℕ → Type 0
Holds [] w = Unit {0}
Holds (part ∷ parts) w = (in_field part.0 w ≡ part.1) × Holds parts w

-- w reads as i: each field that i uses holds i's value there; the other fields hold anything
abbrev pub Reads : ℕ → Instruction → Type 0
Reads w i = Holds (layout i) w

-- bit k of w
abbrev pub bit_of : ℕ → ℕ → ℕ
bit_of k w = in_field (record { low = k; width = 1 }) w

-- bit k lies in none of the fields
abbrev pub Outside : List (Field × ℕ) → ℕ → Type 0
Outside [] k = Unit {0}
Outside (part ∷ parts) k = ((k < part.0.low) ⊎ (part.0.low + part.0.width ≤ k)) × Outside parts k

-- each bit of w that lies in no field that i uses is 0
abbrev pub UnusedZero : Instruction → ℕ → Type 0
UnusedZero i w = (k : ℕ) → Outside (layout i) k → bit_of k w ≡ 0

-- i is the one instruction that w reads as, and i's word is w with its unused bits 0
pub record ReadsOnly (w : ℕ) (i : Instruction) : Type 0 where
  pub reads : Reads w i
  pub only : (j : Instruction) → Reads w j → j ≡ i
  pub back : word_of i ≡ kept (layout i) w

-- the answer of reading w: the one instruction that it reads as, or none because it reads as none
abbrev pub DecodesTo : ℕ → Option Instruction → Type 0
DecodesTo w answer = MatchOption answer ((i : Instruction) → Reads w i → ⊥) (ReadsOnly w)
