-- An instruction built from plain numbers: each is the unsigned number that stands in its field of the word.
use Rattle.std.specs.Prelude.{◌≡◌, ℕ, ◌^◌, ◌≤◌, ◌⊎◌, List, [], ◌∷◌, Result, MatchResult}
use Rattle.instruction.specs.Fields.{Field}
use Rattle.instruction.specs.Layout.{layout}
use Rattle.instruction.specs.declared.instruction.Instruction.{Instruction}
use Rattle.instruction.specs.declared.number.FieldRefusal.{FieldRefusal}

-- some number does not fit the width of its field
abbrev pub Unfit : List (Field × ℕ) → Type 0
Unfit [] = ⊥
Unfit (part ∷ parts) = (2 ^ part.0.width ≤ part.1) ⊎ Unfit parts

-- the instruction that uses these fields and has these numbers in them, or a refusal because a number does not fit
abbrev pub Builds : List (Field × ℕ) → Result Instruction FieldRefusal → Type 0
Builds parts answer = MatchResult answer (λ built. layout built ≡ parts) (λ refusal. Unfit parts)

-- the same where one number is that of a special register, of which there are six
abbrev pub BuildsSpecial : (special : ℕ) → List (Field × ℕ) → Result Instruction FieldRefusal → Type 0
BuildsSpecial special parts answer = MatchResult answer (λ built. layout built ≡ parts) (λ refusal. Unfit parts ⊎ (6 ≤ special))
