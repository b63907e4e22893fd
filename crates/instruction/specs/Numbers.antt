-- Fields made from plain numbers: each number is the unsigned one that stands in the word.
use Rattle.std.specs.Prelude.{◌≡◌, ℕ, ◌≤◌, List, codes, Result, MatchResult}
use Rattle.instruction.specs.Codes.{special_number}
use Rattle.instruction.specs.declared.number.FieldRefusal.{FieldRefusal}
use Rattle.instruction.specs.declared.number.FieldRefusal.TheVariants.{OutOfRange}
use Rattle.instruction.specs.declared.operation.SpecialRegister.{SpecialRegister}

-- the number of each refusal
abbrev pub refusal_number : FieldRefusal → ℕ
refusal_number OutOfRange = 15

-- what each refusal says
abbrev pub refusal_text : FieldRefusal → List ℕ
refusal_text OutOfRange = codes "the number is out of range"

-- a field made from n: one whose value is n, or a refusal because n is not below the limit
abbrev pub MadeFrom : {F : Type 0} → (F → ℕ) → (limit n : ℕ) → Result F FieldRefusal → Type 0
MadeFrom value limit n answer = MatchResult answer (λ field. value field ≡ n) (λ refusal. limit ≤ n)

-- the six special registers have the numbers 0 to 5
abbrev pub SpecialMadeFrom : ℕ → Result SpecialRegister FieldRefusal → Type 0
SpecialMadeFrom n answer = MadeFrom special_number 6 n answer
