-- Tests: whether one of the asked relations holds between two words as signed numbers.
use Rattle.std.specs.Prelude.{◌≡◌, ℕ, Bool, true, if◌then◌else◌, ◌&&◌, ◌||◌, ◌⊎◌, ℤ, ◌<ℤ◌, int_lt}
use Rattle.std.specs.Ordering.{int_eq}
use Rattle.instruction.specs.declared.operation.Relations.{Relations}
use Rattle.execute.specs.Words.{signed}

-- whether one of the asked relations holds from x to y
abbrev pub any_holds : Relations → (x y : ℤ) → Bool
any_holds asked x y = (asked.greater && int_lt y x) || ((asked.equal && int_eq x y) || (asked.less && int_lt x y))

-- what a test leaves in its register
abbrev pub test_of : Relations → (a b : ℕ) → ℕ
test_of asked a b = if any_holds asked (signed a) (signed b) then 1 else 0

-- what a test asks of two words, as a statement
abbrev pub AskedHolds : Relations → (a b : ℕ) → Type 0
AskedHolds asked a b =
    ((asked.greater ≡ true) × (signed b <ℤ signed a))
    ⊎ (((asked.equal ≡ true) × (signed a ≡ signed b))
    ⊎ ((asked.less ≡ true) × (signed a <ℤ signed b)))

-- the law of the tests: 1 if what is asked holds, and 0 if it does not
abbrev pub TestAnswers : Relations → (a b r : ℕ) → Type 0
TestAnswers asked a b r = ((r ≡ 1) × AskedHolds asked a b) ⊎ ((r ≡ 0) × (AskedHolds asked a b → ⊥))
