-- The arithmetic and bitwise operations: the result modulo 2 ^ 32, and the overflow of a signed sum or difference.
use Rattle.std.specs.Prelude.{◌≡◌, ℕ, ◌+◌, ◌-◌, ◌*◌, ◌%◌, ◌^◌, min, max, Bool, false, not, ℤ, pos, negsuc, ◌+ℤ◌, ◌-ℤ◌, bit_and, bit_or, bit_xor, nat_lt}
use Rattle.std.specs.Bool.{FalseIff}
use Rattle.std.specs.Int.{bit_at}
use Rattle.instruction.specs.declared.operation.AluOp.{AluOp}
use Rattle.instruction.specs.declared.operation.AluOp.TheVariants.{Add, AddUnsigned, Sub, SubUnsigned, And, Or, Xor}
use Rattle.execute.specs.Words.{signed, plus}

-- the difference of two words
abbrev pub minus : (a b : ℕ) → ℕ
minus a b = (a + (2 ^ 32 - b)) % 2 ^ 32

-- the result of each operation
abbrev pub alu_value : AluOp → (a b : ℕ) → ℕ
alu_value Add a b = plus a b
alu_value AddUnsigned a b = plus a b
alu_value Sub a b = minus a b
alu_value SubUnsigned a b = minus a b
alu_value And a b = bit_and a b
alu_value Or a b = bit_or a b
alu_value Xor a b = bit_xor a b

-- lhg and lhgi: the low half of b as the high half
abbrev pub high_of : (b : ℕ) → ℕ
high_of b = b % 2 ^ 16 * 2 ^ 16

-- z lies from −2 ^ 31 to 2 ^ 31 − 1, and so is a word as a signed number; `negsuc n` is −(n + 1)
abbrev pub fits_word : ℤ → Bool
fits_word (pos n) = nat_lt n (2 ^ 31)
fits_word (negsuc n) = nat_lt n (2 ^ 31)

-- whether a signed sum or difference lies outside; the other operations never overflow
abbrev pub alu_overflows : AluOp → (a b : ℕ) → Bool
alu_overflows Add a b = not (fits_word (signed a +ℤ signed b))
alu_overflows Sub a b = not (fits_word (signed a -ℤ signed b))
alu_overflows op a b = false

-- each bit of r is a function of the operands' bits at its place
abbrev pub BitByBit : (ℕ → ℕ → ℕ) → (a b r : ℕ) → Type 0
BitByBit f a b r = (k : ℕ) → bit_at r k ≡ f (bit_at a k) (bit_at b k)

-- r is the sum or the difference up to a multiple of 2 ^ 32

abbrev pub SumOf : (a b r : ℕ) → Type 0
SumOf a b r = (q : ℕ) × (r + q * 2 ^ 32 ≡ a + b)

abbrev pub DifferenceOf : (a b r : ℕ) → Type 0
DifferenceOf a b r = (q : ℕ) × (r + b ≡ a + q * 2 ^ 32)

-- the law of the operations; a signed sum or difference is the exact one unless it overflows, and then it is not
abbrev pub AluLaw : AluOp → (a b r : ℕ) (overflow : Bool) → Type 0
AluLaw Add a b r overflow = SumOf a b r × FalseIff overflow (signed r ≡ signed a +ℤ signed b)
AluLaw AddUnsigned a b r overflow = SumOf a b r
AluLaw Sub a b r overflow = DifferenceOf a b r × FalseIff overflow (signed r ≡ signed a -ℤ signed b)
AluLaw SubUnsigned a b r overflow = DifferenceOf a b r
AluLaw And a b r overflow = BitByBit min a b r
AluLaw Or a b r overflow = BitByBit max a b r
AluLaw Xor a b r overflow = BitByBit (λ x y. (x + y) % 2) a b r
