-- The law of the arithmetic and bitwise operations.
use Rattle.std.proofs.Common.{◌≡◌, ℕ, ◌+◌, ◌-◌, ◌/◌, ◌^◌, ◌<◌, not, ltb, ℤ, pos, negsuc, ◌+ℤ◌, ◌-ℤ◌, refl, sym, subst, ◌∙◌, inl, inr, arith, w32, FitsSigned}
use lib.Signed.{mag}
use Rattle.std.specs.Bool.{FalseIff}
use Rattle.std.specs.Int.{int_wrap}
use Rattle.std.proofs.lemmas.Int.{wrapping_add-bits, wrapping_sub-bits, int_wrap_fits, SFits-int_wrap}
use Rattle.std.proofs.lemmas.Bool.{cases_lt, lt-ltb, le-ltb}
use Rattle.std.proofs.lemmas.Nat.Bits.{bit_at_and, bit_at_or, bit_at_xor}
use Rattle.instruction.specs.declared.operation.AluOp.{AluOp}
use Rattle.instruction.specs.declared.operation.AluOp.TheVariants.{Add, AddUnsigned, Sub, SubUnsigned, And, Or, Xor}
use Rattle.execute.specs.Words.{signed, plus}
use Rattle.execute.specs.Arithmetic.{minus, alu_value, alu_overflows, fits_word, SumOf, DifferenceOf, AluLaw}

fits_word_lem : (z : ℤ) → fits_word z ≡ ltb (mag z) (2 ^ 31)
fits_word_lem (pos n) = refl
fits_word_lem (negsuc n) = refl

-- a word that is z up to a multiple of 2 ^ 32 is z unless z does not fit
exact : (r : ℕ) (z : ℤ) → signed r ≡ int_wrap w32 z → FalseIff (not (fits_word z)) (signed r ≡ z)
exact r z e =
    elim (cases_lt (mag z) (2 ^ 31)) [
      | inl l ↦ rw (fits_word_lem z, lt-ltb (mag z) (2 ^ 31) l) (e ∙ int_wrap_fits w32 z (record { sfits = l }))
      | inr g ↦ rw (fits_word_lem z, le-ltb (mag z) (2 ^ 31) g) (λ p. let f : FitsSigned w32 z = subst (FitsSigned w32) (sym e ∙ p) (SFits-int_wrap w32 z) in omega (arith, f.sfits))
    ]

module _ (a b : ℕ) (p : a < 2 ^ 32) (q : b < 2 ^ 32) where
  sum_of : SumOf a b (plus a b)
  sum_of = ((a + b) / 2 ^ 32, omega arith)

  difference_of : DifferenceOf a b (minus a b)
  difference_of = (1 - (a + (2 ^ 32 - b)) / 2 ^ 32, omega arith)

  pub alu_law : (op : AluOp) → AluLaw op a b (alu_value op a b) (alu_overflows op a b)
  alu_law Add = (sum_of, exact (plus a b) (signed a +ℤ signed b) (wrapping_add-bits w32 a b p q))
  alu_law AddUnsigned = sum_of
  alu_law Sub = (difference_of, exact (minus a b) (signed a -ℤ signed b) (wrapping_sub-bits w32 a b p q))
  alu_law SubUnsigned = difference_of
  alu_law And = bit_at_and a b
  alu_law Or = bit_at_or a b
  alu_law Xor = bit_at_xor a b
