-- The law of the shifts, bit by bit.
use Rattle.std.proofs.Common.{◌≡◌, ℕ, suc, ◌+◌, ◌-◌, ◌*◌, ◌/◌, ◌%◌, ◌^◌, ◌<◌, ◌≤◌, cond, ltb, sym, refl, ap, ◌∙◌, inl, inr, arith}
use Rattle.std.specs.Int.{w32, cast_signed, cast_unsigned, int_shr, bit_at, bit_not}
use Rattle.std.proofs.lemmas.Bool.{cases_lt, lt-ltb, le-ltb}
use Rattle.std.proofs.lemmas.Nat.{shr_le}
use Rattle.std.proofs.lemmas.Nat.Bits.{bit_at_above, bit_at_not}
use Rattle.instruction.specs.declared.operation.ShiftOp.{ShiftOp}
use Rattle.instruction.specs.declared.operation.ShiftOp.TheVariants.{Left, Right, RightArithmetic}
use Rattle.execute.specs.Shifts.{shifted_by, bit_shifted, shift_of, MovesBits}
use Rattle.execute.proofs.Bits.{bit_kept, bit_left, bit_below, bit_right}

module _ (a n k : ℕ) (word : a < 2 ^ 32) (low : k < 32) where
  left : bit_at ((a * 2 ^ n) % 2 ^ 32) k ≡ cond (ltb k n) 0 (bit_at a (k - n))
  left =
      bit_kept (a * 2 ^ n) 32 k low
      ∙ elim (cases_lt k n) [ inl l ↦ rw (lt-ltb k n l) (bit_below a n k l) | inr g ↦ rw (le-ltb k n g) (bit_left a n k g) ]

  -- what comes in from the left is 0, or bit 31 where that is 0
  right : (fill : ℕ) → fill ≡ 0 → bit_at (a / 2 ^ n) k ≡ cond (ltb (k + n) 32) (bit_at a (k + n)) fill
  right fill z =
      bit_right a n k
      ∙ elim (cases_lt (k + n) 32) [
        | inl l ↦ rw (lt-ltb (k + n) 32 l)
        | inr g ↦ rw (le-ltb (k + n) 32 g) (bit_at_above a 32 (k + n) word g ∙ sym z)
      ]

  -- a negative number is shifted as its turned bits are
  negative : 2 ^ 31 ≤ a → bit_at (2 ^ 32 - suc ((2 ^ 32 - suc a) / 2 ^ n)) k ≡ cond (ltb (k + n) 32) (bit_at a (k + n)) (bit_at a 31)
  negative g =
      let y : ℕ = 2 ^ 32 - suc a in
      let z : ℕ = y / 2 ^ n in
      let m : z ≤ y = shr_le y n in
      let e : 2 ^ 32 - suc z ≡ bit_not w32 z = omega arith in
      let f : y ≡ bit_not w32 a = omega arith in
      let t : bit_at (bit_not w32 z) k ≡ 1 - bit_at z k = bit_at_not w32 z k (omega arith) low in
      let r : bit_at z k ≡ bit_at y (k + n) = bit_right y n k in
      ap (λ (x : ℕ). bit_at x k) e
      ∙ elim (cases_lt (k + n) 32) [
        | inl l ↦
            let u : bit_at y (k + n) ≡ 1 - bit_at a (k + n) = ap (λ (x : ℕ). bit_at x (k + n)) f ∙ bit_at_not w32 a (k + n) word l in
            rw (lt-ltb (k + n) 32 l) (omega arith)
        | inr h ↦
            let u : bit_at y (k + n) ≡ 0 = bit_at_above y 32 (k + n) (omega arith) h in
            rw (le-ltb (k + n) 32 h) (omega arith)
      ]

  arithmetic : bit_at (cast_unsigned w32 (int_shr (cast_signed w32 a) n)) k ≡ cond (ltb (k + n) 32) (bit_at a (k + n)) (bit_at a 31)
  arithmetic =
      elim (cases_lt a (2 ^ 31)) [
        | inl l ↦ rw (lt-ltb a (2 ^ 31) l) (right (bit_at a 31) (bit_at_above a 31 31 l (omega arith)))
        | inr g ↦ rw (le-ltb a (2 ^ 31) g) (negative g)
      ]

  pub moves_bit : (op : ShiftOp) → bit_at (shifted_by op a n) k ≡ bit_shifted op a n k
  moves_bit Left = left
  moves_bit Right = right 0 refl
  moves_bit RightArithmetic = arithmetic

pub moves_bits : (op : ShiftOp) (a by r : ℕ) → a < 2 ^ 32 → r ≡ shift_of op a by → MovesBits op a by r
moves_bits op a by r h e k l = ap (λ (x : ℕ). bit_at x k) e ∙ moves_bit a (by % 32) k h l op
