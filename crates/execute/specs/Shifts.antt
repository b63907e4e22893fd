-- Shifts to the left, to the right, and arithmetic to the right.
use Rattle.std.specs.Prelude.{◌≡◌, ℕ, ◌+◌, ◌-◌, ◌*◌, ◌/◌, ◌%◌, ◌^◌, ◌<◌, if◌then◌else◌, nat_lt}
use Rattle.std.specs.Int.{w32, cast_unsigned, int_shr, bit_at}
use Rattle.instruction.specs.declared.operation.ShiftOp.{ShiftOp}
use Rattle.instruction.specs.declared.operation.ShiftOp.TheVariants.{Left, Right, RightArithmetic}
use Rattle.execute.specs.Words.{signed}

-- a word shifted by n places; the arithmetic shift divides the signed number by 2 ^ n and rounds down
abbrev pub shifted_by : ShiftOp → (a n : ℕ) → ℕ
shifted_by Left a n = (a * 2 ^ n) % 2 ^ 32
shifted_by Right a n = a / 2 ^ n
shifted_by RightArithmetic a n = cast_unsigned w32 (int_shr (signed a) n)

-- a word shifted by an amount, which counts modulo 32
abbrev pub shift_of : ShiftOp → (a by : ℕ) → ℕ
shift_of op a by = shifted_by op a (by % 32)

-- bit k of a shift by n: 0 comes in from the right, and from the left 0 or, arithmetic, copies of bit 31
abbrev pub bit_shifted : ShiftOp → (a n k : ℕ) → ℕ
bit_shifted Left a n k = if nat_lt k n then 0 else bit_at a (k - n)
bit_shifted Right a n k = if nat_lt (k + n) 32 then bit_at a (k + n) else 0
bit_shifted RightArithmetic a n k = if nat_lt (k + n) 32 then bit_at a (k + n) else bit_at a 31

-- the law of the shifts: each bit of r is the one that was moved there, or came in
abbrev pub MovesBits : ShiftOp → (a by r : ℕ) → Type 0
MovesBits op a by r = (k : ℕ) → k < 32 → bit_at r k ≡ bit_shifted op a (by % 32) k
