-- Sign extension, and the number s that an instruction carries.
use Rattle.std.specs.Prelude.{◌≡◌, ℕ, ◌+◌, ◌-◌, ◌%◌, ◌^◌, ◌<◌, ◌≤◌, Bool, if◌then◌else◌, ◌&&◌, List, [], ◌∷◌, ◌==◌, nat_lt}
use Rattle.std.specs.Int.{bit_at}
use Rattle.instruction.specs.Fields.{Field, immediate_field, offset_field}
use Rattle.instruction.specs.Layout.{layout}
use Rattle.instruction.specs.declared.instruction.Instruction.{Instruction}

-- the low `width` bits of n as a signed number, as a word: from 2 ^ (width - 1) on they mean a negative one
abbrev pub sign_extended : (width n : ℕ) → ℕ
sign_extended width n =
    if nat_lt (n % 2 ^ width) (2 ^ (width - 1)) then n % 2 ^ width
    else n % 2 ^ width + (2 ^ 32 - 2 ^ width)

-- r has the low `width` bits of n, and `fill` in each bit above them
pub record FilledWith (fill width n r : ℕ) : Type 0 where
  pub low : r % 2 ^ width ≡ n % 2 ^ width
  pub high : (k : ℕ) → width ≤ k → k < 32 → bit_at r k ≡ fill

-- the law of sign extension: each bit above is a copy of the highest of the `width` bits
abbrev pub CopiesSign : (width n r : ℕ) → Type 0
CopiesSign width n r = FilledWith (bit_at n (width - 1)) width n r

-- two fields at one place
abbrev pub same_field : Field → Field → Bool
same_field f g = f.low == g.low && f.width == g.width

-- the number s of an instruction with these fields: its immediate or its offset, extended by its sign, or 0 if it has neither
abbrev pub carried : List (Field × ℕ) → ℕ
carried [] = 0
carried ((field, value) ∷ parts) =
    if same_field field immediate_field then sign_extended 16 value
    else if same_field field offset_field then sign_extended 26 value
    else carried parts

-- the number s of an instruction, from the fields that it uses
abbrev pub constant_of : Instruction → ℕ
constant_of instruction = carried (layout instruction)
