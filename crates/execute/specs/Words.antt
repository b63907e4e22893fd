-- Words of 32 bits, as numbers below 2 ^ 32. Bit k of a word is `bit_at word k`, and bit 0 is the lowest.
use Rattle.std.specs.Prelude.{ℕ, ◌+◌, ◌%◌, ◌^◌, ℤ}
use Rattle.std.specs.Int.{w32, cast_signed}

-- a word as a signed number: below 2 ^ 31 the word itself, from there on the word − 2 ^ 32
abbrev pub signed : ℕ → ℤ
signed word = cast_signed w32 word

-- the sum of two words
abbrev pub plus : (a b : ℕ) → ℕ
plus a b = (a + b) % 2 ^ 32
