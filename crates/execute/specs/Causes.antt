-- Causes of interrupts: cause k is bit k of a cause word. Which of them count, and the level of an interrupt.
use Rattle.std.specs.Prelude.{◌≡◌, ℕ, ◌^◌, ◌<◌, if◌then◌else◌, ◌⊎◌, Some, None, Option, MatchOption, ◌==◌, ◌≢◌, bit_and, bit_or}
use Rattle.std.specs.Int.{w32, bit_at, trailing_zeros}
use Rattle.execute.specs.declared.cause.Cause.{Cause}
use Rattle.execute.specs.declared.cause.Cause.TheVariants.{Illegal, Misaligned, NoWord, NoByte, Trap, Overflow}

-- the number of each cause
abbrev pub cause_number : Cause → ℕ
cause_number Illegal = 1
cause_number Misaligned = 2
cause_number NoWord = 3
cause_number NoByte = 4
cause_number Trap = 5
cause_number Overflow = 6

-- a cause word with one more cause
abbrev pub with_cause : (causes : ℕ) → Cause → ℕ
with_cause causes cause = bit_or causes (2 ^ cause_number cause)

-- its law: bit n is 1, and every other bit is as it was
pub record BitSet (n before after : ℕ) : Type 0 where
  pub here : bit_at after n ≡ 1
  pub others : (k : ℕ) → (k ≢ n) → bit_at after k ≡ bit_at before k

-- the causes that count under a status word; 0x3f is bits 0 to 5
abbrev pub counted_of : (causes status : ℕ) → ℕ
counted_of causes status = bit_and causes (bit_or status 0x3f)

-- cause k counts under a status word
abbrev pub Counts : (status k : ℕ) → Type 0
Counts status k = (k < 6) ⊎ (bit_at status k ≡ 1)

-- their law: each cause that counts stays, each other one is taken away
pub record Counted (causes status r : ℕ) : Type 0 where
  pub stays : (k : ℕ) → Counts status k → bit_at r k ≡ bit_at causes k
  pub goes : (k : ℕ) → (Counts status k → ⊥) → bit_at r k ≡ 0

-- the level of an interrupt, if a cause counts
abbrev pub level_of : (counted : ℕ) → Option ℕ
level_of counted = if counted == 0 then None else Some (trailing_zeros w32 counted)

-- bit l is a word's lowest 1 bit
pub record First (word l : ℕ) : Type 0 where
  pub inside : l < 32
  pub one : bit_at word l ≡ 1
  pub below : (k : ℕ) → k < l → bit_at word k ≡ 0

-- its law: the level is the number of the lowest 1 bit, and there is none exactly if the word is 0
abbrev pub Lowest : (word : ℕ) → Option ℕ → Type 0
Lowest word answer = MatchOption answer (word ≡ 0) (First word)
