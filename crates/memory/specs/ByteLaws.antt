-- What loads and stores of plain bytes mean, byte by byte and lowest first.
use Rattle.std.specs.Prelude.{◌≡◌, ℕ, ◌+◌, ◌/◌, ◌%◌, ◌^◌, ◌<◌, ◌≤◌, ◌⊎◌, Some}
use Rattle.memory.specs.Bytes.{Cells, plain}
use Rattle.memory.specs.declared.access.Access.TheVariants.{Load, Store}

-- byte i of a number
abbrev pub byte_of : ℕ → ℕ → ℕ
byte_of value i = value / 256 ^ i % 256

-- the bytes from an address on are those of the value
abbrev pub HoldsValue : Cells → (address width value : ℕ) → Type 0
HoldsValue bytes address width value = (i : ℕ) → i < width → bytes (address + i) ≡ Some (byte_of value i)

-- a done store leaves the value in its own bytes, and every other byte as it was
pub record Stores (before after : Cells) (address width value : ℕ) : Type 0 where
  pub inside : HoldsValue after address width value
  pub outside : (k : ℕ) → (k < address) ⊎ (address + width ≤ k) → after k ≡ before k

-- a done load answers the value that its bytes hold, and leaves every byte as it was
pub record Loads (before after : Cells) (address width value : ℕ) : Type 0 where
  pub holds : HoldsValue before address width value
  pub short : value < 256 ^ width
  pub still : after ≡ before

-- bytes are numbers below 256
abbrev pub AreBytes : Cells → Type 0
AreBytes bytes = (k byte : ℕ) → bytes k ≡ Some byte → byte < 256

pub record ByteLaws : Type 0 where
  pub stores : (before after : Cells) (address width value answer : ℕ)
      → plain before (Store address width value) ≡ Some (answer, after) → Stores before after address width value
  pub loads : (before after : Cells) (address width answer : ℕ) → AreBytes before
      → plain before (Load address width) ≡ Some (answer, after) → Loads before after address width answer
