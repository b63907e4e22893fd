-- Bytes at addresses, and what loads and stores of plain bytes do. A memory means a byte or nothing at each address.
use Rattle.std.specs.Prelude.{ℕ, zero, suc, ◌+◌, ◌*◌, ◌/◌, ◌%◌, Bool, if◌then◌else◌, ◌&&◌, ◌||◌, Some, None, Option, ◌==◌}
use Rattle.std.specs.Option.{option_map}
use Rattle.memory.specs.declared.access.Access.{Access}
use Rattle.memory.specs.declared.access.Access.TheVariants.{Load, Store}

-- a byte or nothing at each address; a program memory has a word or nothing at each multiple of 4
abbrev pub Cells : Type 0
Cells = ℕ → Option ℕ

-- a low byte below what stands above it
abbrev pub joined : Option ℕ → Option ℕ → Option ℕ
joined None high = None
joined (Some low) None = None
joined (Some low) (Some high) = Some (low + 256 * high)

-- the number that the n bytes from an address on make, lowest first, if all are there
abbrev pub gathered : Cells → ℕ → ℕ → Option ℕ
gathered bytes address zero = Some 0
gathered bytes address (suc n) = joined (bytes address) (gathered bytes (address + 1) n)

-- another byte at an address, where there is one
abbrev pub replaced : Cells → ℕ → ℕ → Cells
replaced bytes address byte = λ k. if k == address then option_map (λ _. byte) (bytes k) else bytes k

-- the n low bytes of a value at the n addresses from one on, lowest first
abbrev pub stored : Cells → ℕ → ℕ → ℕ → Cells
stored bytes address zero value = bytes
stored bytes address (suc n) value = stored (replaced bytes address (value % 256)) (address + 1) n (value / 256)

-- the width is 1, 2 or 4, and the address a multiple of it
abbrev pub is_aligned : ℕ → ℕ → Bool
is_aligned address width = (width == 1 || width == 2 || width == 4) && address % width == 0

-- what an access needs, as a number: nothing where it is not aligned or a byte is not there
abbrev pub loaded : Cells → ℕ → ℕ → Option ℕ
loaded bytes address width = if is_aligned address width then gathered bytes address width else None

-- plain bytes: a done load answers them and alters nothing, a done store answers 0 and replaces its bytes alone
abbrev pub plain : Cells → Access → Option (ℕ × Cells)
plain bytes (Load address width) = option_map (λ value. (value, bytes)) (loaded bytes address width)
plain bytes (Store address width value) = option_map (λ _. (0, stored bytes address width value)) (loaded bytes address width)

-- a program memory: a done fetch answers the word at a multiple of 4 and alters nothing
abbrev pub word_at : Cells → ℕ → Option ℕ
word_at words address = if address % 4 == 0 then words address else None

abbrev pub fetched : Cells → ℕ → Option (ℕ × Cells)
fetched words address = option_map (λ word. (word, words)) (word_at words address)
