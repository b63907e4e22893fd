-- What each kind of storage means: the caller's words or bytes by their places, from address 0, as far as they are in use.
use Rattle.std.specs.Prelude.{ℕ, zero, suc, ◌+◌, ◌/◌, ◌%◌, Bool, false, if◌then◌else◌, ◌&&◌, List, length, is_some, Some, None, nat_lt, slice_index, slice_index_or, slice_set}
use Rattle.memory.specs.Bytes.{Cells, loaded}
use Rattle.memory.specs.declared.access.Access.{Access}
use Rattle.memory.specs.declared.access.Access.TheVariants.{Load, Store}

-- the elements of a list by their places, those in use
abbrev pub cells_of : (ℕ → Bool) → List ℕ → Cells
cells_of used xs = λ k. if used k && nat_lt k (length xs) then Some (slice_index xs k) else None

-- ROM uses at most 16,384 words; RAM at most 65,536 bytes; paged RAM those of them whose page, of 256 bytes, is there
abbrev pub rom_uses : ℕ → Bool
rom_uses k = nat_lt k 16384

abbrev pub ram_uses : ℕ → Bool
ram_uses k = nat_lt k 65536

abbrev pub paged_uses : List Bool → ℕ → Bool
paged_uses pages k = nat_lt k 65536 && slice_index_or pages (k / 256) false

-- the word at an address is the one at the place address / 4
abbrev pub rom_words : List ℕ → Cells
rom_words words = λ address. cells_of rom_uses words (address / 4)

-- the n low bytes of a value at the n places from one on, lowest first
abbrev pub set_bytes : List ℕ → ℕ → ℕ → ℕ → List ℕ
set_bytes bytes place zero value = bytes
set_bytes bytes place (suc n) value = set_bytes (slice_set bytes place (value % 256)) (place + 1) n (value / 256)

-- the caller's bytes after an access: a store that is done has set its own, and all else is as it was
abbrev pub bytes_after : (ℕ → Bool) → List ℕ → Access → List ℕ
bytes_after used bytes (Load address width) = bytes
bytes_after used bytes (Store address width value) =
    if is_some (loaded (cells_of used bytes) address width) then set_bytes bytes address width value else bytes
