-- What loading an image leaves in the program's words and the data's bytes.
use Rattle.std.specs.Prelude.{◌≡◌, ℕ, zero, suc, ◌+◌, ◌*◌, ◌/◌, ◌≤◌, if◌then◌else◌, List, ◌++◌, length, take, drop, Some, None, Ok, Err, Result, ◌==◌, slice_set}
use Rattle.image.specs.declared.Ends.{Ends}
use Rattle.image.specs.declared.Refusal.{Refusal}
use Rattle.image.specs.Format.{block_count, block_at, word_at, kind_byte, address_of, payload_of}
use Rattle.image.specs.Rules.{first_refusal}

-- The ends of the memories: a word of the program has four bytes.
abbrev pub ends_of : List ℕ → List ℕ → Ends
ends_of program bytes = record { program = 4 * length program; «data» = length bytes }

-- The first n words of a payload, put from the word `at` on.
unfoldable pub put_words : List ℕ → ℕ → List ℕ → ℕ → List ℕ
put_words program at payload zero = program
put_words program at payload (suc n) = slice_set (put_words program at payload n) (at + n) (word_at payload (4 * n))

-- A payload, put from the byte `at` on.
abbrev pub put_bytes : List ℕ → ℕ → List ℕ → List ℕ
put_bytes bytes at payload = take at bytes ++ (payload ++ drop (at + length payload) bytes)

-- One block: kind 1 goes into the program, kind 2 into the data, and an end block into neither.
abbrev pub words_with : ℕ → ℕ → List ℕ → List ℕ → List ℕ
words_with kind address payload program = if kind == 1 then put_words program (address / 4) payload (length payload / 4) else program

abbrev pub bytes_with : ℕ → ℕ → List ℕ → List ℕ → List ℕ
bytes_with kind address payload bytes = if kind == 2 then put_bytes bytes address payload else bytes

-- Memories of so many words and bytes have room for the block.
pub record Room (kind address : ℕ) (payload : List ℕ) (words bytes : ℕ) : Type 0 where
  pub for_words : kind ≡ 1 → address / 4 + length payload / 4 ≤ words
  pub for_bytes : kind ≡ 2 → address + length payload ≤ bytes

-- The memories after the first n blocks, in file order.
unfoldable pub words_after : List ℕ → ℕ → List ℕ → List ℕ
words_after image zero program = program
words_after image (suc n) program =
    words_with (kind_byte (block_at image n)) (address_of (block_at image n)) (payload_of (block_at image n)) (words_after image n program)

unfoldable pub bytes_after : List ℕ → ℕ → List ℕ → List ℕ
bytes_after image zero bytes = bytes
bytes_after image (suc n) bytes =
    bytes_with (kind_byte (block_at image n)) (address_of (block_at image n)) (payload_of (block_at image n)) (bytes_after image n bytes)

-- An image is loaded whole, or refused with nothing changed.
abbrev pub Loaded : List ℕ → List ℕ → List ℕ → Result (Unit {0}) Refusal → List ℕ → List ℕ → Type 0
Loaded image program bytes (Ok _) program' bytes' =
    (first_refusal image (ends_of program bytes) ≡ None)
    × (program' ≡ words_after image (block_count image) program)
    × (bytes' ≡ bytes_after image (block_count image) bytes)
Loaded image program bytes (Err r) program' bytes' =
    (first_refusal image (ends_of program bytes) ≡ Some r) × (program' ≡ program) × (bytes' ≡ bytes)
