-- The image format: blocks of 512 bytes, and the fields of a block. All numbers have their lowest byte first.
use Rattle.std.specs.Prelude.{ℕ, zero, suc, ◌+◌, ◌*◌, ◌/◌, ◌%◌, ◌^◌, Bool, List, length, codes, ◌==◌, slice_index}
use Rattle.std.specs.List.{between, list_all}
use Rattle.image.specs.declared.Ends.{Ends}
use Rattle.image.specs.declared.Kind.{Kind}
use Rattle.image.specs.declared.Kind.TheVariants.{Program, Data, End}

-- The blocks of an image; their places are counted from 0.
abbrev pub block_count : List ℕ → ℕ
block_count image = length image / 512

abbrev pub block_at : List ℕ → ℕ → List ℕ
block_at image place = between (512 * place) (512 * place + 512) image

-- The word of four bytes that begins at byte k.
abbrev pub word_at : List ℕ → ℕ → ℕ
word_at bytes k = slice_index bytes k + slice_index bytes (k + 1) * 256 + slice_index bytes (k + 2) * 65536 + slice_index bytes (k + 3) * 16777216

abbrev pub all_zero : List ℕ → Bool
all_zero = list_all (λ byte. byte == 0)

-- The fields of a block b: its number, its kind and the zero after it, the count of its payload and the address that the payload is for.
abbrev pub number_of : List ℕ → ℕ
number_of b = word_at b 0

abbrev pub kind_byte : List ℕ → ℕ
kind_byte b = slice_index b 4

abbrev pub zero_byte : List ℕ → ℕ
zero_byte b = slice_index b 5

abbrev pub count_of : List ℕ → ℕ
count_of b = slice_index b 6 + slice_index b 7 * 256

abbrev pub address_of : List ℕ → ℕ
address_of b = word_at b 8

-- The payload, the bytes that it leaves free, and the check.
abbrev pub payload_of : List ℕ → List ℕ
payload_of b = between 12 (12 + count_of b) b

abbrev pub rest_of : List ℕ → List ℕ
rest_of b = between (12 + count_of b) 508 b

abbrev pub check_of : List ℕ → ℕ
check_of b = word_at b 508

-- The bytes that say the kinds.
abbrev pub kind_number : Kind → ℕ
kind_number Program = 1
kind_number Data = 2
kind_number End = 3

-- A kind as it is told.
abbrev pub kind_text : Kind → List ℕ
kind_text Program = codes "program"
kind_text Data = codes "data"
kind_text End = codes "end"

-- The end of the memory that a block of a kind is for. An end block has none.
abbrev pub end_for : Kind → Ends → ℕ
end_for Program ends = ends.program
end_for Data ends = ends.«data»
end_for End ends = 0

-- The sum of the first n words, a number that does not wrap; the check should be that of the 127 words before it, modulo 2^32.
unfoldable pub word_sum : List ℕ → ℕ → ℕ
word_sum b zero = 0
word_sum b (suc n) = word_sum b n + word_at b (4 * n)

abbrev pub wanted_check : List ℕ → ℕ
wanted_check b = word_sum b 127 % 2 ^ 32
