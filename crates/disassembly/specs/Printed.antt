-- All that is printed of an image, as bytes.
use Rattle.std.specs.Prelude.{ℕ, List, [], ◌∷◌, ◌++◌, length, replicate, Some, None, decimal, Option}
use Rattle.image.specs.Format.{block_count}
use Rattle.image.specs.Load.{ends_of, words_after, bytes_after}
use Rattle.image.specs.Rules.{first_refusal, refusal_text}
use Rattle.image.specs.declared.Refusal.{Refusal}
use Rattle.disassembly.specs.Rows.{block_rows, word_rows, covered_bytes}
use Rattle.disassembly.specs.Text.{block_line, word_line, lines_of}

-- the memories before loading
unfoldable pub cleared_program : List ℕ
cleared_program = replicate 1024 0

unfoldable pub cleared_data : List ℕ
cleared_data = replicate 4096 0

-- the program words after loading
abbrev pub loaded_program : List ℕ → List ℕ
loaded_program image = words_after image (block_count image) cleared_program

abbrev pub loaded_data : List ℕ → List ℕ
loaded_data image = bytes_after image (block_count image) cleared_data

-- the listing of an image that breaks no rule: its blocks, its program words, the number of its data bytes
unfoldable pub listed_text : List ℕ → List ℕ
listed_text image =
    (lines_of block_line (block_rows image (block_count image))
    ++ lines_of word_line (word_rows (block_rows image (block_count image)) (loaded_program image) (length (loaded_program image))))
    ++ (decimal (covered_bytes (block_rows image (block_count image)) (length (loaded_data image))) ++ (10 ∷ []))

-- the line of a refusal
abbrev pub refused_text : Refusal → List ℕ
refused_text refusal = refusal_text refusal ++ (10 ∷ [])

abbrev pub printed_by : Option Refusal → List ℕ → List ℕ
printed_by None image = listed_text image
printed_by (Some refusal) image = refused_text refusal

abbrev pub printed : List ℕ → List ℕ
printed image = printed_by (first_refusal image (ends_of cleared_program cleared_data)) image
