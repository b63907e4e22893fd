-- The lines of a listing, as bytes.
use Rattle.std.specs.Prelude.{ℕ, ◌/◌, ◌%◌, ◌^◌, false, List, [], ◌∷◌, ◌++◌, Some, None, vec_items, codes, decimal, Option}
use Rattle.std.specs.Fmt.{digit_glyph}
use Rattle.image.specs.Format.{kind_text}
use Rattle.image.specs.Rules.{refusal_text}
use Rattle.instruction.specs.Table.{decoded_of}
use Rattle.instruction.specs.declared.instruction.Instruction.{Instruction}
use Rattle.notation.specs.Notation.{text_of, notation_of}
use Rattle.disassembly.specs.declared.rows.BlockRow.{BlockRow}
use Rattle.disassembly.specs.declared.rows.WordRow.{WordRow}
use Rattle.disassembly.specs.declared.rows.Listing.{Listing}
use Rattle.disassembly.specs.declared.rows.ListError.{ListError}
use Rattle.disassembly.specs.declared.rows.ListError.TheVariants.{Refused, OutOfMemory}

-- a digit from 0 to 15, in lower case
abbrev pub digit_text : ℕ → List ℕ
digit_text n = digit_glyph false n ∷ []

-- a word as eight hexadecimal digits, the highest first
abbrev pub hex_text : ℕ → List ℕ
hex_text w =
    text_of (digit_text (w / 2 ^ 28 % 16) ∷ digit_text (w / 2 ^ 24 % 16) ∷ digit_text (w / 2 ^ 20 % 16) ∷ digit_text (w / 2 ^ 16 % 16)
    ∷ digit_text (w / 2 ^ 12 % 16) ∷ digit_text (w / 2 ^ 8 % 16) ∷ digit_text (w / 2 ^ 4 % 16) ∷ digit_text (w / 2 ^ 0 % 16) ∷ [])

-- block B KIND address A count N
abbrev pub block_line : BlockRow → List ℕ
block_line row =
    text_of (codes "block " ∷ decimal row.place ∷ codes " " ∷ kind_text row.kind ∷ codes " address " ∷ decimal row.address
    ∷ codes " count " ∷ decimal row.count ∷ [])

-- what a word reads as
abbrev pub read_text : Option Instruction → List ℕ
read_text (Some i) = notation_of i
read_text None = codes "illegal"

-- ADDRESS WORD text
abbrev pub word_line : WordRow → List ℕ
word_line row = text_of (hex_text row.address ∷ codes " " ∷ hex_text row.word ∷ codes " " ∷ read_text (decoded_of row.word) ∷ [])

-- lines one after another, each with its end
abbrev pub lines_of : {X : Type 0} → (X → List ℕ) → List X → List ℕ
lines_of line [] = []
lines_of line (row ∷ rows) = (line row ++ (10 ∷ [])) ++ lines_of line rows

-- all lines of a listing; the last is the number of data bytes written
abbrev pub text_of_listing : Listing → List ℕ
text_of_listing listing =
    (lines_of block_line (vec_items listing.blocks) ++ lines_of word_line (vec_items listing.words)) ++ (decimal listing.data_bytes ++ (10 ∷ []))

-- why there is no listing
abbrev pub error_text : ListError → List ℕ
error_text (Refused refusal) = refusal_text refusal
error_text OutOfMemory = codes "out of memory"
