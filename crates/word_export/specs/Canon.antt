-- A word read and written back.
use Rattle.std.specs.Prelude.{ℕ, ◌^◌, Some, None, Option}
use Rattle.instruction.specs.Layout.{word_of}
use Rattle.instruction.specs.declared.instruction.Instruction.{Instruction}

-- the word of what was read; where nothing was, 2 ^ 32, which is no word
abbrev pub written : Option Instruction → ℕ
written None = 2 ^ 32
written (Some i) = word_of i
