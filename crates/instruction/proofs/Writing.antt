-- The fields of an instruction stand one below another, each with a value that fits it.
use Rattle.std.proofs.Common.{◌≡◌, Some, rules}
use Rattle.instruction.specs.Layout.{layout, word_of}
use Rattle.instruction.specs.Laws.{Reads, UnusedZero}
use Rattle.instruction.specs.Table.{decoded_of}
use Rattle.instruction.specs.declared.instruction.Instruction.{Instruction}
use Rattle.instruction.proofs.Placing.{Laid, holds_placed, outside_zero}
use Rattle.instruction.proofs.Reading.{reads}

laid : (i : Instruction) → Laid (layout i) 32
laid i = search rules

-- an instruction's word reads as the instruction, and its unused bits are 0

pub own_reads : (i : Instruction) → Reads (word_of i) i
unfolding word_of
own_reads i = holds_placed (layout i) 32 (laid i)

pub own_unused : (i : Instruction) → UnusedZero i (word_of i)
unfolding word_of
own_unused i k out = outside_zero (layout i) 32 k (laid i) out

pub own_decoded : (i : Instruction) → decoded_of (word_of i) ≡ Some i
own_decoded i = reads (word_of i) i (own_reads i)

pub ruleset own_word = (own_reads, own_unused, own_decoded)
