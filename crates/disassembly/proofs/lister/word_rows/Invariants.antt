use Rattle.std.proofs.Common.{◌≡◌, ◌≤◌, length, vec_items, vec_len, vec_capacity}
use Rattle.disassembly.specs.Rows.{word_rows}
use Rattle.disassembly.proofs.lister.word_rows.Given as goal

abbrev pub invariant-loop-k : goal.invariant-loop-k
invariant-loop-k l =
    (vec_items l.words ≡ word_rows l.blocks l.program l.k)
    × (vec_len l.words ≤ l.k)
    × (length l.program ≤ vec_capacity l.words)
