use Rattle.std.proofs.Common.{◌≡◌, ℕ, List, ◌++◌, drop, string_bytes, Some}
use Rattle.disassembly.specs.Text.{lines_of}
use Rattle.disassembly.proofs.text.write_lines.Given as goal

abbrev pub invariant-loop-row : goal.invariant-loop-row
invariant-loop-row g l =
    (line : g.row.T.Denot → List ℕ) → ((row : g.row.T.Denot) → g.T.Display.output row ≡ Some (line row))
    → string_bytes l.text ++ lines_of line (drop l.row-index l.rows) ≡ string_bytes l.initial.text ++ lines_of line l.rows
