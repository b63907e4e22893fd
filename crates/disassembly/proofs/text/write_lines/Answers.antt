use Rattle.std.proofs.Common.{◌≡◌, [], ◌∷◌, ◌++◌, string_bytes, ap, ◌∙◌}
use Rattle.disassembly.proofs.Lines.{line_more, line_all}
use Rattle.disassembly.proofs.text.write_lines.Goals as goal

pub loop-row-preserved : goal.loop-row-preserved
loop-row-preserved g c line known =
    let row = c.row-item.result in
    let w : string_bytes c.writeln.new.self ≡ string_bytes c.loop-row.text ++ (line row ++ (10 ∷ [])) = rw (known row) at c.in_ok-writeln.ensures.bytes in
    line_more line c.args.rows.now c.loop-row.row-index _ (string_bytes c.loop-row.text) (c.loop-row.invariant line known) row _ c.loop-row-test.true
    (w ∙ ap (λ r. string_bytes c.loop-row.text ++ (line r ++ (10 ∷ []))) c.row-item.is)

pub returns : goal.returns
returns g c line known = line_all line c.args.rows.now c.loop-row.row-index _ (string_bytes c.loop-row.text) (c.loop-row.invariant line known) c.loop-row-test.false
