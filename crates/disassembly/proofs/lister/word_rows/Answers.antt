use Rattle.std.proofs.Common.{◌≡◌, length, vec_items, vec_len, vec_capacity, sym, ap, ◌∙◌, arith}
use Rattle.disassembly.proofs.Rowing.{words_none, word_written, word_left}
use Rattle.disassembly.proofs.lister.word_rows.Goals as goal
use Rattle.disassembly.proofs.lister.word_rows.Goals.{then-is_covered, else-is_covered}

pub loop-k-init : goal.loop-k-init
loop-k-init c =
    let v = c.args.words.now in
    let e : vec_len v ≡ 0 = v.ok.0 ∙ ap length c.requires.empty in
    (c.requires.empty ∙ sym (words_none c.args.blocks.now c.args.program.now), omega arith, c.requires.room)

pub loop-k-preserved : goal.loop-k-preserved
loop-k-preserved c =
    elim c.if-is_covered.branch [
      | then-is_covered w ↦
          let m = word_written c.args.blocks.now c.args.program.now c.loop-k.k w.if-is_covered.ensures in
          let p = w.push_reserved.ensures in
          let i = c.loop-k.invariant.0 in
          let e = ap vec_items w.words-is in
          (cc, omega (arith, ap vec_len w.words-is, p.len), omega (arith, ap vec_capacity w.words-is, p.capacity))
      | else-is_covered w ↦
          let m = word_left c.args.blocks.now c.args.program.now c.loop-k.k w.if-is_covered.ensures in
          let i = c.loop-k.invariant.0 in
          let e = ap vec_items w.words-is in
          (cc, omega (arith, ap vec_len w.words-is), omega (arith, ap vec_capacity w.words-is))
    ]
