use Rattle.std.proofs.Common.{rules, arith, ◌≡◌, ◌/◌, ap, ◌∙◌, ◌*◌, length, get_or, []}
use Rattle.image.specs.Format.{word_at}
use Rattle.image.proofs.Cover.{words_none, words_more}
use Rattle.image.proofs.Chunks.{word_chunk}
use Rattle.image.proofs.loader.put_words.Goals as goal

pub loop-i-init : goal.loop-i-init
loop-i-init c = search (rules, words_none)

pub loop-i-preserved : goal.loop-i-preserved
loop-i-preserved c =
    let payload = c.args.payload.now in
    let i = c.loop-i.i in
    let e = words_more c.args.program.now c.args.at payload i in
    let f : word_at (get_or c.as_chunks.result.0.now i []) 0 ≡ word_at payload (4 * i) =
    ap (λ l. word_at (get_or l i []) 0) c.as_chunks.ensures.front ∙ word_chunk (length payload / 4) payload i (omega arith) in
    cc
