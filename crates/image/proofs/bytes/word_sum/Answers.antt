use Rattle.std.proofs.Common.{◌≡◌, ◌%◌, ◌^◌, take, ap, ◌∙◌, arith, length-take, rules}
use Rattle.image.proofs.Sums.{byte_sum, bytes_none, bytes_more, bytes_take, bytes_words}
use Rattle.image.proofs.bytes.word_sum.Goals as goal

pub loop-i-init : goal.loop-i-init
loop-i-init c = search (rules, bytes_none)

pub loop-i-preserved : goal.loop-i-preserved
loop-i-preserved c = search (rules, bytes_more)

pub returns : goal.returns
returns c =
    let b = c.args.bytes.now in
    let n : c.loop-i.i ≡ 508 = omega (arith, length-take 508 b) in
    c.loop-i.invariant ∙ ap (λ s. s % 2 ^ 32) (ap (byte_sum (take 508 b)) n ∙ bytes_take b 508 508 (omega arith) ∙ bytes_words b 127)
