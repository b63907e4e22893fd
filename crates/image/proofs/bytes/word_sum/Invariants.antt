use Rattle.std.proofs.Common.{◌≡◌, ◌%◌, ◌^◌}
use Rattle.image.proofs.Sums.{byte_sum}
use Rattle.image.proofs.bytes.word_sum.Given as goal

abbrev pub invariant-loop-i : goal.invariant-loop-i
invariant-loop-i l = l.sum ≡ byte_sum l.words l.i % 2 ^ 32
