use Rattle.std.proofs.Common.{◌≡◌}
use Rattle.image.specs.Load.{put_words}
use Rattle.image.proofs.loader.put_words.Given as goal

abbrev pub invariant-loop-i : goal.invariant-loop-i
invariant-loop-i l = l.program ≡ put_words l.initial.program l.at l.payload l.i
