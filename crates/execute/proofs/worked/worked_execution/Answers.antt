use Rattle.std.proofs.Common.{refl, ◌∙◌, mod-eq_of_lt}
use lib.Count.{count_trailing_zeros}
use Rattle.std.proofs.lemmas.Nat.{and_mask}
use Rattle.instruction.proofs.Reading.{reads}
use Rattle.execute.specs.Worked.{copy}
use Rattle.execute.proofs.worked.worked_execution.Goals as goal

pub returns-clause-worked : goal.returns-clause-worked
unfolding count_trailing_zeros
returns-clause-worked c = record {
  copy_read = reads 0x3022FFFF copy (refl, (refl, (refl, (refl, tt))));
  copied = λ a h. and_mask a 32 ∙ mod-eq_of_lt h;
  sum = refl;
  overflows = refl;
  overflow_counts = refl;
  overflow_level = refl;
  links = refl;
  calls = λ _ _. refl;
  trap_counts = refl;
  trap_level = refl;
}
