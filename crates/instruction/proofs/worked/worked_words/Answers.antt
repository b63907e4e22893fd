use Rattle.std.proofs.Common.{refl}
use Rattle.instruction.specs.Table.{decoded_of}
use Rattle.instruction.proofs.Reading.{reads}
use Rattle.instruction.proofs.worked.worked_words.Goals as goal

pub returns : goal.returns
unfolding decoded_of
returns c = record { worked = (reads 0x00211020 _ (refl, (refl, (refl, (refl, (refl, tt))))), refl); count = refl }
