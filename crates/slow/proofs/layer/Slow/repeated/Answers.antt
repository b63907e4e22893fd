use Rattle.slow.proofs.Repeating.{repetition}
use Rattle.slow.proofs.layer.Slow.repeated.Goals as goal

pub returns : goal.returns
returns g c = repetition _ _ _ _ _
