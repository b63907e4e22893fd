-- The law of a request which is made of a slow memory again and again: its own waits come first, then those of the memory below, and
-- then the answer is that of the memory below.
use Rattle.std.specs.Prelude.{◌≡◌, ℕ, ◌+◌, ◌≤◌, false, ◌≢◌}
use Rattle.memory.specs.Settling.{Waited, Settled}
use Rattle.memory.specs.declared.access.Answer.{Answer}
use Rattle.memory.specs.declared.access.Answer.TheVariants.{Wait}
use Rattle.memory.specs.declared.access.Request.{Request}
use Rattle.slow.specs.declared.counter_state.WaitCounter.{WaitCounter}
use Rattle.slow.specs.Waits.{is_waiting}
use Rattle.slow.specs.Behaviour.{Delays, open_waits}

-- A fresh start: the request is not the one that waits. It was never asked, another one came between, or it has ended.
abbrev pub Fresh : WaitCounter → Request → Type 0
Fresh counter x = is_waiting counter.waiting x ≡ false

-- From a fresh start the first waits, as many as are its own, leave the memory below as it was; and a run up to the answer r waits its own
-- waits and those of a run of the memory below, which ends in r too.
pub record Repetition {S B X : Type 0} (counter : S → WaitCounter) (below : S → B) (requested : X → Request) (behaves : B → X → Answer → B → Type 0) (waits : B → X → ℕ) : Type 0 where
  pub own_first : (x : X) (s t : S) (n : ℕ) → Fresh (counter s) (requested x) → n ≤ (counter s).own
      → Waited (Delays counter below requested behaves) x n s t → below t ≡ below s
  pub then_below : (x : X) (s t : S) (r : Answer) → Fresh (counter s) (requested x) → (r ≢ Wait)
      → (run : Settled (Delays counter below requested behaves) (open_waits counter below requested waits) x s r t)
      → (inner : Settled behaves waits x (below s) r (below t)) × (run.count ≡ (counter s).own + inner.count)
