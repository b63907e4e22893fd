-- An access that is asked until it is answered.
use Rattle.std.specs.Prelude.{◌≡◌, ℕ, zero, suc, ◌≤◌}
use Rattle.memory.specs.declared.access.Answer.{Answer}
use Rattle.memory.specs.declared.access.Answer.TheVariants.{Wait}

-- asked x n times in a row, the memory waits each time, on its way from s to t
abbrev pub Waited : {S X : Type 0} → (S → X → Answer → S → Type 0) → X → ℕ → S → S → Type 0
Waited behaves x zero s t = t ≡ s
Waited {S} behaves x (suc n) s t = (u : S) × Waited behaves x n s u × behaves u x Wait t

-- Some waits, no more than were open, and then the answer r, each as the kind of memory behaves.
pub record Settled {S X : Type 0} (behaves : S → X → Answer → S → Type 0) (waits : S → X → ℕ) (x : X) (s : S) (r : Answer) (t : S) : Type 0 where
  pub count : ℕ
  pub last : S
  pub waited : Waited behaves x count s last
  pub ended : behaves last x r t
  pub within : count ≤ waits s x
