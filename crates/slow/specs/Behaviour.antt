-- The exact behaviour of a slow memory, whatever stands below it.
use Rattle.std.specs.Prelude.{◌≡◌, ℕ, ◌+◌, ◌≤◌, Bool, true, false, if◌then◌else◌, List, codes, Ok, Err, Result, nat_le, nat_lt}
use Rattle.std.proofs.Common.{arith}
use Rattle.memory.specs.declared.access.Answer.{Answer}
use Rattle.memory.specs.declared.access.Answer.TheVariants.{Wait}
use Rattle.memory.specs.declared.access.Request.{Request}
use Rattle.slow.specs.declared.counter_state.WaitCounter.{WaitCounter}
use Rattle.slow.specs.declared.refusal.WaitsRefusal.{WaitsRefusal}
use Rattle.slow.specs.declared.refusal.WaitsRefusal.TheVariants.{TooMany}
use Rattle.slow.specs.Waits.{remaining, after_own_wait, after_below}

-- the number of each refusal
abbrev pub refusal_number : WaitsRefusal → ℕ
refusal_number TooMany = 2

-- each refusal as people read it
abbrev pub refusal_text : WaitsRefusal → List ℕ
refusal_text TooMany = codes "more than 255 waits"

-- a check of so many waits
abbrev pub checked_waits : ℕ → Result (Unit {0}) WaitsRefusal
checked_waits n = if nat_le n 255 then Ok tt else Err TooMany

-- While an own wait remains, the answer is wait and the memory below is as it was. With none left the memory below was asked, and
-- Below says how it did.
abbrev pub DelayedWhile : {B : Type 0} → Bool → (counter counter' : WaitCounter) → (b b' : B) → Request → Answer → Type 0 → Type 0
DelayedWhile true counter counter' b b' x r Below = (r ≡ Wait) × (counter' ≡ after_own_wait counter x) × (b' ≡ b)
DelayedWhile false counter counter' b b' x r Below = (counter' ≡ after_below counter x r) × Below

-- A slow memory s over a memory below s, asked x: the counter tells whether an own wait remains.
module _ {S B X : Type 0} (counter : S → WaitCounter) (below : S → B) (requested : X → Request) where
  abbrev pub Delays : (B → X → Answer → B → Type 0) → S → X → Answer → S → Type 0
  Delays behaves s x r t =
      DelayedWhile (nat_lt 0 (remaining (counter s) (requested x))) (counter s) (counter t) (below s) (below t) (requested x) r (behaves (below s) x r (below t))

  -- the open waits: the own ones that remain, and those of the memory below
  abbrev pub open_waits : (B → X → ℕ) → S → X → ℕ
  open_waits waits s x = remaining (counter s) (requested x) + waits (below s) x

-- they never pass the own waits and the longest below together
pub sum_bounded : (counter : WaitCounter) (x : Request) {waiting longest : ℕ} → waiting ≤ longest → remaining counter x + waiting ≤ counter.own + longest
sum_bounded counter x h = omega arith
