-- The waits of an access that is repeated from a fresh start.
use Rattle.std.proofs.Common.{◌≡◌, ℕ, zero, suc, ◌+◌, ◌-◌, ◌<◌, ◌≤◌, true, false, Some, None, Option, sym, refl, ap, ◌∙◌, subst, inl, inr, arith}
use Rattle.std.proofs.lemmas.Bool.{cases_lt, lt-ltb, le-ltb, eq-eqb}
use Rattle.memory.specs.Settling.{Waited, Settled}
use Rattle.memory.specs.declared.access.Access.TheVariants.{Load, Store}
use Rattle.memory.specs.declared.access.Answer.{Answer}
use Rattle.memory.specs.declared.access.Answer.TheVariants.{Wait}
use Rattle.memory.specs.declared.access.Request.{Request}
use Rattle.memory.specs.declared.access.Request.TheVariants.{Fetch, Data}
use Rattle.slow.specs.declared.counter_state.Waiting.{Waiting}
use Rattle.slow.specs.declared.counter_state.WaitCounter.{WaitCounter}
use Rattle.slow.specs.Waits.{is_same, is_waiting, given_in, given_to, remaining, after_own_wait, after_below}
use Rattle.slow.specs.Behaviour.{Delays, open_waits}
use Rattle.slow.specs.Repetition.{Fresh, Repetition}

same_self : (x : Request) → is_same x x ≡ true
same_self (Fetch a) = eq-eqb a a refl
same_self (Data (Load a w)) = rw (eq-eqb a a refl, eq-eqb w w refl)
same_self (Data (Store a w v)) = rw (eq-eqb a a refl, eq-eqb w w refl, eq-eqb v v refl)

given_next : (c : WaitCounter) (x : Request) → given_to (after_own_wait c x) x ≡ given_to c x + 1
given_next c x = rw (same_self x) refl

given_still : (c : WaitCounter) (x : Request) → given_to (after_below c x Wait) x ≡ given_to c x
given_still c x = rw (same_self x) refl

none_given_in : (waiting : Option Waiting) (x : Request) → is_waiting waiting x ≡ false → given_in waiting x ≡ 0
none_given_in None x e = refl
none_given_in (Some waiting) x e = rw e refl

module _ {S B X : Type 0} (counter : S → WaitCounter) (below : S → B) (requested : X → Request) (behaves : B → X → Answer → B → Type 0) (waits : B → X → ℕ) (x : X) (s : S) (fresh : Fresh (counter s) (requested x)) where
  -- after n waits: as many own ones as there are were given first, and the others came from below
  pub record Given (n : ℕ) (t : S) : Type 0 where
    pub own : (counter t).own ≡ (counter s).own
    pub some_own : n ≤ (counter s).own → given_to (counter t) (requested x) ≡ n
    pub all_own : (counter s).own ≤ n → given_to (counter t) (requested x) ≡ (counter s).own
    pub inner : Waited behaves x (n - (counter s).own) (below s) (below t)

  none_given : given_to (counter s) (requested x) ≡ 0
  none_given = none_given_in (counter s).waiting (requested x) fresh

  own_wait : (n : ℕ) (u t : S) → Given n u → n < (counter s).own → Delays counter below requested behaves u x Wait t → Given (suc n) t
  own_wait n u t p l d =
      let given : given_to (counter u) (requested x) ≡ n = p.some_own (omega arith) in
      let own = p.own in
      let more : 0 < remaining (counter u) (requested x) = omega arith in
      let e = rw (lt-ltb 0 (remaining (counter u) (requested x)) more) at d in
      let next : given_to (counter t) (requested x) ≡ suc n = ap (λ (c : WaitCounter). given_to c (requested x)) e.1 ∙ given_next (counter u) (requested x) ∙ (omega arith) in
      let still : suc n - (counter s).own ≡ n - (counter s).own = omega arith in
      record {
        own = ap (λ (c : WaitCounter). c.own) e.1 ∙ own;
        some_own = λ _. next;
        all_own = λ h. next ∙ (omega arith);
        inner =
            subst (λ (b : B). Waited behaves x (suc n - (counter s).own) (below s) b) (sym e.2)
            (subst (λ (k : ℕ). Waited behaves x k (below s) (below u)) (sym still) p.inner);
      }

  below_wait : (n : ℕ) (u t : S) → Given n u → (counter s).own ≤ n → Delays counter below requested behaves u x Wait t → Given (suc n) t
  below_wait n u t p l d =
      let given : given_to (counter u) (requested x) ≡ (counter s).own = p.all_own l in
      let own = p.own in
      let none : remaining (counter u) (requested x) ≤ 0 = omega arith in
      let e = rw (le-ltb 0 (remaining (counter u) (requested x)) none) at d in
      let next : given_to (counter t) (requested x) ≡ (counter s).own = ap (λ (c : WaitCounter). given_to c (requested x)) e.0 ∙ given_still (counter u) (requested x) ∙ given in
      let more : suc (n - (counter s).own) ≡ suc n - (counter s).own = omega arith in
      record {
        own = ap (λ (c : WaitCounter). c.own) e.0 ∙ own;
        some_own = λ h. absurd (omega arith);
        all_own = λ _. next;
        inner = subst (λ (k : ℕ). Waited behaves x k (below s) (below t)) more (below u, p.inner, e.1);
      }

  given_after : (n : ℕ) (t : S) → Waited (Delays counter below requested behaves) x n s t → Given n t
  given_after zero t w =
      let none : 0 - (counter s).own ≡ 0 = omega arith in
      record {
        own = ap (λ (v : S). (counter v).own) w;
        some_own = λ _. ap (λ (v : S). given_to (counter v) (requested x)) w ∙ none_given;
        all_own = λ h. ap (λ (v : S). given_to (counter v) (requested x)) w ∙ none_given ∙ (omega arith);
        inner = subst (λ (k : ℕ). Waited behaves x k (below s) (below t)) (sym none) (ap below w);
      }
  given_after (suc n) t w =
      let p = given_after n w.0 w.1 in
      elim (cases_lt n (counter s).own) [ inl l ↦ own_wait n w.0 t p l w.2 | inr g ↦ below_wait n w.0 t p g w.2 ]

  own_first : (t : S) (n : ℕ) → n ≤ (counter s).own → Waited (Delays counter below requested behaves) x n s t → below t ≡ below s
  own_first t n l w =
      let none : n - (counter s).own ≡ 0 = omega arith in
      subst (λ (k : ℕ). Waited behaves x k (below s) (below t)) none (given_after n t w).inner

  -- the last answer, which is no wait, came from below
  last_below : (n : ℕ) (u t : S) (r : Answer) → Given n u → (r ≡ Wait → ⊥) → Delays counter below requested behaves u x r t
      → ((counter s).own ≤ n) × behaves (below u) x r (below t)
  last_below n u t r p ended d =
      elim (cases_lt n (counter s).own) [
        | inl l ↦
            let given : given_to (counter u) (requested x) ≡ n = p.some_own (omega arith) in
            let own = p.own in
            let more : 0 < remaining (counter u) (requested x) = omega arith in
            let e = rw (lt-ltb 0 (remaining (counter u) (requested x)) more) at d in
            absurd (ended e.0)
        | inr g ↦
            let given : given_to (counter u) (requested x) ≡ (counter s).own = p.all_own g in
            let own = p.own in
            let none : remaining (counter u) (requested x) ≤ 0 = omega arith in
            let e = rw (le-ltb 0 (remaining (counter u) (requested x)) none) at d in
            (g, e.1)
      ]

  then_below : (t : S) (r : Answer) → (r ≡ Wait → ⊥) → (run : Settled (Delays counter below requested behaves) (open_waits counter below requested waits) x s r t)
      → (inner : Settled behaves waits x (below s) r (below t)) × (run.count ≡ (counter s).own + inner.count)
  then_below t r ended run =
      let p = given_after run.count run.last run.waited in
      let last = last_below run.count run.last t r p ended run.ended in
      let zero_given = none_given in
      let within = run.within in
      let enough = last.0 in
      (record { count = run.count - (counter s).own; last = below run.last; waited = p.inner; ended = last.1; within = omega arith }, omega arith)

module _ {S B X : Type 0} (counter : S → WaitCounter) (below : S → B) (requested : X → Request) (behaves : B → X → Answer → B → Type 0) (waits : B → X → ℕ) where
  pub repetition : Repetition counter below requested behaves waits
  repetition =
      record {
        own_first = λ x s t n fresh. own_first counter below requested behaves waits x s fresh t n;
        then_below = λ x s t r fresh. then_below counter below requested behaves waits x s fresh t r;
      }
