-- Answers of memories that never wait, and of fetches. Other crates cite these.
use Rattle.std.proofs.Common.{◌≡◌, ℕ, Some, None, Option, refl}
use Rattle.std.specs.Option.{option_map}
use Rattle.memory.specs.Promise.{Effect, answer_of, value_of, meaning_after, Says}
use Rattle.memory.specs.declared.access.Answer.{Answer}

module _ {M : Type 0} where
  effect_says : (e : Effect M) (m : M) (p q : ℕ) → Says e m (meaning_after e m) p q (answer_of e)
  effect_says None m p q = (refl, refl)
  effect_says (Some (v, n)) m p q = refl

  -- the answer and the meaning after it are those of the effect
  pub says_effect : (e : Effect M) (m n : M) (p q : ℕ) (r : Answer) → r ≡ answer_of e → n ≡ meaning_after e m → Says e m n p q r
  says_effect e m n p q r a b = rw (a, b) (effect_says e m p q)

  -- a load of plain bytes, or a fetch, alters nothing
  pub after_read : (o : Option ℕ) (m : M) → meaning_after (option_map (λ (v : ℕ). (v, m)) o) m ≡ m
  after_read None m = refl
  after_read (Some v) m = refl

  pub value_read : (o : Option ℕ) (m : M) → value_of (option_map (λ (v : ℕ). (v, m)) o) ≡ o
  value_read None m = refl
  value_read (Some v) m = refl

  -- its answer is that of the value, whatever the meaning is
  pub answer_read : {N : Type 0} (o : Option ℕ) (m : M) (n : N) → answer_of (option_map (λ (v : ℕ). (v, m)) o) ≡ answer_of (option_map (λ (v : ℕ). (v, n)) o)
  answer_read None m n = refl
  answer_read (Some v) m n = refl
