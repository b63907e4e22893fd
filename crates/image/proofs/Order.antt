-- The first rule that a block breaks, read off the tests of the rules; the first block that breaks one.
use Rattle.std.proofs.Common.{◌≡◌, ℕ, zero, suc, ◌+◌, ◌-◌, ◌<◌, Bool, true, false, cond, ◌⊎◌, List, [], ◌∷◌, Some, None, Option, refl, ap, ◌∙◌, ⊎_elim, arith}
use Rattle.std.proofs.lemmas.Bool.Decides.{nat_tests}
use Rattle.std.proofs.lemmas.Bool.{cases_order}
use Rattle.image.specs.declared.Ends.{Ends}
use Rattle.image.specs.declared.Fault.{Fault}
use Rattle.image.specs.declared.Fault.TheVariants.{Size, Check, Number, Kind, Count, Address, Stray, End}
use Rattle.image.specs.declared.Refusal.{Refusal}
use Rattle.image.specs.Format.{block_count}
use Rattle.image.specs.Rules.{fault_number, first_of, fault_of, fault_at, breaks, wrong_size, refusing, or_else, refusal_below, first_refusal}
use Rattle.image.specs.Laws.{Accepted, Refused}

-- the chain of the rules over any tests
module _ (t : Fault → Bool) where
  abbrev chain : Option Fault
  chain = first_of ((t Check, Check) ∷ (t Number, Number) ∷ (t Kind, Kind) ∷ (t Count, Count) ∷ (t Address, Address) ∷ (t Stray, Stray) ∷ (t End, End) ∷ [])

  none : t Size ≡ false → chain ≡ None → (rule : Fault) → t rule ≡ false
  none p q Size = p
  none p q Check = grind (arith, nat_tests)
  none p q Number = grind (arith, nat_tests)
  none p q Kind = grind (arith, nat_tests)
  none p q Count = grind (arith, nat_tests)
  none p q Address = grind (arith, nat_tests)
  none p q Stray = grind (arith, nat_tests)
  none p q End = grind (arith, nat_tests)

  some : (x : Fault) → chain ≡ Some x → t x ≡ true
  some Size q = grind (arith, nat_tests)
  some Check q = grind (arith, nat_tests)
  some Number q = grind (arith, nat_tests)
  some Kind q = grind (arith, nat_tests)
  some Count q = grind (arith, nat_tests)
  some Address q = grind (arith, nat_tests)
  some Stray q = grind (arith, nat_tests)
  some End q = grind (arith, nat_tests)

  no_size : (x : Fault) → chain ≡ Some x → x ≡ Size → ⊥
  no_size x q e = grind (arith, nat_tests)

  before : (x : Fault) → t Size ≡ false → chain ≡ Some x → (y : Fault) → fault_number y < fault_number x → t y ≡ false
  before x p q Size h = p
  before x p q Check h = grind (arith, nat_tests)
  before x p q Number h = grind (arith, nat_tests)
  before x p q Kind h = grind (arith, nat_tests)
  before x p q Count h = grind (arith, nat_tests)
  before x p q Address h = grind (arith, nat_tests)
  before x p q Stray h = grind (arith, nat_tests)
  before x p q End h = grind (arith, nat_tests)

first_number : (f : Fault) → fault_number f < 3 → ⊥
first_number Size h = omega arith
first_number Check h = omega arith
first_number Number h = omega arith
first_number Kind h = omega arith
first_number Count h = omega arith
first_number Address h = omega arith
first_number Stray h = omega arith
first_number End h = omega arith

-- a refusal at a place is a fault at that place
pub refusing_some : (i : ℕ) (o : Option Fault) (r : Refusal) → refusing i o ≡ Some r → (o ≡ Some r.fault) × (i ≡ r.block)
refusing_some i None r e = absurd (let z : ◌≡◌ {A = ℕ} 0 1 = cc in omega arith)
refusing_some i (Some f) r e =
    let q : record { fault = f; block = i } ≡ r = cc in
    (ap (λ (x : Refusal). Some x.fault) q, ap (λ (x : Refusal). x.block) q)

module _ (image : List ℕ) (ends : Ends) where
  -- no block before i breaks a rule
  abbrev pub Sound : ℕ → Type 0
  Sound i = (j : ℕ) → j < i → fault_at image ends j ≡ None

  below : (n : ℕ) → Sound n → refusal_below image ends n ≡ None
  unfolding refusal_below
  below zero h = refl
  below (suc n) h = let p = below n (λ j l. h j (omega arith)) in let q = h n (omega arith) in cc

  here : (i : ℕ) (f : Fault) → Sound i → fault_at image ends i ≡ Some f → (m : ℕ) → refusal_below image ends (suc i + m) ≡ Some (record { fault = f; block = i })
  unfolding refusal_below
  here i f h e zero = let z : suc i + 0 ≡ suc i = omega arith in let p = below i h in ap (refusal_below image ends) z ∙ cc
  here i f h e (suc m) = let z : suc i + suc m ≡ suc (suc i + m) = omega arith in let p = here i f h e m in ap (refusal_below image ends) z ∙ cc

  first_none : (a b : Option Refusal) → or_else a b ≡ None → (a ≡ None) × (b ≡ None)
  first_none None b e = (refl, e)
  first_none (Some r) b e = absurd (let z : ◌≡◌ {A = ℕ} 0 1 = cc in omega arith)

  no_refusal : (i : ℕ) (o : Option Fault) → refusing i o ≡ None → o ≡ None
  no_refusal i None e = refl
  no_refusal i (Some f) e = absurd (let z : ◌≡◌ {A = ℕ} 0 1 = cc in omega arith)

  pub each_sound : (n : ℕ) → refusal_below image ends n ≡ None → Sound n
  unfolding refusal_below
  each_sound zero e j l = absurd (omega arith)
  each_sound (suc n) e j l =
      let p = first_none (refusal_below image ends n) (refusing n (fault_at image ends n)) e in
      ⊎_elim (λ (q : j ≡ n). ap (fault_at image ends) q ∙ no_refusal n (fault_at image ends n) p.1) (λ (q : (j < n) ⊎ (n < j)). each_sound n p.0 j (omega arith))
      (cases_order j n)

  module _ (sized : wrong_size image ≡ false) where
    pub no_rule : (i : ℕ) → fault_at image ends i ≡ None → (rule : Fault) → breaks image ends i rule ≡ false
    unfolding fault_of
    no_rule i e = none (breaks image ends i) sized e

    sized_first : first_refusal image ends ≡ refusal_below image ends (block_count image)
    sized_first = ap (λ v. cond v (refusing 0 (Some Size)) (refusal_below image ends (block_count image))) sized

    pub accepted : Sound (block_count image) → (first_refusal image ends ≡ None) × Accepted image ends
    accepted h = (sized_first ∙ below (block_count image) h, record { sized = sized; unbroken = λ i l. no_rule i (h i l) })

    pub refused : (i : ℕ) (f : Fault) → i < block_count image → Sound i → fault_at image ends i ≡ Some f
        → (first_refusal image ends ≡ Some (record { fault = f; block = i })) × Refused image ends f i
    unfolding fault_of
    refused i f l h e =
        let z : block_count image ≡ suc i + (block_count image - suc i) = omega arith in (
          sized_first ∙ ap (refusal_below image ends) z ∙ here i f h e (block_count image - suc i),
          record {
            broken = some (breaks image ends i) f e;
            first_rule = before (breaks image ends i) f sized e;
            first_block = λ j k. no_rule j (h j k);
            size_at_0 = λ q. absurd (no_size (breaks image ends i) f e q);
            sized = λ _. sized;
            within = λ _. l;
          },
        )

  pub refused_size : wrong_size image ≡ true → (first_refusal image ends ≡ Some (record { fault = Size; block = 0 })) × Refused image ends Size 0
  refused_size w = (
    ap (λ v. cond v (refusing 0 (Some Size)) (refusal_below image ends (block_count image))) w,
    record {
      broken = w;
      first_rule = λ rule h. absurd (first_number rule h);
      first_block = λ j k. absurd (omega arith);
      size_at_0 = λ _. refl;
      sized = λ no'. absurd (no' refl);
      within = λ no'. absurd (no' refl);
    },
  )
