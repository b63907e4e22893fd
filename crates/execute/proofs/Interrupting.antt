-- The laws of causes: a bit set, the causes that count, and the lowest 1 bit by the count of trailing zeros.
use Rattle.std.proofs.Common.{◌≡◌, ℕ, ◌*◌, ◌%◌, ◌^◌, ◌<◌, min, max, ap, ◌∙◌, inl, inr, arith}
use Rattle.std.specs.Int.{w32, bit_at}
use Rattle.std.specs.Prelude.{bit_or}
use Rattle.std.proofs.lemmas.Bool.{cases_lt, cases_eq, eq-eqb, ne_eqb}
use Rattle.std.proofs.lemmas.Nat.Bits.{bit_at_and, bit_at_or, bit_at_set_same, bit_at_set_other, bit_at_ones, bit_at_ones_above, bit_at-trailing_zeros}
use Rattle.execute.specs.Causes.{BitSet, counted_of, Counts, Counted, level_of, Lowest}

pub bit_set : (n word : ℕ) → n < 32 → BitSet n word (bit_or word (1 * 2 ^ n % 2 ^ 32))
bit_set n word h = record { here = bit_at_set_same w32 word n h; others = bit_at_set_other w32 word n h }

module _ (causes status : ℕ) where
  masked : (k : ℕ) → bit_at (counted_of causes status) k ≡ min (bit_at causes k) (max (bit_at status k) (bit_at 63 k))
  masked k = bit_at_and causes (bit_or status 63) k ∙ ap (min (bit_at causes k)) (bit_at_or status 63 k)

  stays : (k : ℕ) → Counts status k → bit_at (counted_of causes status) k ≡ bit_at causes k
  stays k (inl l) = masked k ∙ omega (arith, bit_at_ones 6 k l)
  stays k (inr e) = masked k ∙ omega arith

  goes : (k : ℕ) → (Counts status k → ⊥) → bit_at (counted_of causes status) k ≡ 0
  goes k h =
      elim (cases_lt k 6) [
        | inl l ↦ absurd (h (inl l))
        | inr g ↦ elim (cases_lt (bit_at status k) 1) [
          | inl z ↦ (masked k ∙ omega (arith, bit_at_ones_above 6 k g))
          | inr o ↦ absurd (h (inr (omega arith)))
        ]
      ]

  pub counts : Counted causes status (counted_of causes status)
  counts = record { stays = stays; goes = goes }

pub lowest : (word : ℕ) → word < 2 ^ 32 → Lowest word (level_of word)
lowest word h =
    elim (cases_eq word 0) [
      | inl e ↦ rw (eq-eqb word 0 e) e
      | inr n ↦
          let f = bit_at-trailing_zeros w32 word (omega arith) h in
          rw (ne_eqb word 0 n) (record { inside = f.0; one = f.1; below = f.2 })
    ]
