-- Bits of parts of a number, and of shifted numbers.
use Rattle.std.proofs.Common.{◌≡◌, ℕ, ◌+◌, ◌-◌, ◌*◌, ◌/◌, ◌%◌, ◌^◌, ◌<◌, ◌≤◌, sym, ap, ◌∙◌, add_comm, add-zero}
use Rattle.std.specs.Int.{bit_at}
use Rattle.std.proofs.lemmas.Nat.{pow_pos, shr_split, shr-shr}
use Rattle.std.proofs.lemmas.Nat.Bits.{bit_at-zero, bit_at_cat_low, bit_at_cat_high}

-- the low `width` bits of n are n's
pub bit_kept : (n width k : ℕ) → k < width → bit_at (n % 2 ^ width) k ≡ bit_at n k
bit_kept n width k h = sym (ap (λ (x : ℕ). bit_at x k) (sym (shr_split n width)) ∙ bit_at_cat_low (n / 2 ^ width) width (n % 2 ^ width) k h)

pub bit_right : (a n k : ℕ) → bit_at (a / 2 ^ n) k ≡ bit_at a (k + n)
bit_right a n k = ap (λ (x : ℕ). x % 2) (shr-shr a n k) ∙ ap (bit_at a) (add_comm n k)

pub bit_left : (a n k : ℕ) → n ≤ k → bit_at (a * 2 ^ n) k ≡ bit_at a (k - n)
bit_left a n k h = rw add-zero at (bit_at_cat_high a n 0 k (pow_pos n) h)

pub bit_below : (a n k : ℕ) → k < n → bit_at (a * 2 ^ n) k ≡ 0
bit_below a n k h = rw add-zero at (bit_at_cat_low a n 0 k h ∙ bit_at-zero k)
