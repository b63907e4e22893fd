-- Sign extension: its law, and the shift up and back that computes it.
use Rattle.std.proofs.Common.{◌≡◌, ℕ, suc, ◌+◌, ◌-◌, ◌*◌, ◌%◌, ◌^◌, ◌<◌, ◌≤◌, sym, ap, ◌∙◌, inl, inr, arith, pow_mono}
use Rattle.std.proofs.Math.Nat.{mod-mod, pow-suc}
use lib.Pow.{high_ones}
use Rattle.std.specs.Int.{bit_at}
use Rattle.std.specs.Prelude.{bit_and}
use Rattle.std.proofs.lemmas.Bool.{cases_lt, lt-ltb, le-ltb}
use Rattle.std.proofs.lemmas.Nat.{pow_pos, shr_high, mod_low, mod_below, and_mask}
use Rattle.std.proofs.lemmas.Nat.Bits.{bit_at_above, bit_at_ones, bit_at_cat_high, same_from_bits_below}
use Rattle.instruction.specs.declared.operation.ShiftOp.TheVariants.{Left, RightArithmetic}
use Rattle.execute.specs.Extension.{sign_extended, CopiesSign, FilledWith}
use Rattle.execute.specs.Shifts.{shifted_by}
use Rattle.execute.proofs.Bits.{bit_kept, bit_left}
use Rattle.execute.proofs.Shifting.{moves_bit}

-- the law of an extension by zeros
pub fills_zero : (width n : ℕ) → FilledWith 0 width n (n % 2 ^ width)
fills_zero width n = record {
  low = mod-mod n (2 ^ width);
  high = λ k a b. bit_at_above (n % 2 ^ width) width k (mod_below n (2 ^ width) (pow_pos width)) a;
}

-- a mask of ones is such an extension
pub masked : (width n : ℕ) → FilledWith 0 width n (bit_and n (2 ^ width - 1))
masked width n = rw (and_mask n width) (fills_zero width n)

module _ (width n : ℕ) (some : 0 < width) (short : width ≤ 32) where
  small : n % 2 ^ width < 2 ^ width
  small = mod_below n (2 ^ width) (pow_pos width)

  -- bit width - 1 of n is that of its low bits
  top : bit_at n (width - 1) ≡ bit_at (n % 2 ^ width) (width - 1)
  top = sym (bit_kept n width (width - 1) (omega arith))

  positive : n % 2 ^ width < 2 ^ (width - 1) → bit_at n (width - 1) ≡ 0
  positive l = top ∙ bit_at_above (n % 2 ^ width) (width - 1) (width - 1) l (omega arith)

  negative : 2 ^ (width - 1) ≤ n % 2 ^ width → bit_at n (width - 1) ≡ 1
  negative g =
      let s : width ≡ suc (width - 1) = omega arith in
      let double : 2 ^ width ≡ 2 ^ (width - 1) * 2 = ap (λ (x : ℕ). 2 ^ x) s ∙ pow-suc 2 (width - 1) in
      let rest : ℕ = n % 2 ^ width - 2 ^ (width - 1) in
      let e : n % 2 ^ width ≡ 1 * 2 ^ (width - 1) + rest = omega arith in
      top ∙ ap (λ (x : ℕ). bit_at x (width - 1)) e ∙ ap (λ (x : ℕ). x % 2) (shr_high 1 (width - 1) rest (omega (arith, small)))

  -- the bits above a negative number are ones
  above : n % 2 ^ width + (2 ^ 32 - 2 ^ width) ≡ (2 ^ (32 - width) - 1) * 2 ^ width + n % 2 ^ width
  above =
      let e : 32 - width + width ≡ 32 = omega arith in
      let f : 2 ^ (32 - width + width) ≡ 2 ^ 32 = ap (λ (x : ℕ). 2 ^ x) e in
      omega (arith, high_ones (32 - width) width)

  copies_one : 2 ^ (width - 1) ≤ n % 2 ^ width → CopiesSign width n (n % 2 ^ width + (2 ^ 32 - 2 ^ width))
  copies_one g = record {
    low = ap (λ (x : ℕ). x % 2 ^ width) above ∙ mod_low (2 ^ (32 - width) - 1) width (n % 2 ^ width) small;
    high = λ k a b.
        ap (λ (x : ℕ). bit_at x k) above
        ∙ bit_at_cat_high (2 ^ (32 - width) - 1) width (n % 2 ^ width) k small a
        ∙ bit_at_ones (32 - width) (k - width) (omega arith) ∙ sym (negative g);
  }

  pub copies_sign : CopiesSign width n (sign_extended width n)
  copies_sign =
      let zeros = fills_zero width n in
      elim (cases_lt (n % 2 ^ width) (2 ^ (width - 1))) [
        | inl l ↦ rw (lt-ltb (n % 2 ^ width) (2 ^ (width - 1)) l) (record { low = zeros.low; high = λ k a b. zeros.high k a b ∙ sym (positive l) })
        | inr g ↦ rw (le-ltb (n % 2 ^ width) (2 ^ (width - 1)) g) (copies_one g)
      ]

  extended_fits : sign_extended width n < 2 ^ 32
  extended_fits =
      let whole : 2 ^ width ≤ 2 ^ 32 = pow_mono short in
      elim (cases_lt (n % 2 ^ width) (2 ^ (width - 1))) [
        | inl l ↦ rw (lt-ltb (n % 2 ^ width) (2 ^ (width - 1)) l) (omega (arith, small))
        | inr g ↦ rw (le-ltb (n % 2 ^ width) (2 ^ (width - 1)) g) (omega (arith, small))
      ]

  -- a shift up, so that bit width - 1 is the highest, and back
  module _ (u : ℕ) (whole : width + u ≡ 32) where
    up : (k : ℕ) → u ≤ k → k < 32 → bit_at (shifted_by Left n u) k ≡ bit_at n (k - u)
    up k a b = bit_kept (n * 2 ^ u) 32 k b ∙ bit_left n u k a

    back : (k : ℕ) → k < 32 → bit_at (shifted_by RightArithmetic (shifted_by Left n u) u) k ≡ bit_at (sign_extended width n) k
    back k h =
        let word : shifted_by Left n u < 2 ^ 32 = omega arith in
        moves_bit (shifted_by Left n u) u k word h RightArithmetic
        ∙ elim (cases_lt k width) [
          | inl l ↦
              let e : k + u - u ≡ k = omega arith in
              rw (lt-ltb (k + u) 32 (omega arith))
              (up (k + u) (omega arith) (omega arith) ∙ ap (bit_at n) e ∙ sym (bit_kept n width k l)
              ∙ sym (ap (λ (x : ℕ). bit_at x k) copies_sign.low) ∙ bit_kept (sign_extended width n) width k l)
          | inr g ↦
              let e : 31 - u ≡ width - 1 = omega arith in
              rw (le-ltb (k + u) 32 (omega arith)) (up 31 (omega arith) (omega arith) ∙ ap (bit_at n) e ∙ sym (copies_sign.high k g h))
        ]

    pub sign_extends : (r : ℕ) → r < 2 ^ 32 → r ≡ shifted_by RightArithmetic (shifted_by Left n u) u → r ≡ sign_extended width n
    sign_extends r fits e = same_from_bits_below 32 r (sign_extended width n) fits extended_fits (λ k h. ap (λ (x : ℕ). bit_at x k) e ∙ back k h)
