-- Fields joined by shifts and ors, from the highest down, are their sum.
use Rattle.std.proofs.Common.{◌≡◌, ℕ, ◌+◌, ◌*◌, ◌/◌, ◌%◌, ◌^◌, ◌<◌, ◌≤◌, ap, ◌∙◌, subst, arith}
use lib.Bits.{bit_or}
use Rattle.std.proofs.lemmas.Nat.{or_shifted, shr_split, shl_below, shl_whole}

-- a value below the bits of x
or_below : (x k v : ℕ) → x % 2 ^ k ≡ 0 → v < 2 ^ k → bit_or x v ≡ x + v
or_below x k v z h =
    let e : x / 2 ^ k * 2 ^ k ≡ x = omega (arith, shr_split x k, z) in
    subst (λ (y : ℕ). bit_or y v ≡ y + v) e (or_shifted (x / 2 ^ k) k v h)

-- a field of j bits at bit k, below the bits of x
or_field : (x k j v : ℕ) → x % 2 ^ (j + k) ≡ 0 → v < 2 ^ j → j + k ≤ 32 → bit_or x ((v * 2 ^ k) % 2 ^ 32) ≡ x + v * 2 ^ k
or_field x k j v z h l =
    ap (λ (y : ℕ). bit_or x y) (shl_whole v j k 32 h l) ∙ or_below x (j + k) (v * 2 ^ k) z (shl_below v j k h)

pub immediate_packed :
    (a b d e : ℕ) → a < 64 → b < 32 → d < 32 → e < 2 ^ 16
    → bit_or (bit_or (bit_or ((a * 2 ^ 26) % 2 ^ 32) ((b * 2 ^ 21) % 2 ^ 32)) ((d * 2 ^ 16) % 2 ^ 32)) e ≡ a * 2 ^ 26 + b * 2 ^ 21 + d * 2 ^ 16 + e
immediate_packed a b d e ha hb hd he =
    let p : (a * 2 ^ 26) % 2 ^ 32 ≡ a * 2 ^ 26 = omega arith in
    rw (
      p,
      or_field (a * 2 ^ 26) 21 5 b (omega arith) hb (omega arith),
      or_field (a * 2 ^ 26 + b * 2 ^ 21) 16 5 d (omega arith) hd (omega arith),
      or_below (a * 2 ^ 26 + b * 2 ^ 21 + d * 2 ^ 16) 16 e (omega arith) he,
    )

pub register_packed :
    (a b d e f : ℕ) → a < 32 → b < 32 → d < 32 → e < 32 → f < 64
    → bit_or (bit_or (bit_or (bit_or ((a * 2 ^ 21) % 2 ^ 32) ((b * 2 ^ 16) % 2 ^ 32)) ((d * 2 ^ 11) % 2 ^ 32)) ((e * 2 ^ 6) % 2 ^ 32)) f
    ≡ a * 2 ^ 21 + b * 2 ^ 16 + d * 2 ^ 11 + e * 2 ^ 6 + f
register_packed a b d e f ha hb hd he hf =
    let p : (a * 2 ^ 21) % 2 ^ 32 ≡ a * 2 ^ 21 = omega arith in
    rw (
      p,
      or_field (a * 2 ^ 21) 16 5 b (omega arith) hb (omega arith),
      or_field (a * 2 ^ 21 + b * 2 ^ 16) 11 5 d (omega arith) hd (omega arith),
      or_field (a * 2 ^ 21 + b * 2 ^ 16 + d * 2 ^ 11) 6 5 e (omega arith) he (omega arith),
      or_below (a * 2 ^ 21 + b * 2 ^ 16 + d * 2 ^ 11 + e * 2 ^ 6) 6 f (omega arith) hf,
    )
