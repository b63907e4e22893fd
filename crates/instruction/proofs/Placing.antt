-- Values put into fields one below another: each field holds its value, and every other bit is 0.
use Rattle.std.proofs.Common.{◌≡◌, ℕ, ◌+◌, ◌-◌, ◌*◌, ◌/◌, ◌%◌, ◌^◌, ◌<◌, ◌≤◌, List, [], ◌∷◌, sym, refl, ap, ◌∙◌, inl, inr, mod-eq_of_lt, mul_assoc, arith, pow_pos, pow_mono, pow-add}
use native.Mathlib.Nat.{mul-add-mod_self_right, div-eq_of_lt, zero-div}
use lib.Arith.{digits_lt}
use Rattle.std.proofs.lemmas.Nat.{field_of, shr_high}
use Rattle.instruction.specs.Fields.{Field, in_field}
use Rattle.instruction.specs.Layout.{placed, kept}
use Rattle.instruction.specs.Laws.{Holds, Outside, bit_of}

-- each field lies below bit `top` and below the fields before it, and its value fits it
abbrev pub Laid : List (Field × ℕ) → ℕ → Type 0
Laid [] top = Unit {0}
Laid (part ∷ parts) top = (part.0.low + part.0.width ≤ top) × ((part.1 < 2 ^ part.0.width) × Laid parts part.0.low)

-- what stands above a field does not matter to it
above_mod : (x y k m : ℕ) → m ≤ k → (x * 2 ^ k + y) % 2 ^ m ≡ y % 2 ^ m
above_mod x y k m h =
    let e : k ≡ (k - m) + m = omega arith in
    let p : 2 ^ k ≡ 2 ^ (k - m) * 2 ^ m = ap (λ (n : ℕ). 2 ^ n) e ∙ pow-add 2 (k - m) m in
    let q : x * 2 ^ k ≡ (x * 2 ^ (k - m)) * 2 ^ m = ap (λ (n : ℕ). x * n) p ∙ sym (mul_assoc x (2 ^ (k - m)) (2 ^ m)) in
    ap (λ (n : ℕ). (n + y) % 2 ^ m) q ∙ mul-add-mod_self_right (x * 2 ^ (k - m)) (2 ^ m) y

above : (f : Field) (x y k : ℕ) → f.low + f.width ≤ k → in_field f (x * 2 ^ k + y) ≡ in_field f y
above f x y k h =
    let m = f.width + f.low in
    sym (field_of (x * 2 ^ k + y) f.width f.low) ∙ ap (λ (n : ℕ). n / 2 ^ f.low) (above_mod x y k m (omega arith))
    ∙ field_of y f.width f.low

holds_above : (parts : List (Field × ℕ)) (top x y k : ℕ) → top ≤ k → Laid parts top → Holds parts y → Holds parts (x * 2 ^ k + y)
holds_above [] top x y k le laid h = tt
holds_above (part ∷ parts) top x y k le laid h =
    let l = laid.0 in
    (above part.0 x y k (omega arith) ∙ h.0, holds_above parts part.0.low x y k (omega arith) laid.1.1 h.1)

placed_below : (parts : List (Field × ℕ)) (top : ℕ) → Laid parts top → placed parts < 2 ^ top
placed_below [] top laid = pow_pos top
placed_below (part ∷ parts) top laid =
    let rest = placed_below parts part.0.low laid.1.1 in
    let here = digits_lt laid.1.0 rest in
    let e = pow-add 2 part.0.width part.0.low in
    let l = laid.0 in
    let le : 2 ^ (part.0.width + part.0.low) ≤ 2 ^ top = pow_mono (omega arith) in
    omega arith

pub holds_placed : (parts : List (Field × ℕ)) (top : ℕ) → Laid parts top → Holds parts (placed parts)
holds_placed [] top laid = tt
holds_placed (part ∷ parts) top laid =
    let rest = placed_below parts part.0.low laid.1.1 in (
      ap (λ (n : ℕ). n % 2 ^ part.0.width) (shr_high part.1 part.0.low (placed parts) rest) ∙ mod-eq_of_lt laid.1.0,
      holds_above parts part.0.low part.1 (placed parts) part.0.low (omega arith) laid.1.1 (holds_placed parts part.0.low laid.1.1),
    )

-- bits that lie in no field are 0
pub outside_zero : (parts : List (Field × ℕ)) (top k : ℕ) → Laid parts top → Outside parts k → bit_of k (placed parts) ≡ 0
outside_zero [] top k laid out = ap (λ (n : ℕ). n % 2) (zero-div (2 ^ k))
outside_zero (part ∷ parts) top k laid out =
    elim out.0 [
      | inl below ↦ above (record { low = k; width = 1 }) part.1 (placed parts) part.0.low (omega arith) ∙ outside_zero parts part.0.low k laid.1.1 out.1
      | inr past ↦
          let whole = placed_below (part ∷ parts) (part.0.low + part.0.width) (omega arith, laid.1) in
          let le : 2 ^ (part.0.low + part.0.width) ≤ 2 ^ k = pow_mono past in
          ap (λ (n : ℕ). n % 2) (div-eq_of_lt (omega arith))
    ]

-- where the fields hold their values, keeping those fields gives the word made of the values
pub kept_placed : (parts : List (Field × ℕ)) (w : ℕ) → Holds parts w → placed parts ≡ kept parts w
kept_placed [] w h = refl
kept_placed (part ∷ parts) w h =
    let e = h.0 in
    let r = kept_placed parts w h.1 in
    cc
