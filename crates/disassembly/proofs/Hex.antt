-- What `{:08x}` writes of a word is its eight digits.
use Rattle.std.proofs.Common.{◌≡◌, ℕ, zero, suc, ◌+◌, ◌-◌, ◌/◌, ◌%◌, ◌^◌, ◌<◌, Bool, false, cond, List, [], ◌∷◌, ◌++◌, length, replicate, inl, inr, sym, refl, ap, ◌∙◌, append-nil, div-one, arith}
use Rattle.std.proofs.Math.Nat.{pow-succ'}
use Rattle.std.proofs.lemmas.Bool.{ne_eqb, eq-eqb, cases_eq}
use Rattle.std.specs.Fmt.{digits, digits_onto, digit_glyph, padded_integral, format_spec, char_count}
use Rattle.disassembly.specs.Text.{hex_text}

-- the last k digits of n, before some others
hex_onto : ℕ → ℕ → List ℕ → List ℕ
hex_onto zero n acc = acc
hex_onto (suc k) n acc = hex_onto k (n / 16) (digit_glyph false (n % 16) ∷ acc)

zeros_more : (k : ℕ) (acc : List ℕ) → replicate k 48 ++ 48 ∷ acc ≡ 48 ∷ (replicate k 48 ++ acc)
zeros_more zero acc = refl
zeros_more (suc k) acc = ap (λ l. 48 ∷ l) (zeros_more k acc)

zeros : (k n : ℕ) (acc : List ℕ) → n ≡ 0 → replicate k 48 ++ acc ≡ hex_onto k n acc
unfolding hex_onto
zeros zero n acc e = refl
zeros (suc k) n acc e =
    sym (zeros_more k acc) ∙ zeros k (n / 16) (48 ∷ acc) (omega arith) ∙ ap (λ x. hex_onto k (n / 16) (digit_glyph false x ∷ acc)) {x = 0} {y = n % 16} (omega arith)

module _ (j n : ℕ) (acc : List ℕ) where
  more : List ℕ
  more = digit_glyph false (n % 16) ∷ acc

  choice : Bool → List ℕ
  choice b = cond b more (digits_onto j 16 false (n / 16) more)

  last : n / 16 ≡ 0 → digits_onto (suc j) 16 false n acc ≡ digit_glyph false (n % 16) ∷ acc
  unfolding choice more
  last e = ap choice (eq-eqb (n / 16) 0 e)

  step : (n / 16 ≡ 0 → ⊥) → digits_onto (suc j) 16 false n acc ≡ digits_onto j 16 false (n / 16) (digit_glyph false (n % 16) ∷ acc)
  unfolding choice more
  step e = ap choice (ne_eqb (n / 16) 0 e)

-- k places hold the digits of a number that has no more, with zeros before them
filled : (k j n : ℕ) (acc d : List ℕ) → n < 16 ^ suc k → k < j → d ≡ digits_onto j 16 false n acc
    → replicate (suc k + length acc - length d) 48 ++ d ≡ hex_onto (suc k) n acc
unfolding hex_onto
filled k zero n acc d h l e = absurd (omega arith)
filled zero (suc j) n acc d h l e =
    let none : n / 16 ≡ 0 = omega (arith, pow-succ' 16 0) in
    let ds = digit_glyph false (n % 16) ∷ acc in
    let is : d ≡ ds = e ∙ last j n acc none in
    let long : 1 + length acc - length d ≡ 0 = omega (arith, ap length is) in
    ap (λ x. replicate x 48 ++ d) long ∙ is
filled (suc k) (suc j) n acc d h l e = elim (cases_eq (n / 16) 0) [
  | inl none ↦
      let ds = digit_glyph false (n % 16) ∷ acc in
      let is : d ≡ ds = e ∙ last j n acc none in
      let long : suc (suc k) + length acc - length d ≡ suc k = omega (arith, ap length is) in
      ap (λ x. replicate x 48 ++ d) long ∙ ap (λ x. replicate (suc k) 48 ++ x) is ∙ zeros (suc k) (n / 16) ds none
  | inr some ↦
      let ds = digit_glyph false (n % 16) ∷ acc in
      let fewer : suc (suc k) + length acc - length d ≡ suc k + length ds - length d = omega arith in
      ap (λ x. replicate x 48 ++ d) fewer ∙ filled k j (n / 16) ds d (omega (arith, pow-succ' 16 (suc k))) (omega arith) (e ∙ step j n acc some)
]

padded8 : (ds : List ℕ) → padded_integral (format_spec 32 0 4 8 (2 ^ 64 - 1)) false [] ds ≡ replicate (8 - length ds) 48 ++ ds
unfolding padded_integral char_count
padded8 ds = let short : 8 - length ds - 0 - 0 ≡ 8 - length ds = omega arith in rw (short, append-nil ds)

eight : (n : ℕ) → hex_onto 8 n [] ≡ hex_text n
unfolding hex_onto
eight n =
    let q2 : n / 16 / 16 ≡ n / 256 = omega arith in
    let q3 : n / 16 / 16 / 16 ≡ n / 4096 = omega arith in
    let q4 : n / 16 / 16 / 16 / 16 ≡ n / 65536 = omega arith in
    let q5 : n / 16 / 16 / 16 / 16 / 16 ≡ n / 1048576 = omega arith in
    let q6 : n / 16 / 16 / 16 / 16 / 16 / 16 ≡ n / 16777216 = omega arith in
    let q7 : n / 16 / 16 / 16 / 16 / 16 / 16 / 16 ≡ n / 268435456 = omega arith in
    rw (q7, q6, q5, q4, q3, q2, div-one n)

pub hex_eight : (n : ℕ) → n < 2 ^ 32 → padded_integral (format_spec 32 0 4 8 (2 ^ 64 - 1)) false [] (digits 16 false n) ≡ hex_text n
unfolding digits
hex_eight n small = padded8 (digits 16 false n) ∙ filled 7 64 n [] (digits 16 false n) small (omega arith) refl ∙ eight n
