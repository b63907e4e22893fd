-- What is decoded from a word is the one instruction that the word reads as.
use Rattle.std.proofs.Common.{◌≡◌, ℕ, ◌+◌, ◌/◌, ◌%◌, ◌<◌, eqb, IfSome, Some, None, Option, option_map, refl, inl, inr, mod-lt, arith, lit<, rules}
use Rattle.std.proofs.lemmas.Nat.{mod-pow-add}
use Rattle.std.proofs.lemmas.Bool.{cases_eq, eq-eqb, ne_eqb}
use Rattle.std.proofs.lemmas.Bool.Decides.{nat_tests}
use Rattle.instruction.specs.Codes.{relations_code, relations_at, special_number, special_of, bit}
use Rattle.instruction.specs.Fields.{in_field, opcode_field, sa_field, function_field, register_at, amount_at, immediate_of, offset_of}
use Rattle.instruction.specs.Layout.{layout, word_of}
use Rattle.instruction.specs.Laws.{Reads, DecodesTo}
use Rattle.instruction.specs.Table.{functions, opcodes, by_function, decoded_of, tests_immediate, reads_special, writes_special, tests}
use Rattle.instruction.specs.declared.instruction.Instruction.{Instruction}
use Rattle.instruction.specs.declared.operation.SpecialRegister.{SpecialRegister}
use Rattle.instruction.proofs.Placing.{kept_placed}
use Rattle.instruction.proofs.Reading.{reads}
use Rattle.instruction.proofs.Rows.{each_read}

-- the three bits of a test's code are the relations that it asks for
one_bit : (n : ℕ) → n < 2 → bit (eqb n 1) ≡ n
one_bit n h = grind (arith, nat_tests)

relations_code_lem : (code : ℕ) → relations_code (relations_at code) ≡ code % 8
relations_code_lem code =
    let p = one_bit (code % 2) (mod-lt code (lit< tt)) in
    let q = one_bit (code / 2 % 2) (mod-lt (code / 2) (lit< tt)) in
    let r = one_bit (code / 4 % 2) (mod-lt (code / 4) (lit< tt)) in
    omega (arith, mod-pow-add code 1 2, mod-pow-add code 1 1)

special_known : (n : ℕ) → IfSome (special_of n) (λ s. n ≡ special_number s)
special_known n = grind (arith, nat_tests)

module _ (w : ℕ) where
  -- if something is read, the word reads as it
  abbrev Sound : Option Instruction → Type 0
  Sound answer = IfSome answer (λ i. Reads w i)

  with_special_lem :
      (f : SpecialRegister → Instruction) (n : ℕ) → ((s : SpecialRegister) → n ≡ special_number s → Reads w (f s))
      → (o : Option SpecialRegister) → IfSome o (λ s. n ≡ special_number s) → Sound (option_map f o)
  with_special_lem f n h None known = tt
  with_special_lem f n h (Some s) known = h s known

  test_immediate_sound : in_field opcode_field w / 8 ≡ 3 → Sound (tests_immediate (in_field opcode_field w) w)
  unfolding register_at immediate_of
  test_immediate_sound e =
      let c = relations_code_lem (in_field opcode_field w) in
      let o : in_field opcode_field w ≡ 0x18 + relations_code (relations_at (in_field opcode_field w)) = omega arith in
      search rules

  module _ (zero : in_field opcode_field w ≡ 0) where
    read_special_sound : in_field function_field w ≡ 0x10 → Sound (reads_special w)
    unfolding register_at
    read_special_sound e = with_special_lem _ (in_field sa_field w) (λ s n. search rules) (special_of (in_field sa_field w)) (special_known (in_field sa_field w))

    write_special_sound : in_field function_field w ≡ 0x11 → Sound (writes_special w)
    unfolding register_at
    write_special_sound e = with_special_lem _ (in_field sa_field w) (λ s n. search rules) (special_of (in_field sa_field w)) (special_known (in_field sa_field w))

    test_sound : in_field function_field w / 8 ≡ 5 → Sound (tests (in_field function_field w) w)
    unfolding register_at
    test_sound e =
        let c = relations_code_lem (in_field function_field w) in
        let o : in_field function_field w ≡ 0x28 + relations_code (relations_at (in_field function_field w)) = omega arith in
        search rules

    -- each row under its own code
    function_sound : Sound (by_function (in_field function_field w) w)
    unfolding register_at amount_at
    function_sound =
        elim (cases_eq (in_field function_field w / 8) 5) [
          | inl e ↦ rw (eq-eqb _ _ e) (test_sound e)
          | inr n ↦ rw (ne_eqb _ _ n) (each_read Sound functions (in_field function_field w) w (search (rules, read_special_sound, write_special_sound)))
        ]

  sound : Sound (decoded_of w)
  unfolding decoded_of register_at immediate_of offset_of
  sound =
      elim (cases_eq (in_field opcode_field w) 0) [
        | inl z ↦ rw (eq-eqb _ _ z) (function_sound z)
        | inr n ↦ rw (ne_eqb _ _ n) (elim (cases_eq (in_field opcode_field w / 8) 3) [
          | inl e ↦ rw (eq-eqb _ _ e) (test_immediate_sound e)
          | inr m ↦ rw (ne_eqb _ _ m) (each_read Sound opcodes (in_field opcode_field w) w (search rules))
        ])
      ]

  -- two answers, one word
  same_answer : (i j : Instruction) → decoded_of w ≡ Some i → decoded_of w ≡ Some j → j ≡ i
  same_answer i j p q = cc

  decided : (answer : Option Instruction) → decoded_of w ≡ answer → Sound answer → DecodesTo w answer
  unfolding word_of
  decided None e h = λ i k.
      let p = reads w i k in
      let z : ◌≡◌ {A = ℕ} 0 1 = cc in
      omega arith
  decided (Some i) e h = record {
    reads = h;
    only = λ j k. same_answer i j e (reads w j k);
    back = kept_placed (layout i) w h;
  }

  pub decides : DecodesTo w (decoded_of w)
  decides = decided (decoded_of w) refl sound
