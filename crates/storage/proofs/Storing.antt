-- A store into the caller's bytes stores into what they mean.
use Rattle.std.proofs.Common.{◌≡◌, ℕ, zero, suc, ◌+◌, ◌/◌, ◌%◌, ◌<◌, Bool, true, false, cond, ◌&&◌, ltb, List, length, get_or, set, is_some, Some, None, Option, sym, refl, ap, ◌∙◌, inl, inr, length-set, get_or-set_other, get_or-set_same}
use mathlib.Core.Path.{fun_ext}
use Rattle.std.proofs.lemmas.Bool.{cases_eq, eq-eqb, ne_eqb, and_parts, ltb-true}
use Rattle.std.specs.Option.{option_map}
use Rattle.memory.specs.Bytes.{Cells, replaced, stored, loaded, plain}
use Rattle.memory.specs.Promise.{answer_of, meaning_after, Says}
use Rattle.memory.proofs.Answers.{after_read, says_effect}
use Rattle.memory.specs.declared.access.Access.{Access}
use Rattle.memory.specs.declared.access.Access.TheVariants.{Load, Store}
use Rattle.memory.specs.declared.access.Answer.{Answer}
use Rattle.storage.specs.Contents.{cells_of, set_bytes, bytes_after}

-- a test that is true where its element is there
written : (t : Bool) (x b c : ℕ) → (t ≡ true → x ≡ b) → cond t (Some x) None ≡ option_map (λ _. b) (cond t (Some c) None)
written true x b c h = ap Some (h refl)
written false x b c h = refl

module _ (used : ℕ → Bool) where
  cell_set : (xs : List ℕ) (place byte k : ℕ) → cells_of used (set xs place byte) k ≡ replaced (cells_of used xs) place byte k
  cell_set xs place byte k =
      elim (cases_eq k place) [
        | inl e ↦
            rw (length-set, eq-eqb k place e)
            (written (used k && ltb k (length xs)) (get_or (set xs place byte) k 0) byte (get_or xs k 0)
            (λ t.
            let l : k < length xs = ltb-true k (length xs) (and_parts (used k) (ltb k (length xs)) t).1 in
            rw e (get_or-set_same xs place byte 0 (rw e at l))))
        | inr n ↦ rw (length-set, ne_eqb k place n, get_or-set_other xs place k byte 0 n)
      ]

  cells_set : (xs : List ℕ) (place byte : ℕ) → cells_of used (set xs place byte) ≡ replaced (cells_of used xs) place byte
  cells_set xs place byte = fun_ext (cell_set xs place byte)

  cells_stored : (n : ℕ) (xs : List ℕ) (place value : ℕ) → cells_of used (set_bytes xs place n value) ≡ stored (cells_of used xs) place n value
  cells_stored zero xs place value = refl
  cells_stored (suc n) xs place value =
      cells_stored n (set xs place (value % 256)) (place + 1) (value / 256)
      ∙ ap (λ (c : Cells). stored c (place + 1) n (value / 256)) (cells_set xs place (value % 256))

  after_store : (o : Option ℕ) (xs ys : List ℕ) (m : Cells) → cells_of used ys ≡ m
      → cells_of used (cond (is_some o) ys xs) ≡ meaning_after (option_map (λ (_ : ℕ). (0, m)) o) (cells_of used xs)
  after_store None xs ys m e = refl
  after_store (Some v) xs ys m e = e

  -- what the bytes mean after an access is the meaning after it
  cells_after : (xs : List ℕ) (x : Access) → cells_of used (bytes_after used xs x) ≡ meaning_after (plain (cells_of used xs) x) (cells_of used xs)
  cells_after xs (Load address width) = sym (after_read (loaded (cells_of used xs) address width) (cells_of used xs))
  cells_after xs (Store address width value) =
      after_store (loaded (cells_of used xs) address width) xs (set_bytes xs address width value) (stored (cells_of used xs) address width value)
      (cells_stored width xs address value)

  -- so an access that answers by the meaning, and leaves the bytes so, keeps what a memory that never waits promises
  pub accessed_says : (xs ys : List ℕ) (x : Access) (r : Answer) → r ≡ answer_of (plain (cells_of used xs) x) → ys ≡ bytes_after used xs x
      → Says (plain (cells_of used xs) x) (cells_of used xs) (cells_of used ys) 0 0 r
  accessed_says xs ys x r a b = says_effect _ _ _ _ _ _ a (ap (cells_of used) b ∙ cells_after xs x)
