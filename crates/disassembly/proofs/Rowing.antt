-- One block, one word, one byte more.
use Rattle.std.proofs.Common.{◌≡◌, ℕ, ◌+◌, ◌*◌, ◌%◌, ◌^◌, Bool, true, false, cond, List, [], ◌∷◌, ◌++◌, get_or, sym, refl, ap, ◌∙◌, append-nil, add-one}
use Rattle.image.specs.Format.{block_at, kind_number}
use Rattle.image.specs.Reading.{Holds}
use Rattle.image.specs.declared.Kind.{Kind}
use Rattle.image.specs.declared.Kind.TheVariants.{Program, Data, End}
use Rattle.image.specs.declared.block.Block.{Block}
use Rattle.disassembly.specs.Rows.{kind_of, row_of, block_row, block_rows, covered, word_rows}
use Rattle.disassembly.specs.declared.rows.BlockRow.{BlockRow}

kind_back : (kind : Kind) → kind_of (kind_number kind) ≡ kind
kind_back Program = refl
kind_back Data = refl
kind_back End = refl

module _ (image : List ℕ) where
  pub blocks_none : (n : ℕ) → n ≡ 0 → block_rows image n ≡ []
  unfolding block_rows
  blocks_none n e = ap (block_rows image) e

  next : (n : ℕ) → block_rows image (n + 1) ≡ block_rows image n ++ block_row image n ∷ []
  unfolding block_rows
  next n = simp add-one

  -- the row of a block that a reader gave
  row_is : (n : ℕ) (b : Block) → Holds (block_at image n) n b
      → row_of b ≡ block_row image n
  row_is n b h =
      let p = h.placed in
      let k = sym (kind_back b.kind) ∙ ap kind_of h.kind_is in
      let a = h.address_is in
      let c = h.count_is in
      cc

  pub blocks_more : (n m : ℕ) (b : Block) → Holds (block_at image n) n b → m ≡ n + 1 → (rows rows' : List BlockRow) (row : BlockRow)
      → rows ≡ block_rows image n → rows' ≡ rows ++ row ∷ []
      → row ≡ row_of b
      → rows' ≡ block_rows image m
  blocks_more n m b h e rows rows' row before pushed is =
      let r = row_is n b h in
      let x = next n in
      cc

module _ (rows : List BlockRow) (words : List ℕ) where
  pub words_none : word_rows rows words 0 ≡ []
  unfolding word_rows
  words_none = refl

  word : (n : ℕ)
      → word_rows rows words (n + 1) ≡ word_rows rows words n ++ cond (covered Program 4 n rows) (record { address = 4 * n % 2 ^ 32; word = get_or words n 0 } ∷ []) []
  unfolding word_rows
  word n = simp add-one

  pub word_written : (n : ℕ) → true ≡ covered Program 4 n rows
      → word_rows rows words (n + 1) ≡ word_rows rows words n ++ record { address = 4 * n % 2 ^ 32; word = get_or words n 0 } ∷ []
  word_written n e = word n ∙ ap (λ (b : Bool). word_rows rows words n ++ cond b (record { address = 4 * n % 2 ^ 32; word = get_or words n 0 } ∷ []) []) (sym e)

  pub word_left : (n : ℕ) → false ≡ covered Program 4 n rows → word_rows rows words (n + 1) ≡ word_rows rows words n
  word_left n e =
      word n ∙ ap (λ (b : Bool). word_rows rows words n ++ cond b (record { address = 4 * n % 2 ^ 32; word = get_or words n 0 } ∷ []) []) (sym e)
      ∙ append-nil (word_rows rows words n)
