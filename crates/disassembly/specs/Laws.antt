-- What a listing's rows mean, in the words of the image's own law: which words a block covers, and what the memory holds.
use Rattle.std.specs.Prelude.{◌≡◌, ℕ, ◌+◌, ◌*◌, ◌%◌, ◌^◌, ◌<◌, ◌≤◌, true, List, length, get_or, IfOk, vec_items, Result, slice_index, slice_index_or}
use Rattle.image.specs.Format.{block_count, block_at}
use Rattle.image.specs.Laws.{CoversWord, CoversByte}
use Rattle.image.specs.declared.Kind.TheVariants.{Data}
use Rattle.disassembly.specs.Rows.{covered}
use Rattle.disassembly.specs.declared.rows.BlockRow.{BlockRow}
use Rattle.disassembly.specs.declared.rows.WordRow.{WordRow}
use Rattle.disassembly.specs.declared.rows.Listing.{Listing}
use Rattle.disassembly.specs.declared.rows.ListError.{ListError}

-- some block of the image covers the cell k
abbrev pub Covered : (List ℕ → ℕ → Type 0) → List ℕ → ℕ → Type 0
Covered Covers image k = (i : ℕ) × ((i < block_count image) × Covers (block_at image i) k)

-- a row shows the word k of the program memory
pub record ShowsWord (program : List ℕ) (k : ℕ) (row : WordRow) : Type 0 where
  pub address_is : row.address ≡ 4 * k % 2 ^ 32
  pub word_is : row.word ≡ slice_index program k

-- the rows show the covered words, all of them and only them, in address order
pub record ShowWritten (image program : List ℕ) (rows : List WordRow) : Type 0 where
  pub only : (j : ℕ) (d : WordRow) → j < length rows
      → (k : ℕ) × ((k < length program) × (Covered CoversWord image k × ShowsWord program k (slice_index_or rows j d)))
  pub every : (k : ℕ) → k < length program → Covered CoversWord image k → (j : ℕ) × ((j < length rows) × ((d : WordRow) → ShowsWord program k (slice_index_or rows j d)))
  pub in_order : length program ≤ 2 ^ 30 → (j : ℕ) (d : WordRow) → j + 1 < length rows → (get_or rows j d).address < (get_or rows (j + 1) d).address

-- the bytes that are counted are the covered ones
abbrev pub CountsWritten : List ℕ → List BlockRow → Type 0
CountsWritten image rows =
    (k : ℕ) → (covered Data 1 k rows ≡ true → Covered CoversByte image k) × (Covered CoversByte image k → covered Data 1 k rows ≡ true)

-- the law of a listing, whatever its image
abbrev pub ListingLaw : List ℕ → List ℕ → Result Listing ListError → Type 0
ListingLaw image program answer =
    IfOk answer (λ listing. ShowWritten image program (vec_items listing.words) × CountsWritten image (vec_items listing.blocks))
