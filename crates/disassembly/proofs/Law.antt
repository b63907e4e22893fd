-- The rows of a listing show what the blocks cover.
use Rattle.std.proofs.Common.{◌≡◌, ℕ, zero, suc, ◌+◌, ◌*◌, ◌%◌, ◌^◌, ◌<◌, ◌≤◌, Bool, true, false, cond, ◌||◌, List, [], ◌∷◌, ◌++◌, length, get_or, Ok, sym, refl, ap, ◌∙◌, subst, inl, inr, append-nil, mod-eq_of_lt, div-one, arith}
use Rattle.std.proofs.lemmas.List.{get_or_append_left, get_or_push, length_push}
use Rattle.std.proofs.lemmas.List.Recursion.{or_push}
use Rattle.std.proofs.lemmas.Bool.{cases_eq, cases_lt, or_cases, or_left, or_right}
use Rattle.std.proofs.lemmas.Bool.Decides.{nat_tests}
use Rattle.image.specs.Format.{block_count, block_at, address_of, count_of}
use Rattle.image.specs.Laws.{CoversWord, CoversByte}
use Rattle.image.specs.declared.Kind.{Kind}
use Rattle.image.specs.declared.Kind.TheVariants.{Program, Data}
use Rattle.disassembly.specs.Laws.{ShowsWord, ShowWritten, CountsWritten, ListingLaw}
use Rattle.disassembly.specs.Rows.{block_row, block_rows, covers, covered, word_rows, Lists}
use Rattle.disassembly.specs.declared.rows.BlockRow.{BlockRow}
use Rattle.disassembly.specs.declared.rows.WordRow.{WordRow}
use Rattle.disassembly.specs.declared.rows.Listing.{Listing}

-- one block's row covers what the block covers

word_covers : (image : List ℕ) (i k : ℕ) → covers Program 4 k (block_row image i) ≡ true → CoversWord (block_at image i) k
word_covers image i k e = record { for_program = grind (arith, nat_tests); from = grind (arith, nat_tests); before = grind (arith, nat_tests) }

covers_word : (image : List ℕ) (i k : ℕ) → CoversWord (block_at image i) k → covers Program 4 k (block_row image i) ≡ true
covers_word image i k c =
    let p = c.for_program in
    let q = c.from in
    let r = c.before in
    grind (arith, nat_tests)

byte_covers : (image : List ℕ) (i k : ℕ) → covers Data 1 k (block_row image i) ≡ true → CoversByte (block_at image i) k
byte_covers image i k e =
    let a = div-one (address_of (block_at image i)) in
    let n = div-one (count_of (block_at image i)) in
    record { for_data = grind (arith, nat_tests); from = grind (arith, nat_tests); before = grind (arith, nat_tests) }

covers_byte : (image : List ℕ) (i k : ℕ) → CoversByte (block_at image i) k → covers Data 1 k (block_row image i) ≡ true
covers_byte image i k c =
    let a = div-one (address_of (block_at image i)) in
    let n = div-one (count_of (block_at image i)) in
    let p = c.for_data in
    let q = c.from in
    let r = c.before in
    grind (arith, nat_tests)

-- a list of blocks covers what one of them covers

module _ (kind : Kind) (unit k : ℕ) where
  covered_push : (rows : List BlockRow) (row : BlockRow) → covered kind unit k (rows ++ row ∷ []) ≡ (covered kind unit k rows || covers kind unit k row)
  covered_push rows row = or_push (covered kind unit k) (covers kind unit k) refl (λ x xs. refl) rows row

  module _ (image : List ℕ) where
    one_covers : (n : ℕ) → covered kind unit k (block_rows image n) ≡ true → (i : ℕ) × ((i < n) × (covers kind unit k (block_row image i) ≡ true))
    unfolding block_rows
    one_covers zero e = absurd (grind (arith, nat_tests))
    one_covers (suc n) e =
        elim (or_cases _ _ (sym (covered_push (block_rows image n) (block_row image n)) ∙ e)) [
          | inl before ↦ let r = one_covers n before in (r.0, (omega (arith, r.1.0), r.1.1))
          | inr last ↦ (n, (omega arith, last))
        ]

    covers_one : (n i : ℕ) → i < n → covers kind unit k (block_row image i) ≡ true → covered kind unit k (block_rows image n) ≡ true
    unfolding block_rows
    covers_one zero i h e = absurd (omega arith)
    covers_one (suc n) i h e =
        covered_push (block_rows image n) (block_row image n)
        ∙ (elim (cases_eq i n) [
          | inl is ↦ or_right _ _ (ap (λ (j : ℕ). covers kind unit k (block_row image j)) (sym is) ∙ e)
          | inr other ↦ or_left _ _ (covers_one n i (omega arith) e)
        ])

-- the rows of some blocks: the rows of covered words, and no other

module _ (rows : List BlockRow) (words : List ℕ) where
  abbrev row_at : ℕ → WordRow
  row_at k = record { address = 4 * k % 2 ^ 32; word = get_or words k 0 }

  abbrev Only : ℕ → List WordRow → Type 0
  Only n l = (j : ℕ) (d : WordRow) → j < length l → (k : ℕ) × ((k < n) × ((covered Program 4 k rows ≡ true) × (get_or l j d ≡ row_at k)))

  abbrev Every : ℕ → List WordRow → Type 0
  Every n l = (k : ℕ) → k < n → covered Program 4 k rows ≡ true → (j : ℕ) × ((j < length l) × ((d : WordRow) → get_or l j d ≡ row_at k))

  abbrev Ordered : List WordRow → Type 0
  Ordered l = (j : ℕ) (d : WordRow) → j + 1 < length l → (get_or l j d).address < (get_or l (j + 1) d).address

  abbrev Next : Bool → ℕ → List WordRow → List WordRow
  Next b n l = l ++ cond b (row_at n ∷ []) []

  only_next : (n : ℕ) (l : List WordRow) (b : Bool) → covered Program 4 n rows ≡ b → Only n l → Only (suc n) (Next b n l)
  only_next n l true e o j d h =
      elim (cases_lt j (length l)) [
        | inl inside ↦ let r = o j d inside in (r.0, (omega (arith, r.1.0), (r.1.1.0, get_or_append_left l (row_at n ∷ []) d j inside ∙ r.1.1.1)))
        | inr past ↦
            (n, (omega arith, (e, get_or_push l (row_at n) d j (omega (arith, length_push l (row_at n))))))
      ]
  only_next n l false e o j d h =
      let same = append-nil l in
      let r = o j d (omega (arith, ap length same)) in
      (r.0, (omega (arith, r.1.0), (r.1.1.0, ap (λ (x : List WordRow). get_or x j d) same ∙ r.1.1.1)))

  every_next : (n : ℕ) (l : List WordRow) (b : Bool) → covered Program 4 n rows ≡ b → Every n l → Every (suc n) (Next b n l)
  every_next n l true e v k h c =
      elim (cases_eq k n) [
        | inl is ↦ (length l, (omega (arith, length_push l (row_at n)), λ d. get_or_push l (row_at n) d (length l) refl ∙ ap row_at (sym is)))
        | inr other ↦
            let r = v k (omega arith) c in
            (r.0, (omega (arith, r.1.0, length_push l (row_at n)), λ d. get_or_append_left l (row_at n ∷ []) d r.0 r.1.0 ∙ r.1.1 d))
      ]
  every_next n l false e v k h c =
      let same = append-nil l in
      elim (cases_eq k n) [
        | inl is ↦
            let z : true ≡ false = sym c ∙ ap (λ (i : ℕ). covered Program 4 i rows) is ∙ e in
            absurd (grind (arith, nat_tests))
        | inr other ↦
            let r = v k (omega arith) c in
            (r.0, (omega (arith, r.1.0, ap length same), λ d. ap (λ (x : List WordRow). get_or x r.0 d) same ∙ r.1.1 d))
      ]

  ordered_next : (n : ℕ) (l : List WordRow) (b : Bool) → n < 2 ^ 30 → Only n l → Ordered l → Ordered (Next b n l)
  ordered_next n l true small o r j d h =
      let long = length_push l (row_at n) in
      let inside : j < length l = omega arith in
      let here = get_or_append_left l (row_at n ∷ []) d j inside in
      elim (cases_lt (j + 1) (length l)) [
        | inl more ↦ rw (here, get_or_append_left l (row_at n ∷ []) d (j + 1) more) (r j d more)
        | inr end ↦
            let w = o j d inside in
            let a : (get_or l j d).address ≡ 4 * w.0 = ap (λ (x : WordRow). x.address) w.1.1.1 ∙ mod-eq_of_lt (omega (arith, w.1.0)) in
            let m : 4 * n % 2 ^ 32 ≡ 4 * n = mod-eq_of_lt (omega arith) in
            let q = get_or_push l (row_at n) d (j + 1) (omega arith) in
            rw (here, q) (omega (arith, w.1.0))
      ]
  ordered_next n l false small o r j d h =
      let same = append-nil l in
      let long = ap length same in
      rw (append-nil) (r j d (omega arith))

  rows_only : (n : ℕ) → Only n (word_rows rows words n)
  unfolding word_rows
  rows_only zero = λ j d h. absurd (omega arith)
  rows_only (suc n) = only_next n (word_rows rows words n) (covered Program 4 n rows) refl (rows_only n)

  rows_every : (n : ℕ) → Every n (word_rows rows words n)
  unfolding word_rows
  rows_every zero = λ k h c. absurd (omega arith)
  rows_every (suc n) = every_next n (word_rows rows words n) (covered Program 4 n rows) refl (rows_every n)

  rows_ordered : (n : ℕ) → n ≤ 2 ^ 30 → Ordered (word_rows rows words n)
  unfolding word_rows
  rows_ordered zero h = λ j d l. absurd (omega arith)
  rows_ordered (suc n) h = ordered_next n (word_rows rows words n) (covered Program 4 n rows) (omega arith) (rows_only n) (rows_ordered n (omega arith))

-- the law of a listing

shows : (words : List ℕ) (k : ℕ) (row : WordRow) → row ≡ row_at [] words k → ShowsWord words k row
shows words k row e = record { address_is = ap (λ (x : WordRow). x.address) e; word_is = ap (λ (x : WordRow). x.word) e }

shows_written : (image words : List ℕ) → ShowWritten image words (word_rows (block_rows image (block_count image)) words (length words))
shows_written image words =
    let blocks = block_rows image (block_count image) in
    let n = length words in
    record {
      only = λ j d h.
          let r = rows_only blocks words n j d h in
          let c = one_covers Program 4 r.0 image (block_count image) r.1.1.0 in
          (r.0, (r.1.0, ((c.0, (c.1.0, word_covers image c.0 r.0 c.1.1)), shows words r.0 _ r.1.1.1)));
      every = λ k h c.
          let r = rows_every blocks words n k h (covers_one Program 4 k image (block_count image) c.0 c.1.0 (covers_word image c.0 k c.1.1)) in
          (r.0, (r.1.0, λ d. shows words k _ (r.1.1 d)));
      in_order = λ small. rows_ordered blocks words n small;
    }

counts_written : (image : List ℕ) → CountsWritten image (block_rows image (block_count image))
counts_written image k = (
  λ e. let c = one_covers Data 1 k image (block_count image) e in (c.0, (c.1.0, byte_covers image c.0 k c.1.1)),
  λ c. covers_one Data 1 k image (block_count image) c.0 c.1.0 (covers_byte image c.0 k c.1.1),
)

-- whatever is listed keeps the law
pub listed_law : (image program bytes : List ℕ) (listing : Listing) → Lists image program bytes listing → ListingLaw image program (Ok listing)
listed_law image program bytes listing l = (
  subst (ShowWritten image program) (sym l.words_are) (shows_written image program),
  subst (CountsWritten image) (sym l.blocks_are) (counts_written image),
)
