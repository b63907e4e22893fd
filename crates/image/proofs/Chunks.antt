-- A list cut into chunks of n items.
use Rattle.std.proofs.Common.{◌≡◌, ℕ, zero, suc, ◌+◌, ◌-◌, ◌*◌, ◌<◌, List, [], get_or, take, drop, refl, ap, ◌∙◌, arith}
use Rattle.std.proofs.lemmas.List.{drop-drop, get_or-take, get_or-drop}
use Rattle.std.specs.Prelude.{slice_index}
use Rattle.std.specs.Simd.{first_chunks}
use Rattle.image.specs.Format.{block_at, word_at}

chunk_at : (n k : ℕ) (xs : List ℕ) (i j : ℕ) → i < k → j ≡ n * i → get_or (first_chunks n k xs) i [] ≡ take n (drop j xs)
chunk_at n zero xs i j h e = absurd (omega arith)
chunk_at n (suc k) xs zero j h e = let z : 0 ≡ j = omega arith in ap (λ m. take n (drop m xs)) z
chunk_at n (suc k) xs (suc i) j h e =
    let z : n + n * i ≡ j = omega arith in
    chunk_at n k (drop n xs) i (n * i) (omega arith) refl ∙ ap (take n) (drop-drop (n * i) n xs ∙ ap (λ m. drop m xs) z)

-- a block is a chunk of the image
pub block_chunk : (k : ℕ) (image : List ℕ) (i : ℕ) → i < k → get_or (first_chunks 512 k image) i [] ≡ block_at image i
block_chunk k image i h =
    let z : 512 ≡ 512 * i + 512 - 512 * i = omega arith in
    chunk_at 512 k image i (512 * i) h refl ∙ ap (λ n. take n (drop (512 * i) image)) z

-- a word is a chunk of a payload
pub word_chunk : (k : ℕ) (xs : List ℕ) (i : ℕ) → i < k → word_at (get_or (first_chunks 4 k xs) i []) 0 ≡ word_at xs (4 * i)
word_chunk k xs i h =
    let ys = take 4 (drop (4 * i) xs) in
    let byte : (j m : ℕ) → j < 4 → 4 * i + j ≡ m → slice_index ys j ≡ slice_index xs m = λ j m l e.
    get_or-take 4 (drop (4 * i) xs) j 0 l ∙ get_or-drop (4 * i) xs j 0 ∙ ap (λ n. get_or xs n 0) e in
    let b0 = byte 0 (4 * i) (omega arith) (omega arith) in
    let b1 = byte 1 (4 * i + 1) (omega arith) refl in
    let b2 = byte 2 (4 * i + 2) (omega arith) refl in
    let b3 = byte 3 (4 * i + 3) (omega arith) refl in
    ap (λ zs. word_at zs 0) (chunk_at 4 k xs i (4 * i) h refl) ∙ cc
