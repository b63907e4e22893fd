-- The sum byte by byte, each byte by its place in its word, is the sum word by word.
use Rattle.std.proofs.Common.{◌≡◌, ℕ, zero, suc, ◌+◌, ◌*◌, ◌%◌, ◌^◌, ◌<◌, ◌≤◌, List, get_or, take, refl, ap, ◌∙◌, add-one, arith, get_or-take}
use Rattle.image.specs.Format.{word_sum}

-- the first n bytes
unfoldable pub byte_sum : List ℕ → ℕ → ℕ
byte_sum b zero = 0
byte_sum b (suc n) = byte_sum b n + get_or b n 0 * 2 ^ (8 * (n % 4))

pub bytes_none : (b : List ℕ) → 0 ≡ byte_sum b 0 % 2 ^ 32
unfolding byte_sum
bytes_none b = refl

one_more : (b : List ℕ) (n : ℕ) → byte_sum b (n + 1) ≡ byte_sum b n + get_or b n 0 * 2 ^ (8 * (n % 4))
unfolding byte_sum
one_more b n = simp add-one

-- a sum that wraps at each turn is the plain sum, wrapped once
pub bytes_more : (b : List ℕ) (n s x : ℕ) → s ≡ byte_sum b n % 2 ^ 32 → x ≡ get_or b n 0 → (s + (x * 2 ^ (8 * (n % 4))) % 2 ^ 32) % 2 ^ 32 ≡ byte_sum b (n + 1) % 2 ^ 32
bytes_more b n s x e d =
    let same : x * 2 ^ (8 * (n % 4)) ≡ get_or b n 0 * 2 ^ (8 * (n % 4)) = ap (λ y. y * 2 ^ (8 * (n % 4))) d in
    omega (arith, one_more b n)

-- the byte at n, at place k of its word, and the next byte at m
at : (b : List ℕ) (n m k : ℕ) → m ≡ n + 1 → n % 4 ≡ k → byte_sum b m ≡ byte_sum b n + get_or b n 0 * 2 ^ (8 * k)
at b n m k d e = ap (byte_sum b) d ∙ one_more b n ∙ ap (λ x. byte_sum b n + get_or b n 0 * 2 ^ (8 * x)) e

pub bytes_words : (b : List ℕ) (n : ℕ) → byte_sum b (4 * n) ≡ word_sum b n
unfolding word_sum byte_sum
bytes_words b zero = refl
bytes_words b (suc n) =
    let p = at b (4 * n) (4 * n + 1) 0 refl (omega arith) in
    let q = at b (4 * n + 1) (4 * n + 2) 1 (omega arith) (omega arith) in
    let r = at b (4 * n + 2) (4 * n + 3) 2 (omega arith) (omega arith) in
    let s = at b (4 * n + 3) (4 * suc n) 3 (omega arith) (omega arith) in
    let before = bytes_words b n in
    omega arith

-- the bytes past the last one that is summed do not matter
pub bytes_take : (b : List ℕ) (m n : ℕ) → n ≤ m → byte_sum (take m b) n ≡ byte_sum b n
unfolding byte_sum
bytes_take b m zero h = refl
bytes_take b m (suc n) h =
    let q : n < m = omega arith in
    let e = bytes_take b m n (omega arith) in
    let d = get_or-take m b n 0 q in
    cc
