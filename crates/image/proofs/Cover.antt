-- What each word and each byte is after the blocks are put, by the last block that covers it.
use Rattle.std.proofs.Common.{◌≡◌, ℕ, zero, suc, ◌+◌, ◌-◌, ◌*◌, ◌/◌, ◌%◌, ◌<◌, ◌≤◌, false, eqb, ◌≢◌, ◌⊎◌, List, ◌++◌, length, get_or, take, drop, set, sym, refl, ap, ◌∙◌, subst, inl, inr, ⊎_elim, add-one, arith}
use borrow.Rule.Slice.PartMut.{put_mid}
use Rattle.std.proofs.lemmas.List.{length-set, length-take, length-drop, length-append, get_or-set_same, get_or-set_other, drop-drop, places}
use Rattle.std.proofs.lemmas.Bool.{cases_eq, cases_lt, cases_order, eq-eqb, ne_eqb, cond-true, cond-false}
use Rattle.std.proofs.lemmas.Bool.Decides.{nat_tests}
use Rattle.image.specs.declared.Ends.{Ends}
use Rattle.image.specs.declared.Fault.TheVariants.{Count, Address}
use Rattle.image.specs.declared.block.Block.{Block}
use Rattle.image.specs.Format.{block_count, block_at, word_at, kind_byte, kind_number, count_of, address_of, payload_of}
use Rattle.image.specs.Rules.{wrong_count, wrong_address}
use Rattle.image.specs.Reading.{Holds}
use Rattle.image.specs.Load.{ends_of, put_words, put_bytes, words_with, bytes_with, words_after, bytes_after, Room}
use Rattle.image.specs.Laws.{Accepted, CoversWord, CoversByte, WordsLoaded, BytesLoaded}

-- words of a payload, put one after the other
pub words_none : (ws : List ℕ) (at : ℕ) (l : List ℕ) → put_words ws at l 0 ≡ ws
unfolding put_words
words_none ws at l = refl

pub words_more : (ws : List ℕ) (at : ℕ) (l : List ℕ) (k : ℕ) → put_words ws at l (k + 1) ≡ set (put_words ws at l k) (at + k) (word_at l (4 * k))
unfolding put_words
words_more ws at l k = simp add-one

pub bytes_put : (d ys l : List ℕ) (at k : ℕ) → ys ≡ l → k ≡ length l → put_mid at k d ys ≡ put_bytes d at l
bytes_put d ys l at k e f = ap (λ y. put_mid at k d y) e ∙ ap (λ n. put_mid at n d l) f ∙ ap (λ r. take at d ++ (l ++ r)) (drop-drop (length l) at d)

module _ (ws : List ℕ) (at : ℕ) (l : List ℕ) where
  words_length : (n : ℕ) → length (put_words ws at l n) ≡ length ws
  unfolding put_words
  words_length zero = refl
  words_length (suc n) = length-set (put_words ws at l n) (at + n) (word_at l (4 * n)) ∙ words_length n

  words_other : (n k : ℕ) → (k < at) ⊎ (at + n ≤ k) → get_or (put_words ws at l n) k 0 ≡ get_or ws k 0
  unfolding put_words
  words_other zero k h = refl
  words_other (suc n) k h =
      let ne : k ≢ at + n = λ q. omega arith in
      let less : (k < at) ⊎ (at + n ≤ k) = ⊎_elim (λ (p : k < at). inl p) (λ (p : at + suc n ≤ k). inr (omega arith)) h in
      get_or-set_other (put_words ws at l n) (at + n) k (word_at l (4 * n)) 0 ne ∙ words_other n k less

  words_inside : (n k j : ℕ) → k ≡ at + j → j < n → at + n ≤ length ws → get_or (put_words ws at l n) k 0 ≡ word_at l (4 * j)
  unfolding put_words
  words_inside zero k j e h r = absurd (omega arith)
  words_inside (suc n) k j e h r =
      let long : at + n < length (put_words ws at l n) = omega (arith, words_length n) in
      ⊎_elim (λ (q : j ≡ n). ap (λ x. get_or (set (put_words ws at l n) (at + n) (word_at l (4 * n))) x 0) (e ∙ ap (λ x. at + x) q)
      ∙ get_or-set_same (put_words ws at l n) (at + n) (word_at l (4 * n)) 0 long ∙ ap (λ x. word_at l (4 * x)) (sym q))
      (λ (q : (j < n) ⊎ (n < j)). let ne : k ≢ at + n = λ z. omega arith in
      get_or-set_other (put_words ws at l n) (at + n) k (word_at l (4 * n)) 0 ne ∙ words_inside n k j e (omega arith) (omega arith))
      (cases_order j n)

bytes_length : (d : List ℕ) (at : ℕ) (l : List ℕ) → at + length l ≤ length d → length (put_bytes d at l) ≡ length d
bytes_length d at l r = omega (arith, length-append (take at d) (l ++ drop (at + length l) d), length-append l (drop (at + length l) d), length-take at d, length-drop (at + length l) d)

bytes_other : (d : List ℕ) (at : ℕ) (l : List ℕ) (k : ℕ) → at + length l ≤ length d → (k < at) ⊎ (at + length l ≤ k) → get_or (put_bytes d at l) k 0 ≡ get_or d k 0
bytes_other d at l k r h = ⊎_elim (λ (p : k < at). grind (arith, places)) (λ (p : at + length l ≤ k). grind (arith, places)) h

bytes_inside : (d : List ℕ) (at : ℕ) (l : List ℕ) (k : ℕ) → at + length l ≤ length d → at ≤ k → k < at + length l → get_or (put_bytes d at l) k 0 ≡ get_or l (k - at) 0
bytes_inside d at l k r h g = grind (arith, places)

-- any memory into which blocks are put one after the other
module _ (count long : ℕ) (put : ℕ → List ℕ → List ℕ) (after : ℕ → List ℕ) (more : (n : ℕ) → after (suc n) ≡ put n (after n)) (start : length (after 0) ≡ long)
    (Covers : ℕ → ℕ → Type 0) (value : ℕ → ℕ → ℕ) (keeps : (n : ℕ) (l : List ℕ) → n < count → length l ≡ long → length (put n l) ≡ long)
    (other : (n k : ℕ) (l : List ℕ) → n < count → length l ≡ long → (Covers n k → ⊥) → get_or (put n l) k 0 ≡ get_or l k 0)
    (inside : (n k : ℕ) (l : List ℕ) → n < count → length l ≡ long → Covers n k → get_or (put n l) k 0 ≡ value n k) where
  lengths : (n : ℕ) → n ≤ count → length (after n) ≡ long
  lengths zero h = start
  lengths (suc n) h = ap length (more n) ∙ keeps n (after n) (omega arith) (lengths n (omega arith))

  uncovered : (k n : ℕ) → n ≤ count → ((i : ℕ) → i < n → Covers i k → ⊥) → get_or (after n) k 0 ≡ get_or (after 0) k 0
  uncovered k zero h f = refl
  uncovered k (suc n) h f =
      ap (λ l. get_or l k 0) (more n) ∙ other n k (after n) (omega arith) (lengths n (omega arith)) (f n (omega arith)) ∙ uncovered k n (omega arith) (λ i l. f i (omega arith))

  covered : (k i n : ℕ) → n ≤ count → i < n → Covers i k → ((j : ℕ) → i < j → j < n → Covers j k → ⊥) → get_or (after n) k 0 ≡ value i k
  covered k i zero h l c f = absurd (omega arith)
  covered k i (suc n) h l c f =
      ap (λ x. get_or x k 0) (more n)
      ∙ ⊎_elim (λ (q : i ≡ n). inside n k (after n) (omega arith) (lengths n (omega arith)) (subst (λ x. Covers x k) q c) ∙ ap (λ x. value x k) (sym q))
      (λ (q : (i < n) ⊎ (n < i)). other n k (after n) (omega arith) (lengths n (omega arith)) (f n (omega arith) (omega arith)) ∙ covered k i n (omega arith) (omega arith) c (λ j a b. f j a (omega arith)))
      (cases_order i n)

-- one block, by its kind
module _ (a : ℕ) (p l : List ℕ) where
  in_program : (k : ℕ) → k ≡ 1 → words_with k a p l ≡ put_words l (a / 4) p (length p / 4)
  in_program k e = cond-true (eqb k 1) (put_words l (a / 4) p (length p / 4)) l (eq-eqb k 1 e)

  not_program : (k : ℕ) → (k ≡ 1 → ⊥) → words_with k a p l ≡ l
  not_program k e = cond-false (eqb k 1) (put_words l (a / 4) p (length p / 4)) l (ne_eqb k 1 e)

  in_data : (k : ℕ) → k ≡ 2 → bytes_with k a p l ≡ put_bytes l a p
  in_data k e = cond-true (eqb k 2) (put_bytes l a p) l (eq-eqb k 2 e)

  not_data : (k : ℕ) → (k ≡ 2 → ⊥) → bytes_with k a p l ≡ l
  not_data k e = cond-false (eqb k 2) (put_bytes l a p) l (ne_eqb k 2 e)

kept_count : (k n : ℕ) → wrong_count k n ≡ false → (n ≤ 496) × (n % 4 ≡ 0)
kept_count k n e = (grind (arith, nat_tests), grind (arith, nat_tests))

kept_address : (k a n : ℕ) (ends : Ends) → wrong_address k a n ends ≡ false → (a % 4 ≡ 0) × (k ≡ 1 → a + n ≤ ends.program) × (k ≡ 2 → a + n ≤ ends.«data»)
kept_address k a n ends e = (grind (arith, nat_tests), λ h. grind (arith, nat_tests), λ h. grind (arith, nat_tests))

-- an accepted image
module _ (image ws d : List ℕ) (ok : Accepted image (ends_of ws d)) where
  module _ (i : ℕ) (h : i < block_count image) where
    few : (count_of (block_at image i) ≤ 496) × (count_of (block_at image i) % 4 ≡ 0)
    few = kept_count (kind_byte (block_at image i)) (count_of (block_at image i)) (ok.unbroken i h Count)

    block_long : length (block_at image i) ≡ 512
    block_long = omega (arith, length-take (512 * i + 512 - 512 * i) (drop (512 * i) image), length-drop (512 * i) image)

    payload_long : length (payload_of (block_at image i)) ≡ count_of (block_at image i)
    payload_long = omega (arith, few, block_long, length-take (12 + count_of (block_at image i) - 12) (drop 12 (block_at image i)), length-drop 12 (block_at image i))

    pub room : Room (kind_byte (block_at image i)) (address_of (block_at image i)) (payload_of (block_at image i)) (length ws) (length d)
    room =
        let a = kept_address (kind_byte (block_at image i)) (address_of (block_at image i)) (count_of (block_at image i)) (ends_of ws d) (ok.unbroken i h Address) in
        record { for_words = λ k. omega (arith, a.0, a.1 k, few, payload_long); for_bytes = λ k. omega (arith, a.2 k, payload_long) }

    pub room_for : (b : Block) (x y : ℕ) → Holds (block_at image i) i b → x ≡ length ws → y ≡ length d → Room (kind_number b.kind) b.address b.payload.now x y
    room_for b x y g e f =
        let long : length b.payload.now ≡ length (payload_of (block_at image i)) = ap length g.payload_is in
        record {
          for_words = λ k. omega (arith, room.for_words (sym g.kind_is ∙ k), g.address_is, long);
          for_bytes = λ k. omega (arith, room.for_bytes (sym g.kind_is ∙ k), g.address_is, long);
        }

  unfoldable words_put_by : ℕ → List ℕ → List ℕ
  words_put_by i l = words_with (kind_byte (block_at image i)) (address_of (block_at image i)) (payload_of (block_at image i)) l

  words_keep : (i : ℕ) (l : List ℕ) → i < block_count image → length l ≡ length ws → length (words_put_by i l) ≡ length ws
  unfolding words_put_by
  words_keep i l h e =
      let b = block_at image i in
      ⊎_elim (λ (q : kind_byte b ≡ 1). ap length (in_program (address_of b) (payload_of b) l (kind_byte b) q) ∙ words_length l (address_of b / 4) (payload_of b) (length (payload_of b) / 4) ∙ e)
      (λ (q : kind_byte b ≡ 1 → ⊥). ap length (not_program (address_of b) (payload_of b) l (kind_byte b) q) ∙ e) (cases_eq (kind_byte b) 1)

  words_else : (i k : ℕ) (l : List ℕ) → i < block_count image → length l ≡ length ws → (CoversWord (block_at image i) k → ⊥) → get_or (words_put_by i l) k 0 ≡ get_or l k 0
  unfolding words_put_by
  words_else i k l h e f =
      let b = block_at image i in
      let long = payload_long i h in
      let outside : kind_byte b ≡ 1 → (k < address_of b / 4) ⊎ (address_of b / 4 + length (payload_of b) / 4 ≤ k) = λ q.
      ⊎_elim (λ (x : k < address_of b / 4). inl x)
      (λ (x : address_of b / 4 ≤ k).
      ⊎_elim (λ (y : k < address_of b / 4 + count_of b / 4). absurd (f (record { for_program = q; from = x; before = y })))
      (λ (y : address_of b / 4 + count_of b / 4 ≤ k). inr (omega arith)) (cases_lt k (address_of b / 4 + count_of b / 4)))
      (cases_lt k (address_of b / 4)) in
      ⊎_elim (λ (q : kind_byte b ≡ 1). ap (λ x. get_or x k 0) (in_program (address_of b) (payload_of b) l (kind_byte b) q)
      ∙ words_other l (address_of b / 4) (payload_of b) (length (payload_of b) / 4) k (outside q))
      (λ (q : kind_byte b ≡ 1 → ⊥). ap (λ x. get_or x k 0) (not_program (address_of b) (payload_of b) l (kind_byte b) q)) (cases_eq (kind_byte b) 1)

  words_in : (i k : ℕ) (l : List ℕ) → i < block_count image → length l ≡ length ws → CoversWord (block_at image i) k
      → get_or (words_put_by i l) k 0 ≡ word_at (payload_of (block_at image i)) (4 * (k - address_of (block_at image i) / 4))
  unfolding words_put_by
  words_in i k l h e c =
      let b = block_at image i in
      let long = payload_long i h in
      let fits = (room i h).for_words c.for_program in
      ap (λ x. get_or x k 0) (in_program (address_of b) (payload_of b) l (kind_byte b) c.for_program)
      ∙ words_inside l (address_of b / 4) (payload_of b) (length (payload_of b) / 4) k (k - address_of b / 4) (omega (arith, c.from)) (omega (arith, c.from, c.before)) (omega arith)

  words_next : (n : ℕ) → words_after image (suc n) ws ≡ words_put_by n (words_after image n ws)
  unfolding words_put_by words_after
  words_next n = refl

  words_start : words_after image 0 ws ≡ ws
  unfolding words_after
  words_start = refl

  pub words_loaded : (ws' : List ℕ) → ws' ≡ words_after image (block_count image) ws → WordsLoaded image ws ws'
  words_loaded ws' is =
      let W : ℕ → ℕ → Type 0 = λ i k. CoversWord (block_at image i) k in
      let v : ℕ → ℕ → ℕ = λ i k. word_at (payload_of (block_at image i)) (4 * (k - address_of (block_at image i) / 4)) in
      let n = block_count image in
      let A : ℕ → List ℕ = λ i. words_after image i ws in
      record {
        same_length = ap length is ∙ lengths n (length ws) words_put_by A words_next (ap length words_start) W v words_keep words_else words_in n (omega arith);
        loaded = λ k i c. ap (λ x. get_or x k 0) is
            ∙ covered n (length ws) words_put_by A words_next (ap length words_start) W v words_keep words_else words_in k i n (omega arith) c.inside c.covers c.no_later;
        kept = λ k f. ap (λ x. get_or x k 0) is
            ∙ uncovered n (length ws) words_put_by A words_next (ap length words_start) W v words_keep words_else words_in k n (omega arith) f ∙ ap (λ x. get_or x k 0) words_start;
      }

  unfoldable bytes_put_by : ℕ → List ℕ → List ℕ
  bytes_put_by i l = bytes_with (kind_byte (block_at image i)) (address_of (block_at image i)) (payload_of (block_at image i)) l

  bytes_room : (i : ℕ) (l : List ℕ) → i < block_count image → length l ≡ length d → kind_byte (block_at image i) ≡ 2 → address_of (block_at image i) + length (payload_of (block_at image i)) ≤ length l
  bytes_room i l h e q = omega (arith, (room i h).for_bytes q)

  bytes_keep : (i : ℕ) (l : List ℕ) → i < block_count image → length l ≡ length d → length (bytes_put_by i l) ≡ length d
  unfolding bytes_put_by
  bytes_keep i l h e =
      let b = block_at image i in
      ⊎_elim (λ (q : kind_byte b ≡ 2). ap length (in_data (address_of b) (payload_of b) l (kind_byte b) q) ∙ bytes_length l (address_of b) (payload_of b) (bytes_room i l h e q) ∙ e)
      (λ (q : kind_byte b ≡ 2 → ⊥). ap length (not_data (address_of b) (payload_of b) l (kind_byte b) q) ∙ e) (cases_eq (kind_byte b) 2)

  bytes_else : (i k : ℕ) (l : List ℕ) → i < block_count image → length l ≡ length d → (CoversByte (block_at image i) k → ⊥) → get_or (bytes_put_by i l) k 0 ≡ get_or l k 0
  unfolding bytes_put_by
  bytes_else i k l h e f =
      let b = block_at image i in
      let long = payload_long i h in
      let outside : kind_byte b ≡ 2 → (k < address_of b) ⊎ (address_of b + length (payload_of b) ≤ k) = λ q.
      ⊎_elim (λ (x : k < address_of b). inl x)
      (λ (x : address_of b ≤ k).
      ⊎_elim (λ (y : k < address_of b + count_of b). absurd (f (record { for_data = q; from = x; before = y })))
      (λ (y : address_of b + count_of b ≤ k). inr (omega arith)) (cases_lt k (address_of b + count_of b)))
      (cases_lt k (address_of b)) in
      ⊎_elim (λ (q : kind_byte b ≡ 2). ap (λ x. get_or x k 0) (in_data (address_of b) (payload_of b) l (kind_byte b) q)
      ∙ bytes_other l (address_of b) (payload_of b) k (bytes_room i l h e q) (outside q))
      (λ (q : kind_byte b ≡ 2 → ⊥). ap (λ x. get_or x k 0) (not_data (address_of b) (payload_of b) l (kind_byte b) q)) (cases_eq (kind_byte b) 2)

  bytes_in : (i k : ℕ) (l : List ℕ) → i < block_count image → length l ≡ length d → CoversByte (block_at image i) k
      → get_or (bytes_put_by i l) k 0 ≡ get_or (payload_of (block_at image i)) (k - address_of (block_at image i)) 0
  unfolding bytes_put_by
  bytes_in i k l h e c =
      let b = block_at image i in
      let long = payload_long i h in
      ap (λ x. get_or x k 0) (in_data (address_of b) (payload_of b) l (kind_byte b) c.for_data)
      ∙ bytes_inside l (address_of b) (payload_of b) k (bytes_room i l h e c.for_data) c.from (omega (arith, c.before))

  bytes_next : (n : ℕ) → bytes_after image (suc n) d ≡ bytes_put_by n (bytes_after image n d)
  unfolding bytes_put_by bytes_after
  bytes_next n = refl

  bytes_start : bytes_after image 0 d ≡ d
  unfolding bytes_after
  bytes_start = refl

  pub bytes_loaded : (d' : List ℕ) → d' ≡ bytes_after image (block_count image) d → BytesLoaded image d d'
  bytes_loaded d' is =
      let W : ℕ → ℕ → Type 0 = λ i k. CoversByte (block_at image i) k in
      let v : ℕ → ℕ → ℕ = λ i k. get_or (payload_of (block_at image i)) (k - address_of (block_at image i)) 0 in
      let n = block_count image in
      let A : ℕ → List ℕ = λ i. bytes_after image i d in
      record {
        same_length = ap length is ∙ lengths n (length d) bytes_put_by A bytes_next (ap length bytes_start) W v bytes_keep bytes_else bytes_in n (omega arith);
        loaded = λ k i c. ap (λ x. get_or x k 0) is
            ∙ covered n (length d) bytes_put_by A bytes_next (ap length bytes_start) W v bytes_keep bytes_else bytes_in k i n (omega arith) c.inside c.covers c.no_later;
        kept = λ k f. ap (λ x. get_or x k 0) is
            ∙ uncovered n (length d) bytes_put_by A bytes_next (ap length bytes_start) W v bytes_keep bytes_else bytes_in k n (omega arith) f ∙ ap (λ x. get_or x k 0) bytes_start;
      }

-- one turn of the loop that puts the blocks
module _ (image : List ℕ) (i : ℕ) (b : Block) (g : Holds (block_at image i) i b) where
  pub words_step : (ws x y : List ℕ) (j : ℕ) → x ≡ words_after image i ws → y ≡ words_with (kind_number b.kind) b.address b.payload.now x → j ≡ i + 1
      → y ≡ words_after image j ws
  unfolding words_after
  words_step ws x y j e f n =
      f ∙ ap (λ v. words_with v b.address b.payload.now x) g.kind_is ∙ ap (λ v. words_with (kind_byte (block_at image i)) v b.payload.now x) g.address_is
      ∙ ap (λ v. words_with (kind_byte (block_at image i)) (address_of (block_at image i)) v x) g.payload_is
      ∙ ap (words_with (kind_byte (block_at image i)) (address_of (block_at image i)) (payload_of (block_at image i))) e
      ∙ ap (λ v. words_after image v ws) (sym (n ∙ add-one i))

  pub bytes_step : (d x y : List ℕ) (j : ℕ) → x ≡ bytes_after image i d → y ≡ bytes_with (kind_number b.kind) b.address b.payload.now x → j ≡ i + 1
      → y ≡ bytes_after image j d
  unfolding bytes_after
  bytes_step d x y j e f n =
      f ∙ ap (λ v. bytes_with v b.address b.payload.now x) g.kind_is ∙ ap (λ v. bytes_with (kind_byte (block_at image i)) v b.payload.now x) g.address_is
      ∙ ap (λ v. bytes_with (kind_byte (block_at image i)) (address_of (block_at image i)) v x) g.payload_is
      ∙ ap (bytes_with (kind_byte (block_at image i)) (address_of (block_at image i)) (payload_of (block_at image i))) e
      ∙ ap (λ v. bytes_after image v d) (sym (n ∙ add-one i))

module _ (image l : List ℕ) where
  pub words_begin : (i : ℕ) → i ≡ 0 → l ≡ words_after image i l
  unfolding words_after
  words_begin i e = ap (λ v. words_after image v l) (sym e)

  pub bytes_begin : (i : ℕ) → i ≡ 0 → l ≡ bytes_after image i l
  unfolding bytes_after
  bytes_begin i e = ap (λ v. bytes_after image v l) (sym e)
