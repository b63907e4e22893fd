-- Numbers gathered from bytes, and bytes stored from numbers.
use Rattle.std.proofs.Common.{◌≡◌, ℕ, zero, suc, ◌+◌, ◌*◌, ◌/◌, ◌%◌, ◌^◌, ◌<◌, ◌≤◌, Bool, true, false, cond, ◌≢◌, ◌⊎◌, Some, None, Option, sym, refl, ap, ◌∙◌, subst, inl, inr, div-one, arith}
use native.Mathlib.Nat.{div-div-eq-div-mul, pow-succ'}
use Rattle.std.proofs.lemmas.Bool.{eq-eqb, ne_eqb}
use Rattle.std.proofs.lemmas.Option.{none-some}
use Rattle.std.specs.Option.{option_map}
use Rattle.memory.specs.Bytes.{Cells, joined, gathered, replaced, stored, is_aligned, loaded}
use Rattle.memory.specs.ByteLaws.{byte_of, AreBytes, ByteLaws}

-- bytes that are equal where they are gathered
gathered_same : (m n : Cells) (k a : ℕ) → ((i : ℕ) → a ≤ i → i < a + k → m i ≡ n i) → gathered m a k ≡ gathered n a k
gathered_same m n zero a h = refl
gathered_same m n (suc k) a h =
    let first : m a ≡ n a = h a (omega arith) (omega arith) in
    let others = gathered_same m n k (a + 1) (λ i p q. h i (omega arith) (omega arith)) in
    cc

-- the lowest byte and the number above it
record Parts (low high : Option ℕ) (value : ℕ) : Type 0 where
  byte : ℕ
  above : ℕ
  low_is : low ≡ Some byte
  high_is : high ≡ Some above
  whole : byte + 256 * above ≡ value

parts : (low high : Option ℕ) (value : ℕ) → joined low high ≡ Some value → Parts low high value
parts None high value e = absurd (none-some value e)
parts (Some b) None value e = absurd (none-some value e)
parts (Some b) (Some a) value e = record { byte = b; above = a; low_is = refl; high_is = refl; whole = cc }

byte_zero : (v : ℕ) → byte_of v 0 ≡ v % 256
byte_zero v = ap (λ (n : ℕ). n % 256) (div-one v)

byte_suc : (v i : ℕ) → byte_of v (suc i) ≡ byte_of (v / 256) i
byte_suc v i = ap (λ (n : ℕ). n % 256) (ap (λ (n : ℕ). v / n) (pow-succ' 256 i) ∙ sym (div-div-eq-div-mul v 256 (256 ^ i)))

-- a store does not reach the bytes outside it
stored_outside : (n : ℕ) (m : Cells) (a v k : ℕ) → (k < a) ⊎ (a + n ≤ k) → stored m a n v k ≡ m k
stored_outside zero m a v k h = refl
stored_outside (suc n) m a v k h =
    let away : k ≢ a = elim h [ inl l ↦ (λ e. absurd (omega arith)) | inr g ↦ (λ e. absurd (omega arith)) ] in
    let further : (k < a + 1) ⊎ (a + 1 + n ≤ k) = elim h [ inl l ↦ inl (omega arith) | inr g ↦ inr (omega arith) ] in
    stored_outside n (replaced m a (v % 256)) (a + 1) (v / 256) k further ∙ rw (ne_eqb k a away)

-- where all bytes are there, it leaves the value in them
stored_inside : (n : ℕ) (m : Cells) (a v x : ℕ) → gathered m a n ≡ Some x → (i k : ℕ) → k ≡ a + i → i < n → stored m a n v k ≡ Some (byte_of v i)
stored_inside zero m a v x e i k at l = absurd (omega arith)
stored_inside (suc n) m a v x e zero k at l =
    let r = parts (m a) (gathered m (a + 1) n) x e in
    let here : k ≡ a = omega arith in
    let there : m k ≡ Some r.byte = ap m here ∙ r.low_is in
    let z = byte_zero v in
    stored_outside n (replaced m a (v % 256)) (a + 1) (v / 256) k (inl (omega arith)) ∙ rw (eq-eqb k a here, there, z) refl
stored_inside (suc n) m a v x e (suc i) k at l =
    let r = parts (m a) (gathered m (a + 1) n) x e in
    let above : gathered (replaced m a (v % 256)) (a + 1) n ≡ Some r.above =
    gathered_same (replaced m a (v % 256)) m n (a + 1) (λ j p q. let away : j ≢ a = (λ e. absurd (omega arith)) in rw (ne_eqb j a away)) ∙ r.high_is in
    stored_inside n (replaced m a (v % 256)) (a + 1) (v / 256) r.above above i k (omega arith) (omega arith) ∙ ap Some (sym (byte_suc v i))

-- a number that is gathered has each byte at its place
gathered_holds : (n : ℕ) (m : Cells) → AreBytes m → (a v : ℕ) → gathered m a n ≡ Some v → (i k : ℕ) → k ≡ a + i → i < n → m k ≡ Some (byte_of v i)
gathered_holds zero m small a v e i k at l = absurd (omega arith)
gathered_holds (suc n) m small a v e zero k at l =
    let r = parts (m a) (gathered m (a + 1) n) v e in
    let here : k ≡ a = omega arith in
    let there : m k ≡ Some r.byte = ap m here ∙ r.low_is in
    let b = small a r.byte r.low_is in
    let w = r.whole in
    let z = byte_zero v in
    let same : r.byte ≡ byte_of v 0 = sym (z ∙ (omega arith)) in
    there ∙ ap Some same
gathered_holds (suc n) m small a v e (suc i) k at l =
    let r = parts (m a) (gathered m (a + 1) n) v e in
    let b = small a r.byte r.low_is in
    let w = r.whole in
    let q : r.above ≡ v / 256 = omega arith in
    gathered_holds n m small (a + 1) r.above r.high_is i k (omega arith) (omega arith)
    ∙ ap Some (ap (λ (x : ℕ). byte_of x i) q ∙ sym (byte_suc v i))

gathered_short : (n : ℕ) (m : Cells) → AreBytes m → (a v : ℕ) → gathered m a n ≡ Some v → v < 256 ^ n
gathered_short zero m small a v e = let z : v ≡ 0 = cc in omega arith
gathered_short (suc n) m small a v e =
    let r = parts (m a) (gathered m (a + 1) n) v e in
    let b = small a r.byte r.low_is in
    let h = gathered_short n m small (a + 1) r.above r.high_is in
    let w = r.whole in
    let p = pow-succ' 256 n in
    omega arith

-- an access that is done has gathered its bytes
gathers : (t : Bool) (need : Option ℕ) (v : ℕ) → cond t need None ≡ Some v → need ≡ Some v
gathers true need v e = e
gathers false need v e = absurd (none-some v e)

record Done {M : Type 0} (f : ℕ → ℕ) (m : M) (need : Option ℕ) (answer : ℕ) (after : M) : Type 0 where
  number : ℕ
  need_is : need ≡ Some number
  answer_is : f number ≡ answer
  after_is : m ≡ after

done : {M : Type 0} (f : ℕ → ℕ) (m : M) (need : Option ℕ) (answer : ℕ) (after : M) → option_map {U = ℕ × M} (λ (n : ℕ). (f n, m)) need ≡ Some (answer, after)
    → Done f m need answer after
done f m None answer after e = absurd (none-some (answer, after) e)
done {M} f m (Some n) answer after e =
    let pair : ◌≡◌ {A = ℕ × M} (f n, m) (answer, after) = cc in
    record { number = n; need_is = refl; answer_is = ap (λ (z : ℕ × M). z.0) pair; after_is = ap (λ (z : ℕ × M). z.1) pair }

pub byte_laws : ByteLaws
byte_laws =
    record {
      stores = λ before after a w v answer e.
          let d = done (λ _. 0) (stored before a w v) (loaded before a w) answer after e in
          let g = gathers (is_aligned a w) (gathered before a w) d.number d.need_is in
          let same = d.after_is in
          record {
            inside = λ i l. subst (λ (c : Cells). c (a + i) ≡ Some (byte_of v i)) same (stored_inside w before a v d.number g i (a + i) refl l);
            outside = λ k h. subst (λ (c : Cells). c k ≡ before k) same (stored_outside w before a v k h);
          };
      loads = λ before after a w answer small e.
          let d = done (λ n. n) before (loaded before a w) answer after e in
          let g : gathered before a w ≡ Some answer = gathers (is_aligned a w) (gathered before a w) d.number d.need_is ∙ ap Some d.answer_is in
          record {
            holds = λ i l. gathered_holds w before small a answer g i (a + i) refl l;
            short = gathered_short w before small a answer g;
            still = sym d.after_is;
          };
    }
