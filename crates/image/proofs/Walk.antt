-- A walk over the blocks of an image, one step at a time. A crate that reads an image by a `Reader` can cite these too.
use Rattle.std.proofs.Common.{◌≡◌, ℕ, ◌+◌, ◌-◌, ◌<◌, ◌≤◌, false, List, length, Some, None, Ok, Err, Option, Result, refl, sym, ap, ◌∙◌, subst, arith, below_more}
use Rattle.std.specs.Prelude.{◌==◌}
use Rattle.image.specs.declared.Ends.{Ends}
use Rattle.image.specs.declared.Fault.{Fault}
use Rattle.image.specs.declared.Fault.TheVariants.{Size}
use Rattle.image.specs.declared.Refusal.{Refusal}
use Rattle.image.specs.declared.block.Block.{Block}
use Rattle.image.specs.declared.reader.Reader.{Reader}
use Rattle.image.specs.Format.{block_count, block_at}
use Rattle.image.specs.Rules.{wrong_size, is_last, fault_at, refusing, first_refusal}
use Rattle.image.specs.Reading.{reader_image, reader_ends, reader_place, Holds, Parsed, Opened, Moved, Gave, Refusing, Stepped}
use Rattle.image.specs.Blocks.{YieldedBy}
use Rattle.image.specs.Laws.{Accepted, Refused}
use Rattle.image.proofs.Order.{Sound, refusing_some, accepted, refused, refused_size}

-- the reader stands within the image, and no block before its place breaks a rule
pub record Walked (image : List ℕ) (ends : Ends) (s : Reader) : Type 0 where
  pub sized : wrong_size image ≡ false
  pub over : reader_image s ≡ image
  pub against : reader_ends s ≡ ends
  pub at_most : reader_place s ≤ block_count image
  pub sound : Sound image ends (reader_place s)

-- what a step tells of the block that it gives
pub record Got (image : List ℕ) (ends : Ends) (s t : Reader) (block : Block) : Type 0 where
  pub inside : reader_place s < block_count image
  pub unbroken : fault_at image ends (reader_place s) ≡ None
  pub holds : Holds (block_at image (reader_place s)) (reader_place s) block
  pub next_place : reader_place t ≡ reader_place s + 1

module _ (image : List ℕ) (ends : Ends) where
  pub walk_start : (s : Reader) → Opened image ends (Ok s) → Walked image ends s
  walk_start s o = record { sized = o.sized; over = o.over; against = o.against; at_most = omega arith; sound = λ j l. absurd (omega arith) }

  pub walk_size : (r : Refusal) → Opened image ends (Err r) → (first_refusal image ends ≡ Some r) × Refused image ends r.fault r.block
  walk_size r o =
      let q : record { fault = Size; block = 0 } ≡ r = cc in
      subst (λ (x : Refusal). (first_refusal image ends ≡ Some x) × Refused image ends x.fault x.block) q (refused_size image ends o.0)

  module _ (s t : Reader) (w : Walked image ends s) where
    same : (i : ℕ) → fault_at (reader_image s) (reader_ends s) i ≡ fault_at image ends i
    same i = ap (λ l. fault_at l (reader_ends s) i) w.over ∙ ap (λ e. fault_at image e i) w.against

    count : block_count (reader_image s) ≡ block_count image
    count = ap block_count w.over

    pub walk_more : (b : Block) → Stepped s (Ok (Some b)) t → Walked image ends t
    walk_more b d =
        record {
          sized = w.sized;
          over = d.moved.same_image ∙ w.over;
          against = d.moved.same_ends ∙ w.against;
          at_most = omega (arith, count, d.moved.at_place);
          sound = subst (Sound image ends) (sym d.moved.at_place) (below_more _ _ w.sound (sym (same (reader_place s)) ∙ d.unbroken));
        }

    pub walk_got : (b : Block) → Stepped s (Ok (Some b)) t → Got image ends s t b
    walk_got b d =
        record {
          inside = omega (arith, count, d.inside);
          unbroken = sym (same (reader_place s)) ∙ d.unbroken;
          holds = subst (λ l. Holds (block_at l (reader_place s)) (reader_place s) b) w.over d.holds;
          next_place = d.moved.at_place;
        }

    -- a step leaves fewer blocks to come
    pub walk_falls : (b : Block) → Stepped s (Ok (Some b)) t → block_count image - reader_place t < block_count image - reader_place s
    walk_falls b d = omega (arith, count, d.inside, d.moved.at_place)

    pub walk_done : Stepped s (Ok None) t → (first_refusal image ends ≡ None) × Accepted image ends
    walk_done d = accepted image ends w.sized (λ j l. w.sound j (omega (arith, count, d.past)))

    -- at the end every block was given
    pub walk_all : Stepped s (Ok None) t → reader_place s ≡ block_count image
    walk_all d = omega (arith, count, d.past, w.at_most)

    pub walk_refused : (r : Refusal) → Stepped s (Err r) t → (first_refusal image ends ≡ Some r) × Refused image ends r.fault r.block
    walk_refused r d =
        let p = refusing_some (reader_place s) (fault_at (reader_image s) (reader_ends s) (reader_place s)) r d.broken in
        let at : Sound image ends r.block = subst (Sound image ends) p.1 w.sound in
        refused image ends w.sized r.block r.fault (omega (arith, count, d.inside, p.1)) at
        (ap (fault_at image ends) (sym p.1) ∙ sym (same (reader_place s)) ∙ p.0)

-- the step of the reader that some blocks come from

pub step_given : (o p : Option Reader) (s : Reader) → o ≡ Some s → (b : Block) → YieldedBy o (Some (Ok b)) p → (t : Reader) × (p ≡ Some t) × Stepped s (Ok (Some b)) t
step_given (Some x) (Some t) s e b y = let q : x ≡ s = cc in (t, refl, subst (λ z. Stepped z (Ok (Some b)) t) q y)
step_given (Some x) None s e b y = absurd y
step_given None p s e b y = absurd (cc)

pub step_refused : (o p : Option Reader) (s : Reader) → o ≡ Some s → (r : Refusal) → YieldedBy o (Some (Err r)) p → (t : Reader) × Stepped s (Err r) t
step_refused (Some x) None s e r y = let q : x ≡ s = cc in (y.0, subst (λ z. Stepped z (Err r) y.0) q y.1)
step_refused (Some x) (Some t) s e r y = absurd y
step_refused None p s e r y = absurd (cc)

pub step_ended : (o p : Option Reader) (s : Reader) → o ≡ Some s → YieldedBy o None p → (t : Reader) × Stepped s (Ok None) t
step_ended (Some x) None s e y = let q : x ≡ s = cc in (y.0, subst (λ z. Stepped z (Ok None) y.0) q y.1)
step_ended (Some x) (Some t) s e y = absurd y
step_ended None p s e y = absurd (cc)

-- what a step reads: the block at the reader's place, from the image's chunks
module _ (s : Reader) (bytes : List ℕ) (chunks : List (List ℕ)) where
  abbrev pub Reads : Type 0
  Reads = (length chunks ≡ block_count (reader_image s)) × (reader_place s < length chunks) × (bytes ≡ block_at (reader_image s) (reader_place s))

  parsed : Reads → (r : Result Block Fault) → Parsed bytes (reader_place s) (reader_place s + 1 == length chunks) (reader_ends s) r
      → Parsed (block_at (reader_image s) (reader_place s)) (reader_place s) (is_last (reader_image s) (reader_place s)) (reader_ends s) r
  parsed h r p =
      let q = subst (λ b. Parsed b (reader_place s) (reader_place s + 1 == length chunks) (reader_ends s) r) h.2 p in
      subst (λ n. Parsed (block_at (reader_image s) (reader_place s)) (reader_place s) (reader_place s + 1 == n) (reader_ends s) r) h.0 q

  pub gave : Reads → (b : Block) (t : Reader) → Moved s t (reader_place s + 1) → Parsed bytes (reader_place s) (reader_place s + 1 == length chunks) (reader_ends s) (Ok b) → Gave s t b
  gave h b t m p =
      let q = parsed h (Ok b) p in
      record { inside = omega arith; unbroken = q.0; holds = q.1; moved = m }

  pub refusing_there : Reads → (f : Fault) → Parsed bytes (reader_place s) (reader_place s + 1 == length chunks) (reader_ends s) (Err f)
      → Refusing s s (record { fault = f; block = reader_place s })
  refusing_there h f p =
      let q = parsed h (Err f) p in
      record { inside = omega arith; broken = ap (refusing (reader_place s)) q; stayed = record { same_image = refl; same_ends = refl; at_place = refl } }
