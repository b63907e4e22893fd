-- A loop that asks a memory until it is answered.
use Rattle.std.proofs.Common.{◌≡◌, ℕ, suc, ◌+◌, ◌≤◌, Some, None, Option, sym, refl, ap, ◌∙◌, subst, arith}
use Rattle.memory.specs.Calls.{AskedOnce, Settles, FetchSettled}
use Rattle.memory.specs.Bytes.{word_at}
use Rattle.memory.specs.Promise.{Effect, Fetches, answer_of, value_of, meaning_after}
use Rattle.memory.specs.Settling.{Waited, Settled}
use Rattle.memory.specs.declared.access.Answer.{Answer}
use Rattle.memory.specs.declared.access.Answer.TheVariants.{Done, Absent, Wait}
use Rattle.memory.proofs.Answers.{after_read, value_read, answer_read}
use Rattle.memory.specs.declared.promise.Memory.{Ghosts as Kind}

module _ {S X : Type 0} (kind : Kind S X) (x : X) (s : S) where
  -- at the start of a turn: so many waits since s, and the meaning as it was
  pub record Asking (t : S) : Type 0 where
    pub count : ℕ
    pub waited : Waited kind.behaves x count s t
    pub fewer : count + kind.waits t x ≤ kind.waits s x
    pub meaning : kind.means t ≡ kind.means s
    pub same : kind.fixed t ≡ kind.fixed s
    pub stays : kind.sound t

  pub asking_none : kind.sound s → Asking s
  asking_none h = record { count = 0; waited = refl; fewer = omega arith; meaning = refl; same = refl; stays = h }

  module _ (t u : S) (asking : Asking t) where
    pub asking_more : AskedOnce kind t x Wait u → Asking u
    asking_more once =
        let says = once.keeps.says in
        record {
          count = suc asking.count;
          waited = (t, asking.waited, once.exact);
          fewer = omega (arith, says.1, asking.fewer);
          meaning = says.0 ∙ asking.meaning;
          same = once.keeps.same ∙ asking.same;
          stays = once.keeps.stays;
        }

    settled : (r : Answer) → kind.behaves t x r u → r ≡ answer_of (kind.does (kind.means s) x)
        → Settled kind.behaves kind.waits x s (answer_of (kind.does (kind.means s) x)) u
    settled r b e =
        record {
          count = asking.count;
          last = t;
          waited = asking.waited;
          ended = subst (λ (z : Answer). kind.behaves t x z u) e b;
          within = omega (arith, asking.fewer);
        }

    pub settled_done : (v : ℕ) → AskedOnce kind t x (Done v) u → Settles kind s x (Some v) u
    settled_done v once =
        let e : kind.does (kind.means s) x ≡ Some (v, kind.means u) = ap (λ (m : kind.Meaning). kind.does m x) (sym asking.meaning) ∙ once.keeps.says in
        record {
          answer = ap value_of (sym e);
          meaning = ap (λ (z : Effect kind.Meaning). meaning_after z (kind.means s)) (sym e);
          same = once.keeps.same ∙ asking.same;
          stays = once.keeps.stays;
          exact = settled (Done v) once.exact (ap answer_of (sym e));
        }

    pub settled_absent : AskedOnce kind t x Absent u → Settles kind s x None u
    settled_absent once =
        let says = once.keeps.says in
        let e : kind.does (kind.means s) x ≡ None = ap (λ (m : kind.Meaning). kind.does m x) (sym asking.meaning) ∙ says.0 in
        record {
          answer = ap value_of (sym e);
          meaning = says.1 ∙ asking.meaning ∙ ap (λ (z : Effect kind.Meaning). meaning_after z (kind.means s)) (sym e);
          same = once.keeps.same ∙ asking.same;
          stays = once.keeps.stays;
          exact = settled Absent once.exact (ap answer_of (sym e));
        }

-- what a fetch settles on, by what program memories promise of fetches
module _ {S : Type 0} (kind : Kind S ℕ) (fetches : Fetches kind.does kind.shows) (s : S) (address : ℕ) (word : Option ℕ) (t : S) where
  pub settled_fetch : Settles kind s address word t → FetchSettled kind s address word t
  settled_fetch settles =
      let o = word_at (kind.shows (kind.means s)) address in
      let f = fetches (kind.means s) address in
      record {
        answer = settles.answer ∙ ap value_of f ∙ value_read o (kind.means s);
        meaning = settles.meaning ∙ ap (λ (z : Effect kind.Meaning). meaning_after z (kind.means s)) f ∙ after_read o (kind.means s);
        same = settles.same;
        stays = settles.stays;
        exact =
            subst (λ (r : Answer). Settled kind.behaves kind.waits address s r t)
            (ap answer_of f ∙ answer_read o (kind.means s) (kind.shows (kind.means s))) settles.exact;
      }
