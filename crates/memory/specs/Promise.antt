-- What every call of a memory promises, by what the memory means and by the waits that are open.
use Rattle.std.specs.Prelude.{◌≡◌, ℕ, ◌<◌, true, List, ◌++◌, codes, decimal, is_some, Some, None, Option}
use Rattle.std.specs.Option.{option_map}
use Rattle.memory.specs.Bytes.{Cells, loaded, word_at}
use Rattle.memory.specs.declared.access.Access.{Access}
use Rattle.memory.specs.declared.access.Access.TheVariants.{Load, Store}
use Rattle.memory.specs.declared.access.Answer.{Answer}
use Rattle.memory.specs.declared.access.Answer.TheVariants.{Done, Absent, Wait}

-- What an access does when it is not made to wait: nothing where it is absent, else the value answered and the meaning after it.
abbrev pub Effect : Type 0 → Type 0
Effect M = Option (ℕ × M)

-- the answer that is not wait: done with a value, or absent where there is none
abbrev pub answer_with : Option ℕ → Answer
answer_with None = Absent
answer_with (Some value) = Done value

-- an answer as people read it
abbrev pub answer_text : Answer → List ℕ
answer_text (Done value) = codes "done " ++ decimal value
answer_text Absent = codes "absent"
answer_text Wait = codes "wait"

abbrev pub answer_of : {M : Type 0} → Effect M → Answer
answer_of None = Absent
answer_of (Some done) = Done done.0

-- the value of a done access
abbrev pub value_of : {M : Type 0} → Effect M → Option ℕ
value_of None = None
value_of (Some done) = Some done.0

-- the meaning after an access that is not made to wait; one that is absent alters nothing
abbrev pub meaning_after : {M : Type 0} → Effect M → M → M
meaning_after None meaning = meaning
meaning_after (Some done) meaning = done.1

-- An answer: done or absent by the access's effect, with the meaning m before it and n after it; or wait, which alters no meaning and
-- leaves fewer waits open, q of p. So with none open no wait comes.
abbrev pub Says : {M : Type 0} → Effect M → (m n : M) → (p q : ℕ) → Answer → Type 0
Says effect m n p q (Done value) = effect ≡ Some (value, n)
Says effect m n p q Absent = (effect ≡ None) × (n ≡ m)
Says effect m n p q Wait = (n ≡ m) × (q < p)

-- A call that asked x of a memory s, was answered r and left it as t: the answer, what no call changes, and the condition of the kind.
pub record Keeps {S M K X : Type 0} (sound : S → Type 0) (means : S → M) (waits : S → X → ℕ) (fixed : S → K) (does : M → X → Effect M) (s : S) (x : X) (r : Answer) (t : S) : Type 0 where
  pub says : Says (does (means s) x) (means s) (means t) (waits s x) (waits t x) r
  pub same : fixed t ≡ fixed s
  pub stays : sound t

-- An access that is done is aligned, its width is 1, 2 or 4 and each of its bytes is shown; a done load answers these bytes.
abbrev pub Grounds : {M : Type 0} → Cells → Access → Effect M → Type 0
Grounds shown x None = Unit {0}
Grounds shown (Load address width) (Some done) = loaded shown address width ≡ Some done.0
Grounds shown (Store address width value) (Some done) = is_some (loaded shown address width) ≡ true

abbrev pub Grounded : {M : Type 0} → (M → Access → Effect M) → (M → Cells) → Type 0
Grounded {M} does shows = (m : M) (x : Access) → Grounds (shows m) x (does m x)

-- A fetch answers the word that is shown at a multiple of 4, or is absent, and alters nothing.
abbrev pub Fetches : {M : Type 0} → (M → ℕ → Effect M) → (M → Cells) → Type 0
Fetches {M} does shows = (m : M) (address : ℕ) → does m address ≡ option_map (λ (word : ℕ). (word, m)) (word_at (shows m) address)
