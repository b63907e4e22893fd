-- Calls of a memory of any kind, as generic code makes them on memories that it is lent. A kind is the whole of the ghost members of
-- the trait of all memories.
use Rattle.std.specs.Prelude.{◌≡◌, ℕ, Option}
use Rattle.memory.specs.Bytes.{fetched, word_at}
use Rattle.memory.specs.Promise.{answer_of, value_of, meaning_after, Keeps}
use Rattle.memory.specs.Settling.{Settled}
use Rattle.memory.specs.declared.access.Answer.{Answer}
use Rattle.memory.specs.declared.promise.Memory.{Ghosts as Kind}

-- s was asked x once, answered r and was left as t
pub record AskedOnce {S X : Type 0} (kind : Kind S X) (s : S) (x : X) (r : Answer) (t : S) : Type 0 where
  pub keeps : Keeps kind.sound kind.means kind.waits kind.fixed kind.does s x r t
  pub exact : kind.behaves s x r t

-- a fetch that was asked once, in the words of what a program memory shows: its words are as they were
pub record FetchAsked {S : Type 0} (kind : Kind S ℕ) (s : S) (address : ℕ) (r : Answer) (t : S) : Type 0 where
  pub keeps : Keeps kind.sound (λ u. kind.shows (kind.means u)) kind.waits kind.fixed fetched s address r t
  pub still : kind.means t ≡ kind.means s
  pub exact : kind.behaves s address r t

-- s was asked x until it answered, with a value or with nothing, and was left as t
pub record Settles {S X : Type 0} (kind : Kind S X) (s : S) (x : X) (value : Option ℕ) (t : S) : Type 0 where
  pub answer : value ≡ value_of (kind.does (kind.means s) x)
  pub meaning : kind.means t ≡ meaning_after (kind.does (kind.means s) x) (kind.means s)
  pub same : kind.fixed t ≡ kind.fixed s
  pub stays : kind.sound t
  pub exact : Settled kind.behaves kind.waits x s (answer_of (kind.does (kind.means s) x)) t

-- a fetch that was settled: a program memory's word at the address, and its words as they were
pub record FetchSettled {S : Type 0} (kind : Kind S ℕ) (s : S) (address : ℕ) (word : Option ℕ) (t : S) : Type 0 where
  pub answer : word ≡ word_at (kind.shows (kind.means s)) address
  pub meaning : kind.means t ≡ kind.means s
  pub same : kind.fixed t ≡ kind.fixed s
  pub stays : kind.sound t
  pub exact : Settled kind.behaves kind.waits address s (answer_of (fetched (kind.shows (kind.means s)) address)) t
