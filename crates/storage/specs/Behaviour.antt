-- The exact behaviour of storage: it never waits, and its bytes stay the caller's.
use Rattle.std.specs.Prelude.{◌≡◌, ℕ, Bool, List}
use Rattle.std.specs.Borrow.{MutBor}
use Rattle.memory.specs.Bytes.{plain}
use Rattle.memory.specs.Promise.{answer_of}
use Rattle.memory.specs.declared.access.Access.{Access}
use Rattle.memory.specs.declared.access.Answer.{Answer}
use Rattle.storage.specs.Contents.{cells_of, bytes_after}

-- Asked x over the bytes b, it answers r at once and leaves c, which are the same caller's.
pub record Accessed (used : ℕ → Bool) (b : MutBor (List ℕ)) (x : Access) (r : Answer) (c : MutBor (List ℕ)) : Type 0 where
  pub answer : r ≡ answer_of (plain (cells_of used b.now) x)
  pub bytes : c.now ≡ bytes_after used b.now x
  pub lent : c.ghost_name ≡ b.ghost_name
