-- How much a memory uses at most, and the refusal where it is checked over more.
use Rattle.std.specs.Prelude.{ℕ, if◌then◌else◌, List, codes, Ok, Err, Result, nat_le}
use Rattle.storage.specs.declared.limit.LimitRefusal.{LimitRefusal}
use Rattle.storage.specs.declared.limit.LimitRefusal.TheVariants.{TooLong}

-- the number of each refusal
abbrev pub refusal_number : LimitRefusal → ℕ
refusal_number TooLong = 1

-- each refusal as people read it
abbrev pub refusal_text : LimitRefusal → List ℕ
refusal_text TooLong = codes "more words or bytes than the memory uses"

-- a check of so many words or bytes against a limit
abbrev pub checked_by : (limit count : ℕ) → Result (Unit {0}) LimitRefusal
checked_by limit count = if nat_le count limit then Ok tt else Err TooLong
