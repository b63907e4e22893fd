-- The waits that a slow memory adds: all of its own before it asks the memory below, anew for each new request.
use Rattle.std.specs.Prelude.{ℕ, ◌+◌, ◌-◌, min, Bool, false, if◌then◌else◌, ◌&&◌, Some, None, Option, ◌==◌}
use Rattle.memory.specs.declared.access.Access.TheVariants.{Load, Store}
use Rattle.memory.specs.declared.access.Answer.{Answer}
use Rattle.memory.specs.declared.access.Answer.TheVariants.{Done, Absent, Wait}
use Rattle.memory.specs.declared.access.Request.{Request}
use Rattle.memory.specs.declared.access.Request.TheVariants.{Fetch, Data}
use Rattle.slow.specs.declared.counter_state.Waiting.{Waiting}
use Rattle.slow.specs.declared.counter_state.WaitCounter.{WaitCounter}

-- Two requests are the same if sort, address, width and value agree.
abbrev pub is_same : Request → Request → Bool
is_same (Fetch a) (Fetch b) = a == b
is_same (Fetch a) (Data x) = false
is_same (Data x) (Fetch b) = false
is_same (Data (Load a w)) (Data (Load b u)) = a == b && w == u
is_same (Data (Load a w)) (Data (Store b u t)) = false
is_same (Data (Store a w v)) (Data (Load b u)) = false
is_same (Data (Store a w v)) (Data (Store b u t)) = a == b && w == u && v == t

-- whether it is the request which waits
abbrev pub is_waiting : Option Waiting → Request → Bool
is_waiting None x = false
is_waiting (Some waiting) x = is_same waiting.request x

-- the own waits given so far to this request, if it is the one that waits
abbrev pub given_in : Option Waiting → Request → ℕ
given_in None x = 0
given_in (Some waiting) x = if is_same waiting.request x then waiting.given else 0

abbrev pub given_to : WaitCounter → Request → ℕ
given_to counter x = given_in counter.waiting x

-- the own waits still to be given before the memory below is asked
abbrev pub remaining : WaitCounter → Request → ℕ
remaining counter x = counter.own - given_to counter x

-- a new memory with n waits to each request; it gives no more than 255
abbrev pub new_counter : ℕ → WaitCounter
new_counter n = record { own = min n 255; waiting = None }

-- the request waits, with so many own waits given
abbrev pub waits_with : WaitCounter → Request → ℕ → WaitCounter
waits_with counter x given = record { own = counter.own; waiting = Some (record { request = x; given = given }) }

-- after one more own wait
abbrev pub after_own_wait : WaitCounter → Request → WaitCounter
after_own_wait counter x = waits_with counter x (given_to counter x + 1)

-- after the memory below has answered: while it waits the own waits stay given, and a request which ended is forgotten
abbrev pub after_below : WaitCounter → Request → Answer → WaitCounter
after_below counter x (Done value) = record { own = counter.own; waiting = None }
after_below counter x Absent = record { own = counter.own; waiting = None }
after_below counter x Wait = waits_with counter x (given_to counter x)
