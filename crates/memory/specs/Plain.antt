-- A data memory of plain bytes: its meaning is its bytes and no more.
use Rattle.std.specs.Prelude.{◌≡◌, ℕ}
use Rattle.std.specs.Option.{option_map}
use Rattle.memory.specs.Bytes.{Cells, plain}
use Rattle.memory.specs.Promise.{Effect, meaning_after}
use Rattle.memory.specs.declared.access.Access.{Access}
use Rattle.memory.specs.declared.access.Access.TheVariants.{Load}

-- Each access answers, and leaves of the bytes shown, what it does on plain bytes; and a load leaves all as it was.
pub record Plainly {M : Type 0} (does : M → Access → Effect M) (shows : M → Cells) : Type 0 where
  pub bytes : (m : M) (x : Access) → option_map (λ (done : ℕ × M). (done.0, shows done.1)) (does m x) ≡ plain (shows m) x
  pub still : (m : M) (address width : ℕ) → meaning_after (does m (Load address width)) m ≡ m
