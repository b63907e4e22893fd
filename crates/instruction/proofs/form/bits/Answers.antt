use Rattle.std.proofs.Common.{ℕ, ◌-◌, ◌/◌, ◌^◌, ap, ◌∙◌, rules}
use Rattle.std.proofs.lemmas.Nat.{one_shl, and_mask}
use lib.Bits.{bit_and}
use Rattle.instruction.proofs.form.bits.Goals as goal

pub returns : goal.returns
returns c =
    ap (λ (m : ℕ). bit_and (c.args.word / 2 ^ c.args.low) (m - 1)) (one_shl c.args.width 32 (search rules))
    ∙ and_mask (c.args.word / 2 ^ c.args.low) c.args.width
